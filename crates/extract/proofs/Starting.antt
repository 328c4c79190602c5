-- Where a run starts: from the network in cube order, or nowhere where a rule is broken. Assumes nothing.
use Prim.Native.Nat.{ℕ}
use mathlib.Core.Path.{◌≡◌, refl, sym, ◌∙◌, subst}
use mathlib.Core.{Bool.true, Bool.false, Option.some}
use native.Mathlib.Omega.{arith}
use Rattle.sets.proofs.Lists.{◌∈◌}
use Rattle.network.specs.{Net.Net, Net.nodes, Held.net_of, Held.rules, declared.Network.Network}
use Rattle.network.specs.Handed.{Holds, AllZero, Shaped}
use Rattle.network.proofs.{Ruling.rules-lawful, Handing.holds-net}
use Rattle.extract_laws.specs.Run.{run_from, in_order, run}
use Rattle.extract_laws.{specs.Meaning.Good, specs.Meaning.Within, proofs.Arranging.in-order-ordered, proofs.Preparing.prepare-same}
use Rattle.extract_laws.proofs.Arranging.{in-order-inputs, in-order-outputs, in-order-variables, in-order-cubes, in-order-literals, in-order-good}
use Rattle.extract_laws.proofs.Following.{rules-good, rules-within, holds-rules}
use Rattle.extract_tidy.proofs.Arranged.{arranged-in}
use Rattle.extract.specs.Answers.{no_steps, run_on, Told}
use Rattle.extract.specs.{Parts.Runnable, declared.Answer.TheVariants.Refused, declared.Ran.Ran}

module _ (n p : Network) (shape : Shaped n)
    (r : rules n ≡ true) (h : Holds p (in_order (net_of n))) where
  good : Good (in_order (net_of n))
  good = in-order-good (net_of n) (rules-good n shape r)

  within : Within (in_order (net_of n))
  within = let w = rules-within n shape r in record {
    variables = omega (arith, in-order-variables (net_of n), w.variables);
    cubes = omega (arith, in-order-cubes (net_of n), w.cubes);
    literals = omega (arith, in-order-literals (net_of n), w.literals);
  }

  start_is : net_of p ≡ in_order (net_of n)
  start_is = holds-net p (in_order (net_of n)) h good.in_turn

  lawful : rules p ≡ true
  lawful =
      let w = rules-lawful n shape r in
      holds-rules p (in_order (net_of n)) h good within (omega (arith, w.inputs, in-order-inputs (net_of n)))
      (omega (arith, w.outputs, in-order-outputs (net_of n)))

  -- a run can start from it
  pub start-ready : Runnable p
  start-ready = record {
    lawful = lawful;
    tidy = arranged-in p lawful (λ f m.
        in-order-ordered (net_of n) (rules-good n shape r) f (subst (λ (z : Net). f ∈ nodes z) start_is m));
    held = subst (Holds p) (sym start_is) h;
  }

  -- and is the run of the network
  pub start-told : (k : ℕ) (t : Ran) → Told (some (run_from k (net_of p))) t → Told (run_on k n) t
  unfolding run_on run
  start-told k t g = rw r (subst (λ (z : Net). Told (some (run_from k z)) t) (start_is ∙ sym (prepare-same (in_order (net_of n)))) g)

-- no step where a rule is broken
pub refused-told : (k : ℕ) (n : Network) (t : Ran) → rules n ≡ false → t.answer ≡ Refused 10 → AllZero t.network → t.steps ≡ no_steps
    → Told (run_on k n) t
unfolding run_on
refused-told k n t r a b e = rw r (a, b, rw e (record { number = refl; steps = refl; rest = refl }))
