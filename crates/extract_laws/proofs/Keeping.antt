-- What steps keep, and so a run: the rules on networks, the outputs for every setting, the limits; the literal count falls by the sum of
-- the weights. Assumes nothing.
use Prim.Native.Nat.{ℕ, ◌+◌, ◌≤◌, max}
use mathlib.Core.Path.{◌≡◌, refl, sym, ap, ◌∙◌, subst}
use mathlib.Core.{Logic.inl, Logic.inr, Bool.true}
use mathlib.Core.List.Memᴰ
use mathlib.Core.List.{List, [], ◌∷◌}
use native.Mathlib.Omega.{arith}
use lib.ListN.{length, length-map}
use lib.IntN.{pos, neg_ℤ, ◌+ℤ◌, ◌-ℤ◌, +ℤ_idr, +ℤ_assoc, neg_ℤ-+ℤ}
use Rattle.sets.proofs.Lists.{◌∈◌}
use Rattle.expression.specs.Expression.{ordered}
use Rattle.network.specs.Net.{Net, nodes, variables, cube_count, literal_count}
use Rattle.network.specs.{Evaluation.evaluate, Held.most_variables, Held.most_cubes}
use Rattle.extract_laws.specs.{Divisor.Divisor, Extract.weight, Extract.step, Meaning.Leads.stay, Meaning.Leads.onward}
use Rattle.extract_laws.specs.Run.{Made, making, prepare, in_order, start_of, run}
use Rattle.extract_laws.specs.Meaning.{Good, Within, Fit, Worth, Leads, StepOf, fall}
use Rattle.extract_laws.proofs.{Weighing.step-literals, Weighing.step-smaller, Offering.candidate-fit}
use Rattle.extract_laws.proofs.{Making.step-variables, Stepping.step-good, Stepping.step-evaluate}
use Rattle.extract_laws.proofs.Arranging.{in-order-literals, in-order-cubes, in-order-inputs, in-order-outputs, in-order-variables}
use Rattle.extract_laws.proofs.Arranging.{in-order-evaluate, in-order-good, in-order-ordered}
use Rattle.extract_laws.proofs.Preparing.{prepare-same, prepare-keeps}
use Rattle.extract_laws.proofs.Running.{run-leads, run-arranged}

-- ---- steps

-- a divisor that is worth a step can be taken
pub worth-fit : {n : Net} {d : Divisor} → Good n → Worth n d → Fit n d
worth-fit {n} {d} g w = candidate-fit n g d w.best.chosen

-- a network after a step, prepared
abbrev after : Net → Divisor → Net
after n d = prepare (step n d)

after-good : {n : Net} {d : Divisor} → Good n → Worth n d → Good (after n d)
after-good {n} {d} g w = prepare-keeps.good (step n d) (step-good n g d (worth-fit g w))

-- the inputs and outputs stay
leads-inputs : {n m : Net} {l : List Made} → Leads n l m → m.inputs ≡ n.inputs
leads-inputs stay = refl
leads-inputs (onward {n = n} d w a b t) = leads-inputs t ∙ prepare-keeps.inputs (step n d)

leads-outputs : {n m : Net} {l : List Made} → Leads n l m → length m.outputs ≡ length n.outputs
leads-outputs stay = refl
leads-outputs (onward {n = n} d w a b t) = leads-outputs t ∙ prepare-keeps.outputs (step n d) ∙ length-map n.outputs _

-- the most variables and cubes are not passed by a step
leads-numbers : {n m : Net} {l : List Made} → Leads n l m → variables m ≤ max most_variables (variables n)
leads-numbers stay = omega arith
leads-numbers (onward {n = n} d w a b t) = omega (arith, leads-numbers t, prepare-keeps.variables (step n d), step-variables n d)

leads-cubes : {n m : Net} {l : List Made} → Leads n l m → cube_count m ≤ max most_cubes (cube_count n)
leads-cubes stay = omega arith
leads-cubes (onward {n = n} d w a b t) = omega (arith, leads-cubes t, prepare-keeps.cubes (step n d))

-- the rules are kept
leads-good : {n m : Net} {l : List Made} → Leads n l m → Good n → Good m
leads-good stay g = g
leads-good (onward d w a b t) g = leads-good t (after-good g w)

-- outputs are the same for every setting
leads-evaluate : {n m : Net} {l : List Made} → Leads n l m → Good n → (s : ℕ) → evaluate m s ≡ evaluate n s
leads-evaluate stay g s = refl
leads-evaluate (onward {n = n} d w a b t) g s =
    let f = worth-fit g w in
    leads-evaluate t (after-good g w) s ∙ prepare-keeps.evaluate (step n d) (step-good n g d f) s ∙ step-evaluate n g d f s

-- each step takes one literal off at least
leads-fewer : {n m : Net} {l : List Made} → Leads n l m → Good n → literal_count m + length l ≤ literal_count n
leads-fewer stay g = omega arith
leads-fewer (onward {n = n} d w a b t) g =
    omega (arith, leads-fewer t (after-good g w), prepare-keeps.literals (step n d), step-smaller n g d (worth-fit g w).whole w.above)

-- each step is made of the best divisor of the network that those before it lead to
pub leads-counts : {n m : Net} {l : List Made} → Leads n l m → Good n → (s : Made) → s ∈ l → StepOf n l s
leads-counts stay g s i = absurd (Memᴰ.not-nil i)
leads-counts (onward {n = n} {l = l} d w a b t) g s i = elim (Memᴰ.cases_cons i) [
  | inl p ↦ rw p (record {
    earlier = [];
    later = l;
    on = n;
    stands = refl;
    path = stay;
    best = w;
    is = refl;
    falls = step-literals n g d (worth-fit g w).whole;
  })
  | inr j ↦ let r = leads-counts t (after-good g w) s j in record {
    earlier = making n d ∷ r.earlier;
    later = r.later;
    on = r.on;
    stands = ap (making n d ∷◌) r.stands;
    path = onward d w a b r.path;
    best = r.best;
    is = r.is;
    falls = r.falls;
  }
]

-- nothing is done before a step, and so the literal count falls by exactly the sum of the weights
pub leads-literals : {n m : Net} {l : List Made} → Leads n l m → Good n → pos (literal_count m) ≡ pos (literal_count n) -ℤ fall l
unfolding fall
leads-literals (stay {n = n}) g = sym (+ℤ_idr (pos (literal_count n)))
leads-literals (onward {n = n} {l = l} d w a b t) g =
    leads-literals t (after-good g w)
    ∙ ap (λ p. pos (literal_count p) -ℤ fall l) (prepare-same (step n d))
    ∙ ap (◌-ℤ fall l) (step-literals n g d (worth-fit g w).whole)
    ∙ +ℤ_assoc (pos (literal_count n)) (neg_ℤ (weight n d)) (neg_ℤ (fall l)) ∙ ap (pos (literal_count n) +ℤ◌) (sym (neg_ℤ-+ℤ (weight n d) (fall l)))

-- ---- a run

pub start-good : (n : Net) → Good n → Good (start_of n)
start-good n g = prepare-keeps.good (in_order n) (in-order-good n g)

module _ (k : ℕ) (n : Net) where
  -- the inputs and outputs stay
  pub run-inputs : (run k n).network.inputs ≡ n.inputs
  run-inputs = leads-inputs (run-leads k n) ∙ prepare-keeps.inputs (in_order n) ∙ in-order-inputs n

  pub run-outputs : length (run k n).network.outputs ≡ length n.outputs
  run-outputs = leads-outputs (run-leads k n) ∙ prepare-keeps.outputs (in_order n) ∙ in-order-outputs n

  module _ (g : Good n) where
    -- the rules are kept, and the cubes handed back are in cube order
    pub run-good : Good (run k n).network
    run-good = leads-good (run-leads k n) (start-good n g)

    pub run-ordered : (f : List (List ℕ)) → f ∈ nodes (run k n).network → ordered f ≡ true
    run-ordered f m = in-order-ordered (run k n).network run-good f (subst (λ (z : Net). f ∈ nodes z) (sym (run-arranged k n)) m)

    -- outputs after a run are those before, for every setting
    pub run-evaluate : (s : ℕ) → evaluate (run k n).network s ≡ evaluate n s
    run-evaluate s =
        leads-evaluate (run-leads k n) (start-good n g) s ∙ prepare-keeps.evaluate (in_order n) (in-order-good n g) s ∙ in-order-evaluate n s

    -- the literal count falls by exactly the sum of the steps' weights
    pub run-literals : pos (literal_count (run k n).network) ≡ pos (literal_count n) -ℤ fall (run k n).steps
    run-literals =
        leads-literals (run-leads k n) (start-good n g)
        ∙ ap (λ z. pos z -ℤ fall (run k n).steps) (ap literal_count (prepare-same (in_order n)) ∙ in-order-literals n)

    -- the limits are kept
    pub run-within : Within n → Within (run k n).network
    run-within h = let l = run-leads k n in record {
      variables = omega (arith, leads-numbers l, prepare-keeps.variables (in_order n), in-order-variables n, h.variables);
      cubes = omega (arith, leads-cubes l, prepare-keeps.cubes (in_order n), in-order-cubes n, h.cubes);
      literals = omega (arith, leads-fewer l (start-good n g), prepare-keeps.literals (in_order n), in-order-literals n, h.literals);
    }
