-- A network by the rules is good and within the limits, and so is what a run leaves of it, which a struct that holds it follows. Assumes nothing.
use Prim.Native.Nat.{ℕ, ◌≤◌}
use mathlib.Core.Path.{◌≡◌, ap, ◌∙◌}
use mathlib.Core.Bool.{true}
use native.Mathlib.Omega.{arith}
use lib.ListN.{length}
use Rattle.network.specs.{Net.Net, Evaluation.evaluate, Handed.Shaped, Handed.Holds, Answers.evaluated}
use Rattle.network.specs.Held.{net_of, rules, most_inputs, most_outputs}
use Rattle.network.{specs.declared.Network.Network, specs.declared.Number.TheVariants.Is, proofs.Handing.holds-net}
use Rattle.network.proofs.Ruling.{rules-lawful, holds-lawful}
use Rattle.extract_laws.specs.{Run.run, Meaning.Good, Meaning.Within}
use Rattle.extract_laws.proofs.Keeping.{run-inputs, run-outputs, run-good, run-within, run-evaluate}

module _ (n : Network) (shape : Shaped n) (r : rules n ≡ true) where
  -- what the rules say, but for the limits
  pub rules-good : Good (net_of n)
  rules-good = (rules-lawful n shape r).good

  -- and the limits
  pub rules-within : Within (net_of n)
  rules-within = (rules-lawful n shape r).within

-- a struct that holds a good network within the limits follows the rules
pub holds-rules : (n : Network) (m : Net) → Holds n m → Good m → Within m
    → (1 ≤ m.inputs) × (m.inputs ≤ most_inputs) → (1 ≤ length m.outputs) × (length m.outputs ≤ most_outputs) → rules n ≡ true
holds-rules n m h g w i o = holds-lawful n m h (record { inputs = i; outputs = o; within = w; good = g })

-- ---- a run from a network by the rules

module _ (n p : Network) (shape : Shaped n) (k : ℕ) (r : rules n ≡ true) (h : Holds p (run k (net_of n)).network) where
  good : Good (net_of n)
  good = rules-good n shape r

  left : Good (run k (net_of n)).network
  left = run-good k (net_of n) good

  -- what is handed back follows the rules and keeps the limits
  pub run-rules : rules p ≡ true
  run-rules =
      let w = rules-lawful n shape r in
      holds-rules p (run k (net_of n)).network h left (run-within k (net_of n) good (rules-within n shape r))
      (omega (arith, w.inputs, run-inputs k (net_of n))) (omega (arith, w.outputs, run-outputs k (net_of n)))

  -- and gives the same outputs for every setting
  pub run-evaluated : (s : ℕ) → evaluated p s ≡ evaluated n s
  unfolding evaluated
  run-evaluated s = rw (run-rules, r)
      (ap Is (ap (λ (z : Net). evaluate z s) (holds-net p (run k (net_of n)).network h left.in_turn) ∙ run-evaluate k (net_of n) good s))
