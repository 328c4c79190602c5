-- The answer as the code has it. Assumes nothing.
use Prim.Native.Nat.{ℕ, ◌-◌}
use mathlib.Core.Path.{◌≡◌, ap, ap₂, ◌∙◌}
use mathlib.Core.Bool.{true, false}
use mathlib.Core.List.{List, [], map}
use lib.ListN.{length, take, replicate}
use lib.Seq.{take-append_seam}
use Rattle.sets.specs.Masks.{bit, packed}
use Rattle.network_known.specs.Known.{Truths, some_within}
use Rattle.network.specs.{Listing.listing, Evaluation.evaluate, Answers.evaluated, declared.Network.Network}
use Rattle.network.specs.Held.{net_of, rules, most_variables}
use Rattle.network.specs.declared.Number.TheVariants.{Is, No}
use Rattle.network.proofs.Holding.{rules-sound}
use Rattle.network_listing.specs.Parts.{PaddedList}
use Rattle.network_evaluate.specs.Parts.{settled_in}
use Rattle.network_evaluate.proofs.Settling.{outputs-value}

-- the numbers in use of a list handed out
pub taken : (l : List ℕ) {count : ℕ} {order : List ℕ} → PaddedList l count order → take count order ≡ l
taken l o = ap₂ take o.number o.places ∙ take-append_seam l (replicate (most_variables - length l) 0)

pub answer-is : (n : Network) → rules n ≡ true → (s : ℕ) {g t order : List ℕ} → Truths n.inputs [] (bit s) g → order ≡ listing (net_of n)
    → t ≡ settled_in (net_of n) order g → packed (map (some_within t) (net_of n).outputs) ≡ evaluate (net_of n) s
answer-is n h s {g} w e q =
    ap (λ (u : List ℕ). packed (map (some_within u) (net_of n).outputs)) (q ∙ ap (λ o. settled_in (net_of n) o g) e)
    ∙ outputs-value (net_of n) (rules-sound n h) s g w

-- ---- what is answered

module _ (n : Network) where
  pub evaluated-no : (s : ℕ) → rules n ≡ false → No 10 ≡ evaluated n s
  unfolding evaluated
  evaluated-no s e = rw e

  pub evaluated-is : (s t : ℕ) → rules n ≡ true → t ≡ evaluate (net_of n) s → Is t ≡ evaluated n s
  unfolding evaluated
  evaluated-is s t e q = rw e (ap Is q)
