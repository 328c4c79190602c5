-- A count as 64 bits hold it, and one more. Assumes nothing.
use Prim.Native.Nat.{ℕ, suc, ◌+◌, min}
use mathlib.Core.Path.{◌≡◌, ◌∙◌, ap}
use mathlib.Core.{Logic.inl, Logic.inr}
use mathlib.Core.List.{List, [], ◌∷◌}
use lib.ListN.{length}
use Rattle.std.specs.List.{fold}
use Rattle.sets.specs.Lists.{total}
use native.Mathlib.Omega.{arith}
use lib.Dec.{ltb}
use borrow.Author.Tests.{ltb-true, ltb-false}
use Rattle.sets.{specs.Word.largest, proofs.Truth.decided}
use Rattle.expression.specs.Answers.{capped}
use Rattle.expression.specs.Expression.{literals_of}

capped-least : (t : ℕ) → capped t ≡ min t largest
capped-least t = elim (decided (ltb t (suc largest))) [
  | inl h ↦ rw h (omega (arith, ltb-true t (suc largest) h))
  | inr h ↦ rw h (omega (arith, ltb-false t (suc largest) h))
]

-- the sum of the lengths, held at the most
counts-from : (t : ℕ) (f : List (List ℕ)) → fold (λ a d. min (a + length d) largest) (capped t) f ≡ capped (t + total length f)
counts-from t [] = let z : t ≡ t + 0 = omega arith in ap capped z
counts-from t (c ∷ f) =
    let e : min (capped t + length c) largest ≡ capped (t + length c) = omega (arith, capped-least t, capped-least (t + length c)) in
    let z : t + length c + total length f ≡ t + (length c + total length f) = omega arith in
    ap (λ a. fold (λ a d. min (a + length d) largest) a f) e ∙ counts-from (t + length c) f ∙ ap capped z

pub counts-fold : (f : List (List ℕ)) → fold (λ a d. min (a + length d) largest) 0 f ≡ capped (literals_of f)
counts-fold f = let z : 0 + total length f ≡ total length f = omega arith in counts-from 0 f ∙ ap capped z
