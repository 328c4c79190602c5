-- `expression::cube_at` meets its contract: the words of a cube are its masks. Assumes nothing.
use Prim.Native.Nat.{ℕ, ◌+◌, ◌*◌, ◌/◌}
use mathlib.Core.Path.{◌≡◌, sym, ◌∙◌, ap₂}
use mathlib.Core.{Bool.cond, List.List, List.[], Logic.inl, Logic.inr}
use native.Mathlib.Omega.{arith}
use lib.Dec.{ltb}
use lib.ListN.{length, get_or}
use borrow.Author.Tests.{ltb-true, ltb-false}
use Rattle.sets.{specs.Masks.literals, proofs.Truth.decided, proofs.Literals.literals-none}
use Rattle.cube.specs.Cube.{width}
use Rattle.expression.specs.Words.{cubes_of}
use Rattle.expression.proofs.{Words.cubes-at, Words.cubes-past}
use Rattle.expression.proofs.cube_at.Goals as goal

-- word k of cube i, as it is read
abbrev word : List ℕ → ℕ → ℕ → ℕ
word ws i k = cond (ltb i (length ws / 2)) (get_or ws (2 * i + k) 0) 0

paired : (ws : List ℕ) (i : ℕ) → literals width (word ws i 0) (word ws i 1) ≡ get_or (cubes_of ws) i []
paired ws i = elim (decided (ltb i (length ws / 2))) [
  | inl t ↦ let z : 2 * i + 0 ≡ 2 * i = omega arith in rw (t, z) (sym (cubes-at ws i (ltb-true i (length ws / 2) t)))
  | inr t ↦ rw t (literals-none width ∙ sym (cubes-past ws i (ltb-false i (length ws / 2) t)))
]

pub returns : goal.returns
returns c = ap₂ (literals width) c.word_at.ensures c.word_at-2.ensures ∙ paired _ _
