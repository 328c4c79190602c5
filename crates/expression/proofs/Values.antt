-- Values under an assignment: of a literal, of a product of cubes, of a sum of expressions. Assumes nothing.
use Prim.Native.Nat.{ℕ, ◌+◌, ◌*◌, ◌/◌, ◌%◌}
use mathlib.Core.Path.{◌≡◌, refl, sym, ◌∙◌, ap}
use mathlib.Core.Bool.{Bool, not, ◌&&◌, ◌||◌, or_assoc}
use mathlib.Core.List.{List, [], ◌∷◌, ◌++◌}
use native.Mathlib.Omega.{arith}
use Rattle.sets.{specs.Lists.all, specs.Literal.plain_of, specs.Literal.negated_of, specs.Sets.union, proofs.Sets.union-all}
use Rattle.expression.specs.Value.{lit, cube_value, value}

module _ (a : ℕ → Bool) where
  -- a plain literal has its variable's value
  pub lit-plain : (v : ℕ) → lit a (plain_of v) ≡ a v
  unfolding lit
  lit-plain v = let m : 2 * v % 2 ≡ 0 = omega arith in let d : 2 * v / 2 ≡ v = omega arith in rw (m, d)

  pub lit-negated : (v : ℕ) → lit a (negated_of v) ≡ not (a v)
  unfolding lit
  lit-negated v = let m : (2 * v + 1) % 2 ≡ 1 = omega arith in let d : (2 * v + 1) / 2 ≡ v = omega arith in rw (m, d)

module _ (v : ℕ → Bool) where
  -- the value of a union of two cubes is the product
  pub union-value : (c d : List ℕ) → cube_value v (union c d) ≡ (cube_value v c && cube_value v d)
  union-value = union-all v

  pub append-value : (f g : List (List ℕ)) → value v (f ++ g) ≡ (value v f || value v g)
  append-value [] g = refl
  append-value (c ∷ f) g = ap (all v c ||◌) (append-value f g) ∙ sym (or_assoc (all v c) (value v f) (value v g))
