-- The new literals of a cube, and the set of them. Assumes nothing.
use Prim.Native.Nat.{ℕ, ◌+◌, ◌*◌, ◌/◌, ◌%◌, ◌^◌, ◌<◌}
use mathlib.Core.Path.{◌≡◌, refl, sym, ◌∙◌, ap}
use mathlib.Core.Bool.{Bool, true, false, ◌||◌}
use mathlib.Core.List.{List, [], ◌∷◌, map}
use native.Mathlib.Omega.{arith}
use lib.Dec.{eqb}
use lib.ListN.{length, get_or, length-map}
use Rattle.expression.proofs.Sorting.{sort-length}
use borrow.Author.Tests.{eqb-true, eqb-false, lt-ltb}
use Rattle.sets.specs.Sets.{mem, asc, insert, union}
use Rattle.sets.proofs.Sets.{mem-head, insert-mem, insert-asc, union-mem, union-asc, union_comm, ext}
use Rattle.cube.{specs.Cube.joined, specs.Cube.width, specs.Cube.lits, specs.declared.Cube.Cube, proofs.Lits.lits-inside}
use Rattle.image_number.specs.Parts.{Wide, literal_by, cube_by, node_by}

-- ---- the new literal

module _ (ps : List ℕ) (l v r : ℕ) (w : Wide ps) (e : v ≡ l / 2) where
  pub literal-negated : (b : Bool) → b ≡ eqb (l % 2) 1 → b ≡ true → r ≡ (2 * get_or ps v 0 + 1) % 2 ^ 32 → r ≡ literal_by ps l
  literal-negated b p t q = omega (arith, w.small v, eqb-true (l % 2) 1 (sym p ∙ t), ap (λ u. get_or ps u 0) e)

  pub literal-plain : (b : Bool) → b ≡ eqb (l % 2) 1 → b ≡ false → r ≡ (2 * get_or ps v 0) % 2 ^ 32 → r ≡ literal_by ps l
  literal-plain b p t q = let f = eqb-false (l % 2) 1 (sym p ∙ t) in omega (arith, w.small v, ap (λ u. get_or ps u 0) e)

-- ---- the set of the new literals

by-asc : (ps c : List ℕ) → asc (cube_by ps c) ≡ true
unfolding cube_by
by-asc ps [] = refl
by-asc ps (l ∷ c) = insert-asc (literal_by ps l) (cube_by ps c) (by-asc ps c)

-- so far none
pub by-none : (ps c r : List ℕ) → r ≡ [] → union (cube_by ps c) r ≡ cube_by ps c
unfolding union
by-none ps c r e = ap (union (cube_by ps c)) e ∙ union_comm (cube_by ps c) [] (by-asc ps c) refl

-- one more
union-insert : (x : ℕ) (a b : List ℕ) → asc b ≡ true → union (insert x a) b ≡ union a (insert x b)
union-insert x a b h = ext _ _ (union-asc (insert x a) b h) (union-asc a (insert x b) (insert-asc x b h)) (λ z.
    union-mem z (insert x a) b ∙ ap (◌|| mem z b) (insert-mem z x a) ∙ turn (eqb z x) (mem z a) (mem z b)
    ∙ ap (mem z a ||◌) (sym (insert-mem z x b)) ∙ sym (union-mem z a (insert x b)))
  where
    turn : (p q r : Bool) → ((p || q) || r) ≡ (q || (p || r))
    turn true true r = refl
    turn true false r = refl
    turn false q r = refl

-- each is of a variable
by-small : (ps : List ℕ) (l : ℕ) → Wide ps → literal_by ps l < 2 * width
by-small ps l w = omega (arith, w.small (l / 2))

-- the invariant of the loop: what is left and what is there make up the whole
pub by-more : (ps c : List ℕ) (x : ℕ) (d r s : List ℕ) → Wide ps → asc r ≡ true → c ≡ x ∷ d → s ≡ joined (literal_by ps x) r
    → union (cube_by ps d) s ≡ union (cube_by ps c) r
unfolding cube_by
by-more ps c x d r s w a e f =
    let j : s ≡ insert (literal_by ps x) r = f ∙ rw (lt-ltb (literal_by ps x) (2 * width) (by-small ps x w)) in
    ap (union (cube_by ps d)) j ∙ sym (union-insert (literal_by ps x) (cube_by ps d) r a) ∙ ap (λ z. union (cube_by ps z) r) (sym e)

pub by_all : (ps c r : List ℕ) → c ≡ [] → union (cube_by ps c) r ≡ r
unfolding cube_by union
by_all ps c r e = rw e

-- the first literal of a cube is of a variable
pub first-small : (c : Cube) {x : ℕ} {l : List ℕ} → lits c ≡ x ∷ l → x < 2 * width
first-small c {x} {l} e = lits-inside c x (rw e (mem-head x l))

-- a node has as many cubes as before
pub node-length : (ps : List ℕ) (f : List (List ℕ)) → length (node_by ps f) ≡ length f
node-length ps f = sort-length (map (cube_by ps) f) ∙ length-map f (cube_by ps)
