-- The number of removals, and the rule by which a node is searched by them. Assumes nothing.
use Prim.Native.Nat.{ℕ, ◌+◌, ◌*◌, ◌<◌, ◌≤◌}
use mathlib.Core.{Path.◌≡◌, Bool.true, Bool.false, List.List, List.[], List.◌∷◌}
use native.Mathlib.Nat.{mul-le-mul}
use native.Mathlib.Omega.{arith}
use lib.Dec.{leb}
use lib.ListN.{length}
use borrow.Author.Tests.{leb-true, le-leb, lt-leb}
use Rattle.sets.proofs.{Truth.both}
use Rattle.cube.{specs.Cube.width, specs.Cube.lits, specs.declared.Cube.Cube, proofs.Lits.lits-at-most}
use Rattle.extract_partners.specs.Removal.{removals, most_removals, removals_of, is_short}
use Rattle.extract_partners.proofs.Removing.{removals-length}

-- a cube has so many at most
pub product-most : (c : Cube) → length (lits c) * (length (lits c) + 1) ≤ 16512
product-most c = let h = lits-at-most c in omega (
  arith,
  mul-le-mul {n₁ = length (lits c)} {m₁ = length (lits c) + 1} {n₂ = 2 * width} {m₂ = 2 * width + 1} h (omega arith),
)

pub removals-most : (c : Cube) → length (removals (lits c)) ≤ 8256
removals-most c = omega (arith, product-most c, removals-length (lits c))

pub removals-none : {f : List (List ℕ)} → f ≡ [] → removals_of f ≡ 0
unfolding removals_of
removals-none e = rw e

pub removals-first : {c : List ℕ} {f g : List (List ℕ)} → f ≡ c ∷ g → removals_of f ≡ length (removals c) + removals_of g
unfolding removals_of
removals-first e = rw e

-- ---- the rule

module _ (f : List (List ℕ)) where
  pub short-many : most_removals < length f → false ≡ is_short f
  unfolding is_short
  short-many h = rw (lt-leb (length f) most_removals h)

  pub short-long : length f ≤ most_removals → most_removals < removals_of f → false ≡ is_short f
  unfolding is_short
  short-long h k = rw (le-leb (length f) most_removals h, lt-leb (removals_of f) most_removals k)

  pub short-rule : length f ≤ most_removals → removals_of f ≤ most_removals → leb (9 * removals_of f + length f) (length f * length f) ≡ is_short f
  unfolding is_short
  short-rule h k = rw (le-leb (length f) most_removals h, le-leb (removals_of f) most_removals k)

  -- what it says of the room
  pub short-room : is_short f ≡ true → (length f ≤ most_removals) × (removals_of f ≤ most_removals)
  unfolding is_short
  short-room h =
      let (a, b) = both (leb (length f) most_removals) _ h in
      let (c, d) = both (leb (removals_of f) most_removals) _ b in
      (leb-true (length f) most_removals a, leb-true (removals_of f) most_removals c)
