-- The literals of a cube: they ascend, each is of a variable that a cube has a place for, and they are all that a cube holds. Assumes nothing.
use Prim.Native.Nat.{ℕ, ◌*◌, ◌^◌, ◌<◌, ◌≤◌}
use mathlib.Core.{Path.◌≡◌, Bool.true, Option.some, List.[]}
use lib.Dec.{ltb}
use lib.ListN.{length}
use borrow.Author.Tests.{ltb-true}
use Rattle.sets.specs.Sets.{mem, asc, first_from}
use Rattle.sets.proofs.{Truth.both, Sets.ext}
use Rattle.sets.proofs.Literals.{literals-none, literals-asc, literals-at-most, mem-inside, plain-injective, negated-injective}
use Rattle.sets.proofs.Scan as scan
use Rattle.cube.specs.{Cube.width, Cube.lits, declared.Cube.Cube}
pub use Rattle.cube.specs.Cube.{fit_cube}

-- the cube with no literal, which stands where a list of cubes has none
abbrev pub no_cube : Cube
no_cube = record { plain = 0; negated = 0 }

pub lits-none : lits no_cube ≡ []
lits-none = literals-none width

module _ (c : Cube) where
  pub lits-asc : asc (lits c) ≡ true
  lits-asc = literals-asc width c.plain c.negated

  -- every literal is of a variable below the width
  pub lits-inside : (l : ℕ) → mem l (lits c) ≡ true → l < 2 * width
  lits-inside l m = mem-inside width c.plain c.negated l m

  pub lits-at-most : length (lits c) ≤ 2 * width
  lits-at-most = literals-at-most width c.plain c.negated

  -- so is the first one from a literal on
  pub first-inside : (l d : ℕ) → some d ≡ first_from l (lits c) → d < 2 * width
  first-inside l d e = scan.first-inside width c.plain c.negated l d e

-- the same members: the same list
pub lits-ext : (a b : Cube) → ((l : ℕ) → mem l (lits a) ≡ mem l (lits b)) → lits a ≡ lits b
lits-ext a b e = ext (lits a) (lits b) (lits-asc a) (lits-asc b) e

-- ---- cubes as the language holds them are known from their literals

pub cube-one : (a b : Cube) → fit_cube a ≡ true → fit_cube b ≡ true → lits a ≡ lits b → a ≡ b
cube-one a b h k e =
    let p = both (ltb a.plain (2 ^ width)) (ltb a.negated (2 ^ width)) h in
    let q = both (ltb b.plain (2 ^ width)) (ltb b.negated (2 ^ width)) k in
    λ i. record {
      plain = plain-injective width a.plain a.negated b.plain b.negated (ltb-true _ _ p.0) (ltb-true _ _ q.0) e i;
      negated = negated-injective width a.plain a.negated b.plain b.negated (ltb-true _ _ p.1) (ltb-true _ _ q.1) e i;
    }
