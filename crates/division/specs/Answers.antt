-- What a division answers, for every two expressions and rooms.
use Rattle.std.specs.Prelude.{ℕ, ltb, length}
use mathlib.Core.{Path.◌≡◌, Bool.cond, Bool.◌||◌, List.List}
use Rattle.std.proofs.Math.Option.{Option, none, some}
use Rattle.sets.specs.Lists.{is_nil}
use Rattle.expression.specs.{Words.cubes_of, Words.Written, Answers.refusal}
use Rattle.division.specs.{Division.quotient, Division.remainder, declared.Division.Division}
use Rattle.division.specs.declared.Division.TheVariants.{Done, Refused}

-- the refusal of either expression, the smaller number first
abbrev pub either : Option ℕ → Option ℕ → Option ℕ
either none o = o
either (some k) none = some k
either (some k) (some l) = cond (ltb l k) (some l) (some k)

-- 8 for a divisor with no cubes, 9 where a result is longer than its room
unfoldable pub roomed : List ℕ → List ℕ → List ℕ → List ℕ → Option ℕ
roomed f d q r =
    cond (is_nil (cubes_of d)) (some 8)
    (cond (ltb (length (cubes_of q)) (length (quotient (cubes_of f) (cubes_of d))) || ltb (length (cubes_of r)) (length (remainder (cubes_of f) (cubes_of d))))
    (some 9) none)

-- 6 for either one, 7 for either one, 8, 9
unfoldable pub refused_by : List ℕ → List ℕ → List ℕ → List ℕ → Option ℕ
refused_by f d q r = elim (either (refusal f) (refusal d)) [ some k ↦ some k | none ↦ roomed f d q r ]

-- the answer and both buffers: a refusal leaves them as they were
abbrev pub Told : Option ℕ → List ℕ → List ℕ → List ℕ → List ℕ → List ℕ → List ℕ → Division → Type 0
Told (some k) f d q r q' r' a = (a ≡ Refused k) × (q' ≡ q) × (r' ≡ r)
Told none f d q r q' r' a =
    (a ≡ Done (length (quotient (cubes_of f) (cubes_of d))) (length (remainder (cubes_of f) (cubes_of d))))
    × Written q q' (quotient (cubes_of f) (cubes_of d)) × Written r r' (remainder (cubes_of f) (cubes_of d))

-- what f divided by d gives in the rooms q and r
abbrev pub Divided : List ℕ → List ℕ → List ℕ → List ℕ → List ℕ → List ℕ → Division → Type 0
Divided f d q r q' r' a = Told (refused_by f d q r) f d q r q' r' a
