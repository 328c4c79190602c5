-- The whole answer: the empty cube, then those beyond it; and what is told of it. Assumes nothing.
use Prim.Native.Nat.{ℕ, zero-le, ◌*◌, ◌<◌, ◌≤◌}
use mathlib.Core.Path.{◌≡◌, refl, sym, ◌∙◌, ap}
use mathlib.Core.Bool.{Bool, true, ◌&&◌}
use mathlib.Core.List.{List, [], ◌++◌}
use mathlib.Core.Option.{Option, none, some}
use lib.Dec.{leb}
use lib.ListN.{length}
use borrow.Author.Tests.{lt-ltb, le-ltb}
use Rattle.sets.specs.Sets.{same}
use Rattle.cube.specs.Cube.{width}
use Rattle.expression.{specs.Words.cubes_of, specs.Words.Written, specs.Answers.refusal, proofs.Words.fit, proofs.Words.written_one}
use Rattle.cokernel.specs.{Cokernels.beyond, Cokernels.cokernels, Answers.refused_by, Answers.Told}
use Rattle.cokernel.specs.Parts.{only, Shared, Walks, Walked}
use Rattle.cokernel.specs.declared.{Listed.Listed, Listed.TheVariants.All, Listed.TheVariants.Refused}
use Rattle.expression.specs.Expression.{Cubes}
use Rattle.cokernel.proofs.Walking.{prefix-none}
use Rattle.cokernel.proofs.Steps.{cokernel-test, walked_then, walked-only}

module _ (f : Cubes) (p : List ℕ) (e : p ≡ []) (n : ℕ) (m : List ℕ) (c : Shared f p n m) where
  pub walks-first : Walks f p m 0
  walks-first = record { inside = zero-le; low = rw e prefix-none.low; common = c.common }

  module _ (b : Bool) (h : b ≡ (leb 2 n && same m p)) where
    pub whole : only b p ++ beyond (2 * width) f p 0 ≡ cokernels f
    unfolding cokernels
    whole = rw (h, c.number, c.common, cokernel-test f p, e)

    pub whole-walked : {old mid new : List ℕ} {i r : ℕ} (most : ℕ) → 0 < most → Walked old mid 1 0 (only b p) i
        → Walked mid new most i (beyond (2 * width) f p 0) r → Walked old new most 0 (cokernels f) r
    whole-walked most s u v = rw (← whole) (walked_then (walked-only most b p s u) v)

-- ---- what is told

module _ (f o : List ℕ) where
  -- 6 and 7 of the expression
  pub refused-of : (k : ℕ) → refusal f ≡ some k → refused_by f o ≡ some k
  unfolding refused_by
  refused-of k e = rw (e, refused_by)

  pub told-refused : (k : ℕ) → refusal f ≡ some k → Told (refused_by f o) f o o (Refused k)
  told-refused k e = rw (refused-of k e) (refl, refl)

  module _ (e : refusal f ≡ none) where
    -- 9 exactly when there are more than places
    pub refused-short : length (cubes_of o) < length (cokernels (cubes_of f)) → refused_by f o ≡ some 9
    unfolding refused_by
    refused-short h = rw (e, refused_by, lt-ltb (length (cubes_of o)) (length (cokernels (cubes_of f))) h)

    pub refused_none : length (cokernels (cubes_of f)) ≤ length (cubes_of o) → refused_by f o ≡ none
    unfolding refused_by
    refused_none h = rw (e, refused_by, le-ltb (length (cubes_of o)) (length (cokernels (cubes_of f))) h)

    pub told-short : length (cubes_of o) < length (cokernels (cubes_of f)) → Told (refused_by f o) f o o (Refused 9)
    told-short h = rw (refused-short h) (refl, refl)

    pub told-all : (o' : List ℕ) (n : ℕ) → length (cokernels (cubes_of f)) ≤ length (cubes_of o) → n ≡ length (cokernels (cubes_of f))
        → Written o o' (cokernels (cubes_of f)) → Told (refused_by f o) f o o' (All n)
    told-all o' n h k w = rw (refused_none h) (ap All k, w)

-- no two answers are told
pub told-one : (x : Option ℕ) (f o a b : List ℕ) (r s : Listed) → fit a ≡ true → fit b ≡ true → Told x f o a r → Told x f o b s
    → (r ≡ s) × (a ≡ b)
told-one (some k) f o a b r s h i (e, u) (d, v) = (e ∙ sym d, u ∙ sym v)
told-one none f o a b r s h i (e, u) (d, v) = (e ∙ sym d, written_one h i u v)
