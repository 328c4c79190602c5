-- What the search for co-kernels answers, for every expression and room.
use Rattle.std.specs.Prelude.{ℕ, ltb, length}
use mathlib.Core.{Path.◌≡◌, Bool.cond, List.List}
use Rattle.std.proofs.Math.Option.{Option, none, some}
use Rattle.expression.specs.{Words.cubes_of, Words.Written, Answers.refusal}
use Rattle.cokernel.specs.{Cokernels.cokernels, declared.Listed.Listed, declared.Listed.TheVariants.All, declared.Listed.TheVariants.Refused}

-- 6, 7; 9 exactly when there are more co-kernels than places
unfoldable pub refused_by : List ℕ → List ℕ → Option ℕ
refused_by f o = elim (refusal f) [ some k ↦ some k | none ↦ cond (ltb (length (cubes_of o)) (length (cokernels (cubes_of f)))) (some 9) none ]

-- the answer and the buffer: a refusal leaves it as it was
abbrev pub Told : Option ℕ → List ℕ → List ℕ → List ℕ → Listed → Type 0
Told (some k) f o o' a = (a ≡ Refused k) × (o' ≡ o)
Told none f o o' a = (a ≡ All (length (cokernels (cubes_of f)))) × Written o o' (cokernels (cubes_of f))
