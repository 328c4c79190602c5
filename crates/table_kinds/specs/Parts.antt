-- What the parts of the reading of a kind answer.
use Rattle.std.specs.Prelude.{ℕ, Bool, cond, ◌||◌, List, [], ◌∷◌, eqb, Some, None}
use Rattle.std.specs.Prelude as std
use Rattle.std.proofs.Math.Option.{Option, none, some}
use Rattle.sets.specs.Sets.{same}
use Rattle.table_kinds.specs.{declared.Kind.Kind, Kinds.with_number}
use Rattle.table_kinds.specs.declared.Kind.TheVariants.{Inputs, Outputs, Products, Other}

-- the number that is read, where one is
abbrev pub number_in : std.Option ℕ → Option ℕ
number_in (Some n) = some n
number_in None = none

-- the kind that the letter b names, of a number
unfoldable pub lettered : ℕ → Option ℕ → Kind
lettered b a = cond (eqb b 105) (with_number Inputs a) (cond (eqb b 111) (with_number Outputs a) (cond (eqb b 112) (with_number Products a) Other))

-- `.e` or `.end`
abbrev pub ends : List ℕ → Bool
ends c = same c (46 ∷ 101 ∷ []) || same c (46 ∷ 101 ∷ 110 ∷ 100 ∷ [])
