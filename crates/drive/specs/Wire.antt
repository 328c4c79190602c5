-- What came of a request, as it is told.
use Rattle.std.specs.Prelude.{ℕ, Result, Ok, Err}
use Rattle.letters.specs.declared.{Wrote.Wrote, Wrote.TheVariants.Bytes, Wrote.TheVariants.Refused}
use Rattle.network.specs.declared.{Number.Number, Number.TheVariants.Is, Number.TheVariants.No}
use Rattle.drive.specs.declared.wire.Refusal.{Refusal}

-- refused by number, at a line
abbrev pub refusal_of : ℕ → ℕ → Refusal
refusal_of number line = record { number = number; line = line }

-- what a writer of bytes answered: one number, or a refusal at no line
abbrev pub wrote_of : Wrote → Result ℕ Refusal
wrote_of (Bytes n) = Ok n
wrote_of (Refused k) = Err (refusal_of k 0)

-- what a number is told as
abbrev pub number_told : Number → Result ℕ Refusal
number_told (Is v) = Ok v
number_told (No k) = Err (refusal_of k 0)
