-- A text written as far as there is room.
use Rattle.std.specs.Prelude.{ℕ, ◌+◌, min, length}
use mathlib.Core.{Path.◌≡◌, List.List}
use Rattle.std.proofs.lemmas.List.Edits.{sets}
use Rattle.sets.specs.Word.{largest}

-- a number of bytes as it is counted: counting stops at the largest place, where no room has a byte
abbrev pub counted : ℕ → ℕ
counted n = min n largest

-- the bytes of the text are stored from a place on, each for which there is room; next is the place after the text
pub record Laid (old new : List ℕ) (at next : ℕ) (t : List ℕ) : Type 0 where
  pub place : next ≡ counted (at + length t)
  pub bytes : new ≡ sets old at t
