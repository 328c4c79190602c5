-- What a writer of bytes answers, for every room.
use Rattle.std.specs.Prelude.{ℕ, ltb, length, drop}
use mathlib.Core.{Path.◌≡◌, Bool.cond, List.List, List.◌++◌}
use Rattle.std.proofs.Math.Option.{Option, none, some}
use Rattle.letters.specs.declared.{Wrote.Wrote, Wrote.TheVariants.Bytes, Wrote.TheVariants.Refused}

-- 9 comes last: where nothing was refused before, and the text is longer than the room
unfoldable pub or_long : Option ℕ → List ℕ → List ℕ → Option ℕ
or_long (some k) t o = some k
or_long none t o = cond (ltb (length o) (length t)) (some 9) none

-- the answer and the room: a refusal leaves it as it was; else the text, whole, and then what stood there
abbrev pub Answered : Option ℕ → List ℕ → List ℕ → List ℕ → Wrote → Type 0
Answered (some k) t o o' a = (a ≡ Refused k) × (o' ≡ o)
Answered none t o o' a = (a ≡ Bytes (length t)) × (o' ≡ t ++ drop (length t) o)

-- what is told of a text and a room, where q says what was refused before
abbrev pub Told : Option ℕ → List ℕ → List ℕ → List ℕ → Wrote → Type 0
Told q t o o' a = Answered (or_long q t o) t o o' a
