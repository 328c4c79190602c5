-- What a word of 64 bits holds.
use Rattle.std.specs.Prelude.{ℕ}

-- the largest number in a word
abbrev pub largest : ℕ
largest = 18446744073709551615
