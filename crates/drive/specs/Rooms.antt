-- The lengths of the rooms.
use Rattle.std.specs.Prelude.{ℕ}

-- the most bytes of a line
abbrev pub line_length : ℕ
line_length = 262144

-- the most numbers, and the most bytes, that a line can write
abbrev pub most_read : ℕ
most_read = 131072
