-- A literal is a number: variable v has the literals 2v (plain) and 2v + 1 (negated).
use Rattle.std.specs.Prelude.{ℕ, ◌+◌, ◌-◌, ◌*◌, ◌/◌, ◌%◌}

abbrev pub plain_of : ℕ → ℕ
plain_of v = 2 * v

abbrev pub negated_of : ℕ → ℕ
negated_of v = 2 * v + 1

abbrev pub variable_of : ℕ → ℕ
variable_of l = l / 2

-- 0 for a plain literal, 1 for a negated one
abbrev pub polarity_of : ℕ → ℕ
polarity_of l = l % 2

-- the other literal of the same variable
abbrev pub opposite_of : ℕ → ℕ
opposite_of l = 2 * (l / 2) + (1 - l % 2)
