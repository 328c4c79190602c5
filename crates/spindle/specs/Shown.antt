-- How the line of a refusal is shown: its bytes, what stands under each, and the part of a long line.
use Rattle.std.specs.Prelude.{ℕ, ◌+◌, ◌-◌, ◌<◌, ◌≤◌, min, cond, ◌&&◌, ◌||◌, ◌==◌, nat_le}
use Rattle.table_lines.specs.declared.Span.{Span}

-- what ASCII prints and a tab as they are, any other byte as `?`
unfoldable pub shown_byte : ℕ → ℕ
shown_byte b = cond (b == 9 || (nat_le 32 b && nat_le b 126)) b 63

-- a tab under a tab, a blank under any other byte
unfoldable pub under_byte : ℕ → ℕ
under_byte b = cond (b == 9) 9 32

-- the most bytes of a line that are shown, and the most of them before the column when bytes after it are cut
abbrev pub most_shown : ℕ
most_shown = 70

abbrev pub most_before : ℕ
most_before = 60

-- of a line of n bytes all, or as many as are shown: from `most_before` before the place p on, or the last ones
unfoldable pub window_of : ℕ → ℕ → Span
window_of n p =
    let a = min (p - most_before) (n - most_shown) in
    record { start = a; end = min n (a + most_shown) }

-- the part stands in a line of n bytes and is not too long, and the place p is in it or, at the line's end, just after it
pub record Shows (n p : ℕ) (w : Span) : Type 0 where
  pub inside : w.end ≤ n
  pub few : w.end ≤ w.start + most_shown
  pub first : w.start ≤ p
  pub last : p ≤ w.end
  pub seen : p < n → p < w.end
