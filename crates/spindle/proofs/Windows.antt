-- The part of a long line that is shown has the place of the caret. Assumes nothing.
use Rattle.std.proofs.Common.{◌≡◌, ℕ, ◌+◌, ◌-◌, ◌≤◌, min, ap, arith}
use Rattle.table_lines.specs.declared.Span.{Span}
use Rattle.spindle.specs.Shown.{most_shown, most_before, window_of, Shows}

-- ---- the part

module _ (n p : ℕ) where
  pub window-shows : (w : Span) → w ≡ window_of n p → p ≤ n → Shows n p w
  unfolding window_of
  window-shows w e h =
      let a : w.start ≡ min (p - most_before) (n - most_shown) = ap (λ (x : Span). x.start) e in
      let b : w.end ≡ min n (min (p - most_before) (n - most_shown) + most_shown) = ap (λ (x : Span). x.end) e in
      record { inside = omega arith; few = omega arith; first = omega arith; last = omega arith; seen = λ l. omega arith }
