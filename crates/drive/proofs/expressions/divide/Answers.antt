-- The answers of `drive::expressions::divide`.
use Rattle.std.proofs.Common.{ℕ, List, ◌++◌, ◌≡◌, ◌≤◌, length, length-append, sym, arith}
use lib.ListN.{take, drop}
use Rattle.std.proofs.lemmas.List.{length-take-le}
use Rattle.drive.proofs.expressions.divide.Goals as goal

-- so many places, written over in front of the others, are there still
front-stays : (n : ℕ) (xs ys : List ℕ) → n ≤ length xs → length ys ≡ length (take n xs) → n ≤ length (ys ++ drop n xs)
front-stays n xs ys h e = omega (arith, e, length-take-le n xs h, length-append ys (drop n xs))

pub slice_bounds-f-end : goal.slice_bounds-f-end
slice_bounds-f-end c = omega (arith, c.in_ok-n.ensures.within, c.numbers.auto.pool)

pub slice_bounds-divide-end : goal.slice_bounds-divide-end
slice_bounds-divide-end c = sym (length-take-le _ _ (omega (arith, c.in_ok-n.ensures.within, c.numbers.auto.pool)))

pub slice_bounds-divide-end-2 : goal.slice_bounds-divide-end-2
slice_bounds-divide-end-2 c = sym (length-take-le _ _ (omega (arith, c.in_ok-m.ensures.within, c.numbers-2.auto.pool)))

pub slice_bounds-divide-end-3 : goal.slice_bounds-divide-end-3
slice_bounds-divide-end-3 c = sym (length-take-le _ _ (omega (arith, c.in_ok-l.ensures.within, c.numbers-3.auto.pool)))

pub slice_bounds-left-end-2 : goal.slice_bounds-left-end-2
slice_bounds-left-end-2 c = front-stays _ _ _ (omega (arith, c.in_ok-l.ensures.within, c.numbers-3.auto.pool)) c.divide.auto.q

pub slice_bounds-group-end : goal.slice_bounds-group-end
slice_bounds-group-end c =
    sym (length-take-le _ _ (front-stays _ _ _ (omega (arith, c.in_ok-l.ensures.within, c.numbers-3.auto.pool)) c.divide.auto.q))
