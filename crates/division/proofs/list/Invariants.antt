-- `division::list` meets its contract. The loop's invariant: the cubes that came stand at the front, and there is room for those to come.
-- Assumes nothing.
use Prim.Native.Nat.{◌+◌, ◌≤◌}
use mathlib.Core.List.{map}
use lib.ListN.{length}
use Rattle.std.specs.Iterator.{IsFinite, size}
use Rattle.cube.specs.Cube.{lits}
use Rattle.expression.specs.Words.{cubes_of, Appends}
use Rattle.division.proofs.list.Given as goal

abbrev pub invariant-loop-c : goal.invariant-loop-c
invariant-loop-c g l =
    Appends l.fn.to l.to 0 (map lits l.yielded) l.kept × IsFinite (g.I.Iterator.remaining l.c-iterator)
    × (l.kept + size (g.I.Iterator.remaining l.c-iterator) ≤ length (cubes_of l.fn.to))
