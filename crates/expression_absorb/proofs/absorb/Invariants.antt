-- `expression_absorb::absorb` meets its contract. The outer loop's invariant: what stands after i cubes are passed; the inner loop's: none
-- of the first j cubes drops cube i. Assumes nothing.
use mathlib.Core.Path.{◌≡◌}
use mathlib.Core.Bool.{false, not, ◌&&◌, ◌||◌}
use mathlib.Core.List.{[]}
use Prim.Native.Nat.{ℕ, ◌<◌}
use lib.Dec.{ltb}
use lib.ListN.{get_or}
use Rattle.sets.specs.Sets.{sub, same}
use Rattle.cube.specs.Cube.{lits}
use Rattle.expression.{specs.Words.cubes_of, specs.Words.spare_of}
use Rattle.expression_absorb.proofs.Compacting.{Stands}
use Rattle.expression_absorb.proofs.absorb.Given as goal

abbrev pub invariant-loop-j : goal.invariant-loop-j
invariant-loop-j l =
    (k : ℕ) → k < l.j → (sub (get_or (cubes_of l.s) k []) (lits l.c) && (ltb k l.i || not (same (get_or (cubes_of l.s) k []) (lits l.c)))) ≡ false

abbrev pub invariant-next : goal.invariant-next
invariant-next l =
    Stands (cubes_of l.initial.s) (cubes_of l.s) l.i l.kept × (spare_of l.s ≡ spare_of l.initial.s)
