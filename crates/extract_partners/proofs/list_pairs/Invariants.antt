-- `extract_partners::list_pairs` meets its contract. The loop's invariant: the removals of the literals that are left are still to be listed.
-- Assumes nothing.
use Prim.Native.Nat.{◌+◌, ◌*◌, ◌<◌}
use mathlib.Core.List.{map}
use Rattle.cube.specs.Cube.{lits, width}
use Rattle.extract_partners.proofs.Listing.{Listing}
use Rattle.extract_partners.proofs.list_pairs.Given as goal

abbrev pub invariant-loop-q : goal.invariant-loop-q
invariant-loop-q l =
    Listing l.initial.ws l.ws l.at l.n (map (l.base +◌) (lits l.q-iterator.rest)) (map (l.base +◌) (lits l.fn.greater.rest)) × (l.base + 2 * width < 4294967296)
