-- `extract_partners::list_cube` meets its contract. The loop's invariant: the removals of the literals that are left are still to be listed.
-- Assumes nothing.
use mathlib.Core.List.{map}
use lib.ListN.{length}
use Rattle.cube.specs.Cube.{lits}
use Rattle.extract_partners.specs.{Removal.removals, Table.removal_of}
use Rattle.extract_partners.proofs.Listing.{Listing}
use Rattle.extract_partners.proofs.list_cube.Given as goal

abbrev pub invariant-loop-p : goal.invariant-loop-p
invariant-loop-p l =
    Listing l.initial.ws l.ws l.at l.n (map (removal_of l.j) (removals (lits l.rest.rest))) (map (removal_of l.j) (removals (lits l.fn.c)))

abbrev pub decreases-loop-p : goal.decreases-loop-p
decreases-loop-p l = length (lits l.rest.rest)
