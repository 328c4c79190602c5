-- `extract_partners::list_node` meets its contract. The loop's invariant: the removals of the cubes from place j on are still to be listed.
-- Assumes nothing.
use lib.ListN.{drop}
use Rattle.expression.specs.Words.{cubes_of}
use Rattle.extract_partners.specs.{Table.removals_from}
use Rattle.extract_partners.proofs.Listing.{Listing}
use Rattle.extract_partners.proofs.list_node.Given as goal

abbrev pub invariant-loop-j : goal.invariant-loop-j
invariant-loop-j l = Listing l.initial.ws l.ws 0 l.n (removals_from l.j (drop l.j (cubes_of l.f))) (removals_from 0 (cubes_of l.f))
