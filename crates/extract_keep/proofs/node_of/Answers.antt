-- `extract_keep::node_of` meets its contract. Assumes nothing.
use Prim.Native.Nat.{◌+◌, ◌≤◌}
use mathlib.Core.{Path.◌∙◌, Path.sym, Path.ap, List.[]}
use native.Mathlib.Omega.{arith}
use borrow.Author.Rules.{rules}
use lib.ListN.{get_or, get_or-eq_default}
use Rattle.expression.specs.Words.{cubes_of}
use Rattle.network.{specs.Net.nodes, specs.Held.net_of, specs.Handed.node_slots}
use Rattle.network.proofs.{Handing.shape_of, Holding.nodes-held, Parts.nodes-at}
use Rattle.extract_counts.proofs.Arranged.{arranged-few}
use Rattle.extract_keep.proofs.Keeping.{nodes-many}
use Rattle.extract_keep.proofs.node_of.Goals as goal
use Rattle.extract_keep.proofs.node_of.Goals.{Start}

-- there are counts for its nodes
few : (c : Start) → c.args.n.now.outputs + c.args.n.now.divisors ≤ node_slots
few c = arranged-few c.args.n.now c.requires (shape_of _ (search rules) (search rules))

pub overflow_add-n : goal.overflow_add-n
overflow_add-n c = omega (arith, few (goal.at.overflow_add-n c).Start)

pub returns-then-i-n : goal.returns-then-i-n
returns-then-i-n c =
    let n = c.args.n.now in
    c.node.ensures.0 ∙ sym (ap (λ fs. get_or fs c.args.i []) (nodes-held n) ∙ nodes-at n.counts n.words (n.outputs + n.divisors) c.args.i (omega arith))

pub returns-else-i-n : goal.returns-else-i-n
unfolding cubes_of
returns-else-i-n c =
    let n = c.args.n.now in
    sym (get_or-eq_default (nodes (net_of n)) [] {n = c.args.i} (omega (arith, nodes-many n)))
