-- The answers of `extract_keep::fill_nodes`.
use Prim.Native.Nat.{◌+◌, ◌≤◌}
use mathlib.Core.Path.{sym, ap, ap₂, ◌∙◌}
use native.Mathlib.Omega.{arith}
use borrow.Author.Rules.{rules}
use Rattle.expression.specs.Words.{cubes_of}
use Rattle.network.{specs.Handed.node_slots, proofs.Handing.shape_of}
use Rattle.network_nodes.{specs.Nodes.cut, proofs.Chains.left}
use Rattle.extract_counts.specs.Counts.{net_gain}
use Rattle.extract_counts.proofs.Arranged.{arranged-few}
use Rattle.extract_partners.proofs.Turning.{partly-first, partly-as, partly-then, partly-end}
use Rattle.extract_keep.proofs.Keeping.{net-first, net-none}
use Rattle.extract_keep.proofs.fill_nodes.Goals as goal
use Rattle.extract_keep.proofs.fill_nodes.Goals.{Start}

-- there are counts for its nodes
few : (c : Start) → c.args.n.now.outputs + c.args.n.now.divisors ≤ node_slots
few c = arranged-few c.args.n.now c.requires (shape_of _ (search rules) (search rules))

pub overflow_add-e : goal.overflow_add-e
overflow_add-e c = omega (arith, few (goal.at.overflow_add-e c).Start)

pub shared_ref_as_front-each : goal.shared_ref_as_front-each
shared_ref_as_front-each c = few (goal.at.shared_ref_as_front-each c).Start

pub loop-f-init : goal.loop-f-init
loop-f-init c =
    partly-as (partly-first _ _ _) (λ k. ap (net_gain k)
    (sym (ap left c.into_iter-f-iterator.ensures.into_iter_gives ∙ ap₂ (λ ns ws. cut ns (cubes_of ws)) c.each-f-items.ensures.1 c.each-f-items.ensures.0)))

pub loop-f-preserved : goal.loop-f-preserved
loop-f-preserved c = partly-then c.loop-f.invariant c.fill_node.ensures (λ k. net-first k c.in-Some.ensures.steps)

pub returns : goal.returns
returns c = partly-end c.loop-f.invariant (λ k. net-none k c.in-None.ensures.steps.0)
