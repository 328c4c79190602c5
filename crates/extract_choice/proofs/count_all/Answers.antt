-- The answers of `extract_choice::count_all`.
use mathlib.Core.Path.{ap, ap₂, ◌∙◌}
use native.Mathlib.Omega.{arith}
use lib.ListN.{length}
use Rattle.cube.specs.Cube.{lits}
use Rattle.expression.specs.Words.{cubes_of}
use Rattle.network_nodes.specs.Nodes.{cut}
use Rattle.network_nodes.proofs.Chains.{left}
use Prim.Native.Nat.{◌+◌, ◌≤◌}
use Rattle.extract_counts.proofs.Arranged.{arranged-counted}
use Rattle.extract_choice.proofs.Counting.{summing_none, summing-room, uses-few}
use Rattle.extract_choice.proofs.count_all.Goals as goal
use Rattle.extract_choice.proofs.count_all.Goals.{Start}
use borrow.Author.Rules.{rules}
use Rattle.network.{specs.Handed.Shaped, proofs.Handing.shape_of}

-- its arrays are of their lengths
shape : (c : Start) → Shaped c.args.n.now
shape c = shape_of _ (search rules) (search rules)

-- and there are counts for its nodes
enough : (c : Start) → c.args.n.now.outputs + c.args.n.now.divisors ≤ length c.args.n.now.counts
enough c = arranged-counted c.args.n.now c.requires (shape c)

pub overflow_add-e : goal.overflow_add-e
overflow_add-e c = let s = (goal.at.overflow_add-e c).Start in omega (arith, enough s, (shape s).slots)

pub shared_ref_as_front-each : goal.shared_ref_as_front-each
shared_ref_as_front-each c = let s = (goal.at.shared_ref_as_front-each c).Start in omega (arith, enough s, (shape s).slots)

pub loop-f-init : goal.loop-f-init
loop-f-init c = summing_none c.args.n.now c.requires (shape (goal.at.loop-f-init c).Start) _ _ (ap left c.into_iter-f-iterator.ensures.into_iter_gives ∙ ap₂ (λ ns ws. cut ns (cubes_of ws)) c.each-f-items.ensures.1 c.each-f-items.ensures.0)

pub overflow_add-r : goal.overflow_add-r
overflow_add-r c =
    omega (arith, c.count_in-r.ensures, summing-room c.loop-f.invariant c.in-Some.ensures.steps, uses-few c.args.n.now c.requires (shape (goal.at.overflow_add-r c).Start) (lits c.args.a) (lits c.args.b))
