-- The answers of `image_number::build`.
use Prim.Native.Nat.{ℕ, ◌+◌, ◌<◌, ◌≤◌}
use mathlib.Core.Path.{◌≡◌, sym, ◌∙◌, ap}
use mathlib.Core.List.{List, []}
use native.Mathlib.Omega.{arith}
use borrow.Author.Rules.{rules}
use lib.ListN.{length, get_or, length-replicate}
use Rattle.expression.{specs.Words.cubes_of, proofs.Words.room-cubes}
use Rattle.network.specs.{Net.nodes, Held.net_of}
use Rattle.network.specs.Handed.{node_slots, cube_slots, word_slots}
use Rattle.network.proofs.Laying.{laid_none, laid_more, laid-all}
use Rattle.image_laws.specs.Renumber.{renumbered}
use Rattle.image_number.specs.Parts.{node_by}
use Rattle.image_number.proofs.{Taking.node-length}
use Rattle.image_number.proofs.Renumbering.{nodes-few, numbers-in, source-ready, source_in, size-at, new-many, new-room, new-holds, node-new}
use Rattle.image_number.proofs.build.Goals as goal
use Rattle.image_number.proofs.build.Goals.{After-node, After-source-j, Start}

-- the nodes of the network renumbered
abbrev fs : Start → List (List (List ℕ))
fs s = nodes (renumbered (net_of s.args.n.now))

few : (s : Start) → s.args.n.now.outputs + s.args.n.now.divisors ≤ node_slots
few s = nodes-few s.requires

pub places_of-places-requires : goal.places_of-places-requires
places_of-places-requires c = numbers-in c.requires

pub overflow_add-i-end : goal.overflow_add-i-end
overflow_add-i-end c = omega (arith, few (goal.at.overflow_add-i-end c).Start)

pub loop-i-init : goal.loop-i-init
loop-i-init c = (length-replicate {A = ℕ} word_slots 0, laid_none)

pub source-j-requires : goal.source-j-requires
source-j-requires c = source-ready c.requires _ (omega arith)

-- the node taken is one of the old ones
taken : (c : After-source-j) → c.source-j.result < c.args.n.now.outputs + c.args.n.now.divisors
taken c = omega (arith, c.source-j.ensures, source_in c.requires c.loop-i.i (omega arith))

pub offset_bounds-n-j : goal.offset_bounds-n-j
offset_bounds-n-j c = omega (arith, taken (goal.at.offset_bounds-n-j c).After-source-j, few (goal.at.offset_bounds-n-j c).Start)

pub bounds-n-j : goal.bounds-n-j
bounds-n-j c = omega (arith, taken (goal.at.bounds-n-j c).After-source-j, few (goal.at.bounds-n-j c).Start)

-- it becomes the next of the network renumbered
becomes : (c : After-node) → node_by c.places_of-places.result (cubes_of c.node.result.now) ≡ get_or (nodes (renumbered (net_of c.args.n.now))) c.loop-i.i []
becomes c =
    node-new c.requires c.places_of-places.ensures c.loop-i.i _ _ (omega arith) c.source-j.ensures c.node.ensures.0

-- as many cubes as its count says
as_many : (c : After-node) → get_or c.args.n.now.counts c.source-j.result 0 ≡ length (node_by c.places_of-places.result (cubes_of c.node.result.now))
as_many c =
    size-at c.requires _ (taken (goal.at.After-node c).After-source-j) ∙ ap length (sym c.node.ensures.0) ∙ sym (node-length _ (cubes_of c.node.result.now))

-- there is room for it
roomy : (c : After-node) → c.loop-i.at + length (node_by c.places_of-places.result (cubes_of c.node.result.now)) ≤ cube_slots
roomy c =
    omega (arith, new-room c.requires {i = c.loop-i.i} (omega arith) c.loop-i.invariant.1.place, ap length (becomes c))

pub put_node-requires : goal.put_node-requires
put_node-requires c = (
  c.places_of-places.ensures.span,
  omega (arith, roomy (goal.at.put_node-requires c).After-node, node-length c.places_of-places.result (cubes_of c.node.result.now), room-cubes c.loop-i.words cube_slots c.loop-i.invariant.0),
)

pub offset_bounds-counts-i : goal.offset_bounds-counts-i
offset_bounds-counts-i c = omega (arith, few (goal.at.offset_bounds-counts-i c).Start)

pub bounds-counts-i : goal.bounds-counts-i
bounds-counts-i c = omega (arith, few (goal.at.bounds-counts-i c).Start)

pub overflow_add-at : goal.overflow_add-at
overflow_add-at c = omega (arith, roomy (goal.at.overflow_add-at c).After-node, as_many (goal.at.overflow_add-at c).After-node)

pub loop-i-preserved : goal.loop-i-preserved
loop-i-preserved c =
    let n = new-many c.requires in
    let a = (goal.at.loop-i-preserved c).After-node in
    let s = (goal.at.loop-i-preserved c).Start in
    let p = laid_more (fs s) c.loop-i.invariant.1 (omega (arith, n)) (omega (arith, n, few s)) (becomes a) (as_many a) c.put_node.ensures in
    (search rules, p)

pub returns : goal.returns
returns c =
    new-holds c.requires (laid-all {i = c.loop-i.i} (fs (goal.at.returns c).Start) c.loop-i.invariant.1 (omega (arith, new-many c.requires)))
