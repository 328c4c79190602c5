-- The answers of `extract_partners::count_short`.
use Prim.Native.Nat.{ℕ}
use mathlib.Core.Path.{◌≡◌, ◌∙◌}
use native.Mathlib.Numerals.{add-one}
use native.Mathlib.Omega.{arith}
use lib.ListN.{length, length-replicate}
use Rattle.expression.specs.Words.{cubes_of}
use Rattle.extract_partners.proofs.{Short.short-room, Numbering.removals-many}
use Rattle.extract_partners.proofs.Node.{Whole, entered-none, part-some, turns-first, turns_next, turns-all}
use Rattle.extract_partners.proofs.count_short.Goals as goal
use Rattle.extract_partners.proofs.count_short.Goals.{After-list_node-n}

pub list_node-n-requires : goal.list_node-n-requires
list_node-n-requires c =
    let f = cubes_of c.args.f.now in
    let (a, b) = short-room f c.requires in
    (omega arith, omega (arith, removals-many 0 f, length-replicate {A = ℕ} 16384 0))

-- the removals are listed, and there was room for them
all_listed : (c : After-list_node-n) → Whole c.args.f.now c.list_node-n.new.ws c.list_node-n.result
all_listed c =
    let f = cubes_of c.args.f.now in
    let l = c.list_node-n.ensures in
    let e : length c.list_node-n.new.ws ≡ 16384 = l.long ∙ length-replicate {A = ℕ} 16384 0 in
    let (a, b) = short-room f c.requires in
    record { long = e; few = omega (arith, l.next, removals-many 0 f); all = l.front }

pub loop-e-init : goal.loop-e-init
loop-e-init c = (entered-none _ _, turns-first (all_listed (goal.at.loop-e-init c).After-list_node-n) _ _)

pub count_removal-requires : goal.count_removal-requires
count_removal-requires c =
    let w = all_listed (goal.at.count_removal-requires c).After-list_node-n in
    (c.loop-e.invariant.0, omega (arith, w.few), omega (arith, w.long), part-some w c.loop-e.e c.loop-e-test.true)

pub loop-e-preserved : goal.loop-e-preserved
loop-e-preserved c =
    let w = all_listed (goal.at.loop-e-preserved c).After-list_node-n in (
      rw add-one c.count_removal.ensures.1,
      turns_next w c.loop-e.e c.loop-e-test.true c.loop-e.invariant.1 c.count_removal.ensures.0,
    )

pub returns : goal.returns
returns c =
    let e : c.loop-e.e ≡ c.list_node-n.result = omega arith in
    turns-all (all_listed (goal.at.returns c).After-list_node-n) (rw e at c.loop-e.invariant.1)
