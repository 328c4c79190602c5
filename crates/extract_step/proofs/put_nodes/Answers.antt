-- The answers of `extract_step::put_nodes`.
use Prim.Native.Nat.{ℕ, ◌+◌, ◌-◌, ◌<◌, ◌≤◌}
use mathlib.Core.Path.{◌≡◌}
use mathlib.Core.List.{List, []}
use native.Mathlib.Omega.{arith}
use borrow.Author.Rules.{rules}
use lib.ListN.{length, get_or, length-append}
use Rattle.std.proofs.lemmas.Iterator.Consumers.{YieldsList-at, YieldsList-turn, YieldsList-end}
use Rattle.std.proofs.lemmas.List.FromFn.{length-enumerate_from}
use Rattle.sets.proofs.{Lists.all-out, Places.at_in}
use Rattle.expression.specs.{Words.cubes_of, Expression.ordered}
use Rattle.network.{specs.Parts.nodes_of, proofs.Laying.laid_none}
use Rattle.extract_laws.specs.Divisor.{rewrite}
use Rattle.extract_tidy.proofs.Laid.{nodes-laid, node-fits, node-laid}
use Rattle.extract_tidy.proofs.Numbered.{numbered-list, numbered-turn}
use Rattle.extract_divisor.specs.Divisor.{divisor_of}
use Rattle.extract_step.proofs.{Becoming.rewrite-length}
use Rattle.extract_step.proofs.put_nodes.Goals as goal
use Rattle.extract_step.proofs.put_nodes.Goals.{In-Some, Start}

-- ---- what holds there
abbrev changed : Start → List (List ℕ) → List (List ℕ)
changed s = rewrite s.args.x.0 (divisor_of s.args.d)

fewer : (s : Start) (f : List (List ℕ)) → length (rewrite s.args.x.0 (divisor_of s.args.d) f) ≤ length f
fewer s f = rewrite-length s.args.x.0 (divisor_of s.args.d) f

-- the node of a turn
turn : (c : In-Some) → let fs = nodes_of c.args.e c.args.counts.now c.args.words.now in let k = length c.loop-i.yielded in
    (k < length fs) × (c.in-Some.i ≡ k) × (cubes_of c.in-Some.cubes.now ≡ get_or fs k [])
turn c = numbered-turn _ _ _ _ (YieldsList-turn
    (YieldsList-at c.into_iter-i-iterator.ensures.into_iter_gives
    (numbered-list _ c.enumerate-i-items.ensures.source c.enumerate-i-items.ensures.count c.take.ensures.source c.take.ensures.count c.each.ensures))
    c.loop-i.yielded _ c.loop-i.yielded_by _ c.next.new.self (c.in-Some.i, c.in-Some.cubes) c.in-Some.is c.next.ensures.steps)

pub loop-i-init : goal.loop-i-init
loop-i-init c = record { goes_on = search rules; ends = search rules; laid = rw (c.requires.zeros.0, c.requires.zeros.1) laid_none }

pub invariant_of-source : goal.invariant_of-source
invariant_of-source c =
    let t = turn (goal.at.invariant_of-source c).In-Some in record {
      ordered = rw t.2 (all-out ordered (at_in (nodes_of c.args.e c.args.counts.now c.args.words.now) (length c.loop-i.yielded) [] t.0) c.requires.source.order);
      fit = c.requires.fit;
    }

pub put-next-requires : goal.put-next-requires
put-next-requires c =
    let p = goal.at.put-next-requires c in
    let t = turn p.In-Some in
    node-fits (changed p.Start) (fewer p.Start) c.requires.source.room c.loop-i.invariant.laid t.0 t.2

pub loop-i-preserved : goal.loop-i-preserved
loop-i-preserved c =
    let p = goal.at.loop-i-preserved c in
    let t = turn p.In-Some in
    let w = c.put-next.ensures in
    let k : c.put-next.result - c.loop-i.to ≡ length (rewrite c.args.x.0 (divisor_of c.args.d) (cubes_of c.in-Some.cubes.now)) = omega (arith, w.next) in
    let e : c.loop-i.to + (c.put-next.result - c.loop-i.to) ≡ c.put-next.result = omega (arith, w.next) in
    record {
      goes_on = search rules;
      ends = search rules;
      laid = rw (length-append c.loop-i.yielded _, t.1)
          (node-laid (changed p.Start) (fewer p.Start) c.requires.source.room c.loop-i.invariant.laid t.0 t.2 k e w.placed);
    }

pub returns : goal.returns
returns c =
    let s = (goal.at.returns c).Start in
    let q = YieldsList-end
    (YieldsList-at c.into_iter-i-iterator.ensures.into_iter_gives
    (numbered-list _ c.enumerate-i-items.ensures.source c.enumerate-i-items.ensures.count c.take.ensures.source c.take.ensures.count c.each.ensures))
    c.loop-i.yielded _ c.loop-i.yielded_by _ c.next.new.self c.in-None.is c.next.ensures.steps in
    nodes-laid (changed s) (fewer s) c.requires.source.room c.loop-i.invariant.laid
    (omega (arith, q.1, length-enumerate_from 0 (nodes_of c.args.e c.args.counts.now c.args.words.now)))
