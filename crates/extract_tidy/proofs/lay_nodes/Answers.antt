-- The answers of `extract_tidy::lay_nodes`.
use Prim.Native.Nat.{ℕ, ◌+◌, ◌<◌, ◌≤◌}
use mathlib.Core.Path.{◌≡◌, refl, sym, ◌∙◌, subst}
use mathlib.Core.List.{List, [], map}
use native.Mathlib.Omega.{arith}
use borrow.Author.Rules.{rules}
use lib.ListN.{length, get_or, length-append}
use Rattle.std.proofs.lemmas.Iterator.Consumers.{YieldsList-at, YieldsList-turn, YieldsList-end}
use Rattle.std.proofs.lemmas.List.FromFn.{length-enumerate_from}
use Rattle.expression.{specs.Words.cubes_of, specs.Expression.sort, proofs.Sorting.sort-length, proofs.Words.cubes-few}
use Rattle.network.{specs.Handed.LaidNodes, specs.Parts.nodes_of, proofs.Laying.laid_none}
use Rattle.extract_tidy.proofs.Laid.{limited-room, nodes-laid, node-fits, node-laid, sorted-copy}
use Rattle.extract_tidy.proofs.Numbered.{numbered-list, numbered-turn}
use Rattle.extract_tidy.proofs.lay_nodes.Goals as goal
use Rattle.extract_tidy.proofs.lay_nodes.Goals.{In-Some}

-- ---- what holds there
fewer : (f : List (List ℕ)) → length (sort f) ≤ length f
fewer f = omega (arith, sort-length f)

-- the node of a turn
turn : (c : In-Some) → let n = c.args.n.now in let fs = nodes_of (n.outputs + n.divisors) n.counts n.words in let k = length c.loop-i.yielded in
    (k < length fs) × (c.in-Some.i ≡ k) × (cubes_of c.in-Some.f.now ≡ get_or fs k [])
turn c = numbered-turn _ _ _ _ (YieldsList-turn
    (YieldsList-at c.into_iter-i-iterator.ensures.into_iter_gives
    (numbered-list _ c.enumerate-i-items.ensures.source c.enumerate-i-items.ensures.count c.take.ensures.source c.take.ensures.count c.each.ensures))
    c.loop-i.yielded _ c.loop-i.yielded_by _ c.next.new.self (c.in-Some.i, c.in-Some.f) c.in-Some.is c.next.ensures.steps)

-- there is room for it
fits : (c : In-Some) → c.loop-i.at + length (cubes_of c.in-Some.f.now) ≤ length (cubes_of c.loop-i.words)
fits c = let t = turn c in node-fits sort fewer (limited-room c.args.n.now c.requires.limited) c.loop-i.invariant.laid t.0 t.2

pub loop-i-init : goal.loop-i-init
loop-i-init c = record { goes_on = search rules; ends = search rules; laid = rw (c.requires.zeros.0, c.requires.zeros.1) laid_none }

pub overflow_add-at : goal.overflow_add-at
overflow_add-at c = omega (arith, c.number-size.ensures, fits (goal.at.overflow_add-at c).In-Some, cubes-few c.loop-i.words)

pub overflow_add-at-in-loop-i : goal.overflow_add-at-in-loop-i
overflow_add-at-in-loop-i c = omega (arith, c.number-size.ensures, fits (goal.at.overflow_add-at-in-loop-i c).In-Some, cubes-few c.loop-i.words)

pub loop-i-preserved : goal.loop-i-preserved
loop-i-preserved c =
    let s = (goal.at.loop-i-preserved c).In-Some in
    let t = turn s in
    let f = cubes_of c.in-Some.f.now in
    record {
      goes_on = search rules;
      ends = search rules;
      laid = rw (length-append c.loop-i.yielded _, t.1)
          (node-laid sort fewer (limited-room c.args.n.now c.requires.limited) c.loop-i.invariant.laid t.0 t.2 (c.number-size.ensures ∙ sym (sort-length f)) refl
          (sorted-copy f c.number-size.ensures (fits s) c.copy.ensures c.sort_part.ensures));
    }

pub returns : goal.returns
returns c =
    let n = c.args.n.now in
    let fs = nodes_of (n.outputs + n.divisors) n.counts n.words in
    let q = YieldsList-end
    (YieldsList-at c.into_iter-i-iterator.ensures.into_iter_gives
    (numbered-list _ c.enumerate-i-items.ensures.source c.enumerate-i-items.ensures.count c.take.ensures.source c.take.ensures.count c.each.ensures))
    c.loop-i.yielded _ c.loop-i.yielded_by _ c.next.new.self c.in-None.is c.next.ensures.steps in
    let w = nodes-laid sort fewer (limited-room n c.requires.limited) c.loop-i.invariant.laid (omega (arith, q.1, length-enumerate_from 0 fs)) in
    subst (λ t. LaidNodes c.loop-i.words c.loop-i.counts t (map sort fs)) w.place w
