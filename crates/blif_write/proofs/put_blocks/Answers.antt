-- The answers of `blif_write::put_blocks`.
use Prim.Native.Nat.{ℕ, ◌+◌, ◌<◌}
use mathlib.Core.Path.{◌≡◌, refl, ap, ◌∙◌}
use mathlib.Core.List.{[]}
use native.Mathlib.Omega.{arith}
use borrow.Author.Rules.{rules}
use lib.ListN.{length, get_or, length-append}
use Rattle.std.proofs.lemmas.Iterator.Consumers.{YieldsList-at, YieldsList-turn, YieldsList-end}
use Rattle.std.proofs.lemmas.List.FromFn.{length-enumerate_from}
use Rattle.letters.specs.Letters.{name_text}
use Rattle.letters.proofs.Laying.{due_all, due-as, due-next, due-done, laid_as}
use Rattle.expression.specs.Words.{cubes_of}
use Rattle.blif_write.specs.Parts.{nodes_at, block_text}
use Rattle.blif_write.proofs.Numbered.{numbered-list, numbered-turn}
use Rattle.blif_write.proofs.Texts.{blocks-all, blocks-next, blocks-none, nodes-length}
use Rattle.blif_write.proofs.put_blocks.Goals as goal
use Rattle.blif_write.proofs.put_blocks.Goals.{In-Some}

-- the node of a turn
turn : (c : In-Some) → let n = c.args.net.now in let fs = nodes_at c.args.a c.args.n n.words n.counts in let k = length c.loop-i.yielded in
    (k < length fs) × (c.in-Some.i ≡ k) × (cubes_of c.in-Some.f.now ≡ get_or fs k [])
turn c = numbered-turn _ _ _ _ (YieldsList-turn
    (YieldsList-at c.into_iter-i-iterator.ensures.into_iter_gives
    (numbered-list c.args.a c.args.n c.enumerate-i-items.ensures.source c.enumerate-i-items.ensures.count c.take.ensures.source c.take.ensures.count
    c.skip.ensures.source c.skip.ensures.count c.each-nodes.ensures))
    c.loop-i.yielded _ c.loop-i.yielded_by _ c.next.new.self (c.in-Some.i, c.in-Some.f) c.in-Some.is c.next.ensures.steps)

pub loop-i-init : goal.loop-i-init
loop-i-init c =
    record { goes_on = search rules; ends = search rules; due = due_all _ _ (omega arith) (omega arith) (blocks-all _ _ _); size = refl }

pub overflow_add-v : goal.overflow_add-v
overflow_add-v c =
    let n = c.args.net.now in
    let t = turn (goal.at.overflow_add-v c).In-Some in
    omega (arith, t.0, t.1, nodes-length n.words n.counts c.args.a c.args.n c.requires.inside, c.requires.small)

pub loop-i-preserved : goal.loop-i-preserved
loop-i-preserved c =
    let t = turn (goal.at.loop-i-preserved c).In-Some in
    let f = cubes_of c.in-Some.f.now in
    record {
      goes_on = search rules;
      ends = search rules;
      due = rw (length-append c.loop-i.yielded _)
          (due-next (due-as c.loop-i.invariant.due (blocks-next c.args.b c.args.v _ (length c.loop-i.yielded) f t.0 t.2))
          (laid_as c.put_block-p.ensures (ap (λ (k : ℕ). block_text (name_text c.args.b (c.args.v + k)) f) t.1)));
      size = c.put_block-p.auto.o ∙ c.loop-i.invariant.size;
    }

pub returns : goal.returns
returns c =
    let n = c.args.net.now in
    let q = YieldsList-end
    (YieldsList-at c.into_iter-i-iterator.ensures.into_iter_gives
    (numbered-list c.args.a c.args.n c.enumerate-i-items.ensures.source c.enumerate-i-items.ensures.count c.take.ensures.source c.take.ensures.count
    c.skip.ensures.source c.skip.ensures.count c.each-nodes.ensures))
    c.loop-i.yielded _ c.loop-i.yielded_by _ c.next.new.self c.in-None.is c.next.ensures.steps in
    due-done (due-as c.loop-i.invariant.due
    (blocks-none c.args.b c.args.v _ (length c.loop-i.yielded) (omega (arith, q.1, length-enumerate_from 0 (nodes_at c.args.a c.args.n n.words n.counts)))))
