-- The answers of `blif_write::put_rows`.
use mathlib.Core.Path.{refl, ◌∙◌}
use native.Mathlib.Omega.{arith}
use borrow.Author.Rules.{rules}
use lib.ListN.{length, length-append}
use Rattle.std.proofs.lemmas.Iterator.Consumers.{YieldsList-at, YieldsList-turn, YieldsList-end}
use Rattle.expression.proofs.Chains.{each-list}
use Rattle.letters.proofs.Laying.{due_all, due-as, due-next, due-done}
use Rattle.blif_write.proofs.Texts.{rows_next, rows_none}
use Rattle.blif_write.proofs.put_rows.Goals as goal

pub loop-c-init : goal.loop-c-init
loop-c-init c = record { goes_on = search rules; ends = search rules; due = due_all _ _ (omega arith) (omega arith) refl; size = refl }

pub put_row-p-requires : goal.put_row-p-requires
put_row-p-requires c = c.requires

pub loop-c-preserved : goal.loop-c-preserved
loop-c-preserved c =
    let t = YieldsList-turn (YieldsList-at c.into_iter-c-iterator.ensures.into_iter_gives (each-list c.each-c-items.ensures)) c.loop-c.yielded _
    c.loop-c.yielded_by _ c.next.new.self c.in-Some.c c.in-Some.is c.next.ensures.steps in
    record {
      goes_on = search rules;
      ends = search rules;
      due = rw (length-append c.loop-c.yielded _)
          (due-next (due-as c.loop-c.invariant.due (rows_next _ _ (length c.loop-c.yielded) _ t.0 t.1)) c.put_row-p.ensures);
      size = c.put_row-p.auto.o ∙ c.loop-c.invariant.size;
    }

pub returns : goal.returns
returns c =
    let q = YieldsList-end (YieldsList-at c.into_iter-c-iterator.ensures.into_iter_gives (each-list c.each-c-items.ensures)) c.loop-c.yielded _
    c.loop-c.yielded_by _ c.next.new.self c.in-None.is c.next.ensures.steps in
    due-done (due-as c.loop-c.invariant.due (rows_none _ _ (length c.loop-c.yielded) (omega (arith, q.1))))
