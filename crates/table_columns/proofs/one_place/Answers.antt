-- The answers of `table_columns::one_place`.
use Rattle.std.proofs.Common.{◌≡◌, ◌∙◌, ◌+◌, sym, arith, drop, length}
use Rattle.table_columns.specs.Columns.{one_place}
use Rattle.table_columns.proofs.Counting.{one-stop, one-passed, one_on, one-done}
use Rattle.table_columns.proofs.one_place.Goals as goal

pub returns-then-left-eq0 : goal.returns-then-left-eq0
returns-then-left-eq0 c =
    sym (one-stop c.args.o.now c.loop-i.i c.loop-i.left c.loop-i-test.true c.if-b-eq49.true c.if-left-eq0.true) ∙ c.loop-i.invariant

pub loop-i-preserved : goal.loop-i-preserved
loop-i-preserved c =
    let o = c.args.o.now in
    let i = c.loop-i.i in
    let e : (i + 1) + one_place c.if-b-eq49.left (drop (i + 1) o) ≡ i + one_place c.loop-i.left (drop i o) = elim c.if-b-eq49.branch [
      | goal.then-b-eq49+else-left-eq0 w ↦ rw w.left-is (sym (one-passed o i c.loop-i.left c.loop-i-test.true w.if-b-eq49.true w.if-left-eq0.false))
      | goal.else-b-eq49 w ↦ rw w.left-is (sym (one_on o i c.loop-i.left c.loop-i-test.true w.if-b-eq49.false))
    ] in
    e ∙ c.loop-i.invariant

pub returns : goal.returns
returns c = let h : length c.args.o.now ≡ c.loop-i.i = omega arith in
    h ∙ sym (one-done c.args.o.now c.loop-i.i c.loop-i.left c.loop-i-test.false) ∙ c.loop-i.invariant
