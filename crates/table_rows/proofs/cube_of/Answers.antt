-- The answers of `table_rows::cube_of`.
use Rattle.std.proofs.Common.{◌∙◌, sym, ap, arith, get_or}
use Rattle.table_rows.{specs.Lines.cube_from, specs.Parts.placed, proofs.Cubing.from_next}
use Rattle.table_rows.proofs.cube_of.Goals as goal

pub loop-v-init : goal.loop-v-init
unfolding cube_from
loop-v-init c = c.empty-c.ensures

pub loop-v-preserved : goal.loop-v-preserved
loop-v-preserved c = let p = c.args.p.now in
    let i = c.loop-v.v in
    c.with_place-c.ensures ∙ ap (placed i (get_or p i 0)) c.loop-v.invariant ∙ sym (from_next p i (omega arith) (omega arith))
