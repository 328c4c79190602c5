-- `extract_step::Source::remake` meets its contract, by the two tests. Assumes nothing.
use Prim.Native.Nat.{◌*◌}
use mathlib.Core.Path.{sym, ap, ◌∙◌}
use borrow.Author.Tests.{lt-ltb}
use Rattle.std.specs.Prelude.{Some}
use Rattle.sets.specs.Sets.{without}
use Rattle.cube.specs.Cube.{width, lits, joined}
use Rattle.extract_laws.specs.Divisor.{swap}
use Rattle.extract_step.specs.Parts.{fate}
use Rattle.extract_step.proofs.Source.remake.Goals as goal

pub returns-then-is_hit : goal.returns-then-is_hit
unfolding fate swap
returns-then-is_hit c =
    let x = c.args.self.literal.0 in
    let base = c.without-base.ensures ∙ ap (without (lits c.args.c)) c.part_of.ensures in
    rw (sym c.is_hit.ensures ∙ c.if-is_hit.true)
    (ap Some (rw (lt-ltb x (2 * width) c.args.self.fit.literal) at (c.with.ensures ∙ ap (joined x) base)))

pub returns-then-is_gone : goal.returns-then-is_gone
unfolding fate
returns-then-is_gone c = rw (sym c.is_hit.ensures ∙ c.if-is_hit.false, sym c.is_gone.ensures ∙ c.if-is_gone.true)

pub returns-else-is_gone : goal.returns-else-is_gone
unfolding fate
returns-else-is_gone c = rw (sym c.is_hit.ensures ∙ c.if-is_hit.false, sym c.is_gone.ensures ∙ c.if-is_gone.false)
