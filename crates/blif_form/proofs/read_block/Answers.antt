-- `blif_form::read_block` meets its contract: names, rows and used columns make a block, and where one of them fails there is none.
-- Assumes nothing.
use mathlib.Core.Path.{refl, sym, ◌∙◌}
use native.Mathlib.Omega.{arith}
use Rattle.blif_form.proofs.Taking.{nameless, outside, rowless, unused, block-found}
use Rattle.blif_form.proofs.read_block.Goals as goal

pub returns-in_err-d : goal.returns-in_err-d
returns-in_err-d c = (rw c.from_residual.ensures (nameless (omega (arith, c.ranges.m)) c.in_err-d.ensures), refl)

pub returns-then-not-is_among : goal.returns-then-not-is_among
returns-then-not-is_among c = (outside c.in_ok-d.ensures (sym c.is_among.ensures ∙ c.if-not-is_among.true), refl)

pub returns-in_err-rows : goal.returns-in_err-rows
returns-in_err-rows c = (rw c.from_residual-in_err-rows.ensures (rowless c.in_ok-d.ensures c.in_err-rows.ensures), refl)

pub returns-then-not-all_used : goal.returns-then-not-all_used
returns-then-not-all_used c = (unused c.in_ok-d.ensures c.if-not-all_used.ensures.0, c.all_used.ensures.1)

pub returns : goal.returns
returns c = (
  block-found _ c.in_ok-d.ensures c.in_ok-rows.ensures (sym c.is_among.ensures ∙ c.if-not-is_among.false) c.if-not-all_used.ensures.0 (omega arith),
  c.all_used.ensures.1,
)
