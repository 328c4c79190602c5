-- `blif_form::begin` meets its contract: the word and a space tell. Assumes nothing.
use Rattle.letters_products.specs.Spelled.{spelled}
use Rattle.blif_form.proofs.Passing.{begin-here, begin-none, begin-other}
use Rattle.blif_form.proofs.begin.Goals as goal

pub returns-in_err-p : goal.returns-in_err-p
unfolding spelled
returns-in_err-p c = rw c.from_residual.ensures (begin-none c.args.s.now c.args.at c.in_err-p.ensures)

pub returns-in-Space : goal.returns-in-Space
unfolding spelled
returns-in-Space c = begin-here c.args.s.now c.args.at c.in-Space.p (rw c.in-Space.is at c.in_ok-p.ensures)

pub returns-in_default : goal.returns-in_default
unfolding spelled
returns-in_default c = begin-other c.args.s.now c.args.at c.in_ok-p.field-0 c.in_ok-p.ensures c.in_default.not-Space
