-- `blif_scan::model` meets its contract: the keyword, then the name. Assumes nothing.
use mathlib.Core.Logic.{inl, inr}
use Rattle.letters_products.specs.Spelled.{spelled}
use Rattle.blif_scan.proofs.Heading.{model-named, model-line, model-cut, model-other}
use Rattle.blif_scan.proofs.model.Goals as goal

pub returns-in_err-p : goal.returns-in_err-p
unfolding spelled
returns-in_err-p c = rw c.from_residual.ensures (model-other c.args.s.now c.in_err-p.ensures)

pub returns-in-Space : goal.returns-in-Space
unfolding spelled
returns-in-Space c = model-named c.args.s.now c.in-Space.p c.word.result (rw c.in-Space.is at c.in_ok-p.ensures) c.word.ensures

pub returns-in-Line : goal.returns-in-Line
unfolding spelled
returns-in-Line c = elim c.in-Line.is [
  | inl h ↦ model-line c.args.s.now _ (rw h.1 at c.in_ok-p.ensures)
  | inr h ↦ model-cut c.args.s.now (rw h at c.in_ok-p.ensures)
]
