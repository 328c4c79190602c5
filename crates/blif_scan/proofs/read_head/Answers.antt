-- `blif_scan::read_head` meets its contract: the three lines, each from where the one before it ends. Assumes nothing.
use Rattle.letters_products.specs.Spelled.{spelled}
use Rattle.blif_scan.proofs.Heading.{head-model, head-inputs, head-outputs, head-is}
use Rattle.blif_scan.proofs.read_head.Goals as goal

pub returns-in_err-p : goal.returns-in_err-p
returns-in_err-p c = rw c.from_residual.ensures (head-model _ c.in_err-p.ensures)

pub returns-in_err-inputs : goal.returns-in_err-inputs
unfolding spelled
returns-in_err-inputs c = rw c.from_residual-in_err-inputs.ensures (head-inputs _ c.in_ok-p.p c.in_ok-p.ensures c.in_err-inputs.ensures)

pub returns-in_err-outputs : goal.returns-in_err-outputs
unfolding spelled
returns-in_err-outputs c =
    rw c.from_residual-in_err-outputs.ensures
    (head-outputs _ c.in_ok-p.p c.in_ok-p.ensures c.in_ok-inputs.inputs c.in_ok-inputs.q c.in_ok-inputs.ensures c.in_err-outputs.ensures)

pub returns : goal.returns
unfolding spelled
returns c =
    head-is _ c.in_ok-p.p c.in_ok-p.ensures c.in_ok-inputs.inputs c.in_ok-inputs.q c.in_ok-inputs.ensures c.in_ok-outputs.outputs c.in_ok-outputs.first
    c.in_ok-outputs.ensures
