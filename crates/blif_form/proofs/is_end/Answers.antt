-- `blif_form::is_end` meets its contract: the word `.end` and what comes after it tell. Assumes nothing.
use Rattle.letters_products.specs.Spelled.{spelled}
use Rattle.blif_form.proofs.Surveying.{end-space, end-after, end-finish, end-other}
use Rattle.blif_form.proofs.is_end.Goals as goal

pub returns-in-Some-Line : goal.returns-in-Some-Line
unfolding spelled
returns-in-Some-Line c =
    end-after c.args.s.now c.args.at c.in-Some-Line.p c.read_byte.result c.is_none.result c.is_none.ensures
    (rw c.in-Some-Line.field-0-is at c.in-Some-Line.ensures) c.read_byte.ensures

pub returns-in-Some-Finish : goal.returns-in-Some-Finish
unfolding spelled
returns-in-Some-Finish c = end-finish c.args.s.now c.args.at (rw c.in-Some-Finish.field-0-is at c.in-Some-Finish.ensures)

pub returns-in-Some-Space : goal.returns-in-Some-Space
unfolding spelled
returns-in-Some-Space c = end-space c.args.s.now c.args.at _ (rw c.in-Some-Space.field-0-is at c.in-Some-Space.ensures)

pub returns-in-None : goal.returns-in-None
unfolding spelled
returns-in-None c = end-other c.args.s.now c.args.at c.in-None.ensures
