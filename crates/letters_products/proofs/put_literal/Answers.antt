-- `letters_products::put_literal` meets its contract: the variable's name, and `'` where it is negated. Assumes nothing.
use Prim.Native.Nat.{◌/◌}
use mathlib.Core.Path.{◌≡◌, sym, ap, ◌∙◌}
use mathlib.Core.List.{◌++◌}
use native.Mathlib.Omega.{arith}
use Rattle.letters.specs.Letters.{name_text}
use Rattle.letters.proofs.Laying.{Due, due_all, due-as, due-next, due-last, due-done}
use Rattle.letters_products.specs.Products.{literal_text}
use Rattle.letters_products.proofs.Texts.{mark, mark-none, mark-one, literal-start}
use Rattle.letters_products.proofs.put_literal.Goals as goal
use Rattle.letters_products.proofs.put_literal.Goals.{After-put_name-p}

-- after the name the mark is due
after : (c : After-put_name-p) → Due c.args.o.now c.args.at (literal_text c.args.l.0) c.put_name-p.new.o c.put_name-p.result (mark c.args.l.0)
after c =
    let l = c.args.l.0 in
    let v : l / 2 ≡ c.from.result = omega arith in
    let whole = literal-start l ∙ ap (λ v. name_text 120 v ++ mark l) v in
    due-next (due_all _ _ (omega arith) (omega arith) whole) c.put_name-p.ensures

pub returns-then-is_negated : goal.returns-then-is_negated
returns-then-is_negated c =
    due-last (due-as (after (goal.at.returns-then-is_negated c).After-put_name-p) (mark-one c.args.l.0 (sym c.is_negated.ensures ∙ c.if-is_negated.true))) c.put.ensures

pub returns-else-is_negated : goal.returns-else-is_negated
returns-else-is_negated c =
    due-done (due-as (after (goal.at.returns-else-is_negated c).After-put_name-p) (mark-none c.args.l.0 (sym c.is_negated.ensures ∙ c.if-is_negated.false)))
