-- The answers of `drive_request::groups`, whose loop's invariant stands beside. Assumes nothing.
use mathlib.Core.Path.{◌≡◌, sym, ap, ◌∙◌}
use mathlib.Core.Bool.{cond}
use Prim.Native.Nat.{◌+◌}
use native.Mathlib.Omega.{arith}
use borrow.Author.Tests.{eqb-true}
use Rattle.std.specs.Prelude.{Some}
use Rattle.drive_request.specs.Words.{words_of, filled, parts_in}
use Rattle.drive_request.proofs.Splitting.{ends-last, filled-stop, parts_next, parts-few, words-few, groups-blank, groups-empty, groups-spaced}
use Rattle.drive_request.proofs.groups.Goals as goal

pub returns-then-ends_with : goal.returns-then-ends_with
returns-then-ends_with c = let line = c.args.line.now in
    rw (groups-blank line (sym (ends-last line) ∙ sym c.ends_with.ensures.value ∙ c.if-ends_with.true))

pub returns-then-is_empty : goal.returns-then-is_empty
returns-then-is_empty c =
    let none = eqb-true _ _ (sym c.is_empty.ensures ∙ c.if-is_empty.true) in
    rw (groups-empty c.args.line.now (sym c.loop-word.invariant.0 ∙ filled-stop c.in-Some.ensures.steps none))

pub overflow_add-parts : goal.overflow_add-parts
overflow_add-parts c =
    let line = c.args.line.now in
    let rest = parts_in (words_of c.next.new.self.0.now) in
    let one = parts_next c.in-Some.ensures.steps ∙ ap (λ b. cond b 1 0 + rest) (sym c.is_part.ensures ∙ c.if-is_part.true) in
    omega (arith, c.loop-word.invariant.1, one, parts-few (words_of line), words-few line)

pub overflow_add-result : goal.overflow_add-result
overflow_add-result c = let line = c.args.line.now in omega (arith, c.loop-word.invariant.1, parts-few (words_of line), words-few line)

pub returns : goal.returns
returns c =
    let line = c.args.line.now in
    let d = c.in-None.ensures.steps.0 in
    let p : c.loop-word.parts ≡ parts_in (words_of line) = omega (arith, ap parts_in d, c.loop-word.invariant.1) in
    ap (λ n. Some (n + 1)) p
    ∙ groups-spaced line (sym (ends-last line) ∙ sym c.ends_with.ensures.value ∙ c.if-ends_with.false) (sym c.loop-word.invariant.0 ∙ ap filled d)
