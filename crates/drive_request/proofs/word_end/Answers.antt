-- `drive_request::word_end` meets its contract: where a search finds a blank. Assumes nothing.
use Rattle.std.proofs.Common.{◌∙◌, ap, eqb, length, rules}
use borrow.Author.Tests.{tests}
use Rattle.std.specs.Prelude.{unwrap_or}
use Rattle.std.proofs.lemmas.{Iterator.YieldsList-from_slice, Iterator.Search.position_from_yields_List}
use Rattle.drive_request.proofs.Splitting.{index-position}
use Rattle.drive_request.proofs.word_end.Goals as goal

pub returns-clause-value : goal.returns-clause-value
returns-clause-value c =
    let t = c.args.text.now in
    let p = position_from_yields_List (λ x. eqb x 32) _ _ _ c.position.ensures.ran (YieldsList-from_slice t c.iter.ensures.rest) (λ x b q k. search (rules, tests)) in
    c.unwrap_or.ensures ∙ ap (λ o. unwrap_or o (length t)) p ∙ index-position 32 t
