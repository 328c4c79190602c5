-- `table_lines::trim_front` meets its contract. Assumes nothing.
use Rattle.std.proofs.Common.{◌≡◌, ◌∙◌, rules, tests}
use Rattle.std.proofs.lemmas.{Iterator.YieldsList-from_slice, Iterator.Search.YieldsList-from_take_while}
use Rattle.std.{proofs.lemmas.Iterator.Consumers.count_from_yields_List, proofs.lemmas.List.Folds.length-prefix_len, specs.List.prefix_len}
use Rattle.table_lines.{specs.Text.is_blank, proofs.Ends.rest-whole, proofs.Ends.front_is}
use Rattle.table_lines.proofs.trim_front.Goals as goal

pub returns : goal.returns
returns c = let l = c.args.l.now in
    let n : c.count-n.result ≡ prefix_len is_blank l =
    count_from_yields_List _ _ c.count-n.ensures.ran
    (YieldsList-from_take_while _ is_blank (YieldsList-from_slice l cc) c.take_while.ensures.closure c.take_while.ensures.done
    (λ x b q k. search (rules, tests)))
    ∙ length-prefix_len is_blank l in
    rw n (rest-whole (prefix_len is_blank l) l ∙ front_is l)
