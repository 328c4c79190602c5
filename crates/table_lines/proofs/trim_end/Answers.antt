-- `table_lines::trim_end` meets its contract. Assumes nothing.
use Rattle.std.proofs.Common.{◌≡◌, ◌∙◌, reverse, rules, tests}
use Rattle.std.proofs.lemmas.Iterator.{Adapters.YieldsList-from_rev_slice, Search.YieldsList-from_take_while}
use Rattle.std.{proofs.lemmas.Iterator.Consumers.count_from_yields_List, proofs.lemmas.List.Folds.length-prefix_len, specs.List.suffix_len}
use Rattle.table_lines.{specs.Text.is_blank, proofs.Ends.end_is}
use Rattle.table_lines.proofs.trim_end.Goals as goal

pub returns : goal.returns
returns c = let l = c.args.l.now in
    let n : c.count-n.result ≡ suffix_len is_blank l =
    count_from_yields_List _ _ c.count-n.ensures.ran
    (YieldsList-from_take_while _ is_blank (YieldsList-from_rev_slice l cc) c.take_while.ensures.closure c.take_while.ensures.done
    (λ x b q k. search (rules, tests)))
    ∙ length-prefix_len is_blank (reverse l) in
    rw n (end_is l)
