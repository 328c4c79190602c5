-- All rows of the table of printed forms hold: the test is computed. Assumes nothing.
use mathlib.Core.{Path.◌≡◌, Path.refl, Bool.true}
use Rattle.sets.{specs.Lists.all, specs.Lists.from, proofs.Lists.◌∈◌, proofs.Lists.all-out, proofs.Sets.same-eq}
use Rattle.sets.specs.Sets.{mem, sub, apart, insert, union, without, meet, same, before}
use Rattle.expression.specs.Expression.{has, place, sort, loose, dropped, absorb_from}
use Rattle.letters.specs.{Letters.digits, Letters.decimal, Meaning.read_back}
use Rattle.letters_products.specs.{Products.literal_text, Products.cube_text, Spelled.spelled}
use Rattle.factor.specs.{Form.most, Form.form_by, Text.sum_text, Text.form_text}
use Rattle.network.specs.Net.{cubes_at}
use Rattle.extract_laws.specs.Divisor.{small, use_of, swap, rewrite}
use Rattle.extract_laws.specs.Extract.{all_uses, bases_literals, weight, pairs_in, smaller_first, sum_of, sums_in, candidates, sooner, better, best_of, best, next_free}
use Rattle.extract_laws.specs.Run.{room_for, choose, move_of, prepare, run_from, in_order, run}
use Rattle.table_lines.specs.Text.{lines_of, uncommented, trim_front, trim_end}
use Rattle.table_kinds.specs.Kinds.{number_of, argument, named, kind_of}
use Rattle.table_rows.specs.Lines.{cube_line_of, cube_from}
use Rattle.table_columns.specs.{Forms.front, Forms.reach, Forms.farthest, Columns.place_in, Columns.place_of}
use Rattle.table.specs.Table.{set_wide, set_tall, set_stated, finish, read_line, read_lines, read_text, table_net}
use Rattle.report.specs.Report.{divisor_text, integer, step_line, step_lines, stop_text, run_text, refusal_text, ran_text, outcome_text, report_of}
use Rattle.cases.specs.Texts.{Example, row, bytes_of, is_printed, Prints, printed_forms}

pub texts-hold : all is_printed printed_forms ≡ true
unfolding is_printed printed_forms
texts-hold = unfold
    bytes_of spelled mem sub apart insert union without meet same before has place sort loose dropped absorb_from from
    digits decimal read_back literal_text cube_text most form_by sum_text form_text
    small use_of swap rewrite all_uses bases_literals weight pairs_in smaller_first sum_of sums_in candidates sooner better best_of best
    next_free room_for choose move_of prepare run_from in_order run cubes_at
    lines_of uncommented trim_front trim_end number_of argument named kind_of cube_line_of cube_from
    front reach farthest place_in place_of
    set_wide set_tall set_stated finish read_line read_lines read_text table_net
    divisor_text integer step_line step_lines stop_text run_text refusal_text ran_text outcome_text report_of
    in refl

-- so what each row says is so
pub texts-say : {r : Example} → r ∈ printed_forms → Prints r
unfolding is_printed
texts-say {r} m = of r (all-out is_printed m texts-hold)
  where
    of : (r : Example) → is_printed r ≡ true → Prints r
    of (row p t) h = same-eq (bytes_of p) (spelled t) h
