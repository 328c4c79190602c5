-- All rows of the table hold: the test is computed. Assumes nothing.
use mathlib.Core.{Path.◌≡◌, Path.refl, Bool.true}
use Rattle.sets.{specs.Lists.all, specs.Masks.bit, proofs.Lists.◌∈◌, proofs.Lists.all-out}
use Rattle.sets.specs.Sets.{mem, sub, apart, insert, union, without, meet, same, before}
use Rattle.expression.specs.Expression.{has, place, sort, loose}
use Rattle.division.specs.Division.{in_quotient, quotient, product, remainder}
use Rattle.cokernel.specs.Cokernels.{common, is_cokernel, opens}
use Rattle.factor.specs.{Form.most, Form.form_by, Text.sum_text, Text.form_text}
use Rattle.letters.specs.Letters.{digits, decimal}
use Rattle.letters_products.specs.Products.{literal_text, cube_text}
use Rattle.network.specs.{Net.cubes_at, Held.numbered}
use Rattle.network.specs.Listing.{ready, next_ready, list_more, listing}
use Rattle.extract_laws.specs.Divisor.{small, use_of, swap, rewrite}
use Rattle.extract_laws.specs.Extract.{all_uses, bases_literals, weight, pairs_in, smaller_first, sum_of, sums_in, candidates, sooner, better, best_of, best, next_free}
use Rattle.extract_laws.specs.Run.{room_for, choose, move_of, prepare, run_from, in_order, run}
use Rattle.image_fields.specs.Fields.{bits_of, value_of, field_bits, bytes_from, bits_in}
use Rattle.image_laws.specs.Renumber.{index_of, new_number, new_literal, new_cube, new_node, renumbered}
use Rattle.image_laws.specs.Image.{cube_fields, node_fields, head_fields, net_fields, net_bytes, image_of}
use Rattle.image_laws.specs.Reading.{get_field, get_many, get_literals, get_cube, get_node, get_nodes, get_raw, padding, summed, in_the_order, reads_earlier}
use Rattle.image_laws.specs.Reading.{all_in_order, judge_raw, read_image}
use Rattle.cases.specs.Tests.{alike, equal_cubes, same_integer, same_divisor, turn, same_stop, equal_node, same_net}
use Rattle.cases.specs.Cases.{Case, begins, finishes, read_as, is_right, f₁, f₆, f₉, f₁₂, image₅, table}
use Rattle.cases.specs.Meaning.{Says}
use Rattle.cases.proofs.{Opening.opened, Opening.cokernels-opened, Testing.holds-says}

-- the co-kernels come by the cheaper walk, all else as it is defined
pub cases-hold : all is_right table ≡ true
unfolding is_right table
cases-hold = simp cokernels-opened (unfold
    f₁ f₆ f₉ f₁₂ image₅ alike equal_cubes same_integer same_divisor turn same_stop equal_node same_net begins finishes read_as
    mem sub apart insert union without meet same before has place sort loose
    in_quotient quotient product remainder
    common is_cokernel opens opened
    most form_by digits decimal literal_text cube_text sum_text form_text
    small use_of swap rewrite all_uses bases_literals weight pairs_in smaller_first sum_of sums_in candidates sooner better best_of best
    next_free room_for choose move_of prepare run_from in_order run cubes_at
    ready next_ready list_more listing numbered index_of new_number new_literal new_cube new_node renumbered
    bit bits_of value_of field_bits bytes_from bits_in cube_fields node_fields head_fields net_fields net_bytes image_of
    get_field get_many get_literals get_cube get_node get_nodes get_raw padding summed in_the_order reads_earlier all_in_order judge_raw read_image
    in refl)

-- so what each row says is so
pub cases-say : {c : Case} → c ∈ table → Says c
cases-say {c} m = holds-says c (all-out is_right m cases-hold)
