-- All rows of the table of BLIF texts hold: the test is computed. Assumes nothing.
use Prim.Native.Nat.{ℕ}
use mathlib.Core.Path.{◌≡◌, refl, ap}
use mathlib.Core.{Bool.true, List.List}
use borrow.Author.Tests.{eqb-true}
use Rattle.sets.{specs.Lists.all, specs.Lists.from, proofs.Lists.◌∈◌, proofs.Lists.all-out, proofs.Sets.same-eq, proofs.Truth.clash}
use Rattle.sets.specs.Sets.{mem, sub, apart, proper, insert, union, without, meet, same, before}
use Rattle.expression.specs.Expression.{has, place, sort, loose}
use Rattle.letters.specs.{Letters.digits, Letters.decimal, Meaning.read_back}
use Rattle.letters_products.specs.Spelled.{spelled}
use Rattle.network.specs.Net.{Net, cubes_at}
use Rattle.network.specs.Listing.{ready, next_ready, list_more, listing}
use Rattle.network.specs.{Held.numbered, Held.ruled, Handed.Return, Handed.gives, Handed.refuses}
use Rattle.network_reads.specs.Reading.{variables_of, reads_of}
use Rattle.image_laws.specs.Renumber.{index_of, new_number, new_literal, new_cube, new_node, renumbered}
use Rattle.blif_laws.specs.Text.{spaced, ended, name_word, sign_of, row_words, names_words, block_lines, head_lines, model_lines, model_text, output_blocks}
use Rattle.blif_laws.specs.Text.{model_of, blif_of}
use Rattle.blif_laws.specs.Reading.{joined, cut_at, parts_of, number_in, name_in, in_turn, names_in, is_row, cube_in, block_from, block_in, blocks_in, is_model, list_in}
use Rattle.blif_laws.specs.Reading.{model_parts, model_in, gapless, times_defined, defined_once, cubes_for, net_in, keeps_rules, read_blif}
use Rattle.cases.specs.Blif.{Spelling, writes, reads, refused, has_text, has_number, is_spelt, Spells, spellings}

pub blif-holds : all is_spelt spellings ≡ true
unfolding is_spelt spellings
blif-holds = unfold
    spelled mem sub apart proper insert union without meet same before has place sort loose from digits decimal read_back cubes_at ready next_ready list_more
    listing
    numbered ruled variables_of reads_of index_of new_number new_literal new_cube new_node renumbered
    spaced ended name_word sign_of row_words names_words block_lines head_lines model_lines model_text output_blocks model_of blif_of
    joined cut_at parts_of number_in name_in in_turn names_in is_row cube_in block_from block_in blocks_in is_model list_in
    model_parts model_in gapless times_defined defined_once cubes_for net_in keeps_rules read_blif
    in refl

-- so what each row says is so
pub blif-says : {r : Spelling} → r ∈ spellings → Spells r
unfolding is_spelt
blif-says {r} m = of r (all-out is_spelt m blif-holds)
  where
    given : (o : Return) (t : List ℕ) → has_text o t ≡ true → (n : Net) × (o ≡ gives n) × (blif_of n ≡ t)
    given (gives n) t h = (n, refl, same-eq (blif_of n) t h)
    given (refuses k) t h = clash h refl

    numbered-so : (o : Return) (k : ℕ) → has_number o k ≡ true → o ≡ refuses k
    numbered-so (gives n) k h = clash h refl
    numbered-so (refuses j) k h = ap refuses (eqb-true j k h)

    of : (r : Spelling) → is_spelt r ≡ true → Spells r
    of (writes n t) h = same-eq (blif_of n) (spelled t) h
    of (reads t u) h = given (read_blif (spelled t)) (spelled u) h
    of (refused t k) h = numbered-so (read_blif (spelled t)) k h
