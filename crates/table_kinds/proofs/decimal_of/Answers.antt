-- The answers of `table_kinds::decimal_of`.
use Rattle.std.proofs.Common.{◌≡◌, ◌∙◌, ℕ, ◌+◌, ◌*◌, true, false, sym, ap, arith, get_or, drop}
use Rattle.std.proofs.lemmas.Bool.Decides.{nat_tests}
use native.Mathlib.Nat.{pow-suc}
use lib.ListN.{drop_of_length-le}
use Rattle.sets.proofs.Places.{all-stop, all-on, drop-next}
use Rattle.letters.specs.Meaning.{is_digit, read_back}
use Rattle.table_kinds.specs.Kinds.{number_of}
use Rattle.table_kinds.proofs.decimal_of.Goals as goal

pub returns-then-is_empty : goal.returns-then-is_empty
unfolding number_of
returns-then-is_empty c = grind (arith, nat_tests)

pub returns-then-not-is_ascii_digit : goal.returns-then-not-is_ascii_digit
unfolding number_of
returns-then-not-is_ascii_digit c = let t = c.args.t.now in
    let e : is_digit (get_or t c.loop-b.b-index 0) ≡ false = sym c.is_ascii_digit.ensures.value ∙ c.if-not-is_ascii_digit.true in
    let d = all-stop t c.loop-b.b-index 0 c.loop-b-test.true is_digit e in grind (arith, nat_tests)

pub loop-b-preserved : goal.loop-b-preserved
unfolding read_back
loop-b-preserved c = let t = c.args.t.now in
    let i = c.loop-b.b-index in
    let e : is_digit (get_or t i 0) ≡ true = sym c.is_ascii_digit.ensures.value ∙ c.if-not-is_ascii_digit.false in
    let d = drop-next t i 0 c.loop-b-test.true in (
      grind (arith, nat_tests, pow-suc),
      ap (λ (k : ℕ). read_back (10 * c.loop-b.n + k) (drop (i + 1) t)) c.from.ensures ∙ ap (read_back c.loop-b.n) (sym d) ∙ c.loop-b.invariant.1,
      sym (all-on t i 0 c.loop-b-test.true is_digit e) ∙ c.loop-b.invariant.2,
    )

pub returns : goal.returns
unfolding number_of read_back
returns c = let d = drop_of_length-le c.args.t.now c.loop-b-test.false in grind (arith, nat_tests)
