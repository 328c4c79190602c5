-- The kinds of lines.
use Rattle.std.specs.Prelude.{ℕ, cond, ◌&&◌, ◌||◌, List, [], ◌∷◌, leb, length, take, drop}
use Rattle.std.proofs.Math.Option.{Option, none, some}
use Rattle.sets.specs.{Lists.all, Sets.same}
use Rattle.letters.specs.Meaning.{read_back, is_digit}
use Rattle.table_lines.specs.Text.{starts_blank, trim_front}
use Rattle.table_kinds.specs.declared.Kind.{Kind}
use Rattle.table_kinds.specs.declared.Kind.TheVariants.{Empty, Inputs, Outputs, Products, End, Other}

abbrev pub most_digits : ℕ
most_digits = 5

-- one to five digits
unfoldable pub number_of : List ℕ → Option ℕ
number_of t = cond (leb 1 (length t) && (leb (length t) most_digits && all is_digit t)) (some (read_back 0 t)) none

-- blanks, then a number of one to five digits and nothing else
unfoldable pub argument : List ℕ → Option ℕ
argument t = cond (starts_blank t) (number_of (trim_front t)) none

abbrev pub with_number : (ℕ → Kind) → Option ℕ → Kind
with_number k none = Other
with_number k (some n) = k n

-- `.i`, `.o` or `.p` and a number
unfoldable pub named : List ℕ → Kind
named c = let f = take 2 c in let a = argument (drop 2 c) in
    cond (same f (46 ∷ 105 ∷ [])) (with_number Inputs a)
    (cond (same f (46 ∷ 111 ∷ [])) (with_number Outputs a) (cond (same f (46 ∷ 112 ∷ [])) (with_number Products a) Other))

-- empty; `.e` or `.end`; a named number; or another
unfoldable pub kind_of : List ℕ → Kind
kind_of [] = Empty
kind_of (b ∷ t) = cond (same (b ∷ t) (46 ∷ 101 ∷ []) || same (b ∷ t) (46 ∷ 101 ∷ 110 ∷ 100 ∷ [])) End (named (b ∷ t))
