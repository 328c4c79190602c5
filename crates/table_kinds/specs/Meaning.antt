-- The kinds of lines in the paper's words.
use Rattle.std.specs.Prelude.{ℕ, ◌≤◌, List, [], ◌∷◌, ◌++◌, length}
use mathlib.Core.{Path.◌≡◌, Bool.true}
use Rattle.sets.specs.Lists.{all}
use Rattle.letters.specs.Meaning.{read_back, is_digit}
use Rattle.table_lines.specs.Text.{Blanks}
use Rattle.table_kinds.specs.{Kinds.most_digits, declared.Kind.Kind}
use Rattle.table_kinds.specs.declared.Kind.TheVariants.{Empty, Inputs, Outputs, Products, End, Other}

-- d is one to five digits, which write n
pub record Numeral (d : List ℕ) (n : ℕ) : Type 0 where
  pub one : 1 ≤ length d
  pub few : length d ≤ most_digits
  pub each : all is_digit d ≡ true
  pub value : read_back 0 d ≡ n

-- c is a dot, the letter x, one or more blanks, and one to five digits, which write n
pub record Names (x : ℕ) (c : List ℕ) (n : ℕ) : Type 0 where
  pub blanks : List ℕ
  pub digits : List ℕ
  pub text : c ≡ 46 ∷ x ∷ (blanks ++ digits)
  pub between : Blanks blanks
  pub number : Numeral digits n

-- c is spelled as a kind is: empty; `.i N` or `.o N`; `.p N`; `.e` or `.end`
pub data Spelled (c : List ℕ) : Kind → Type 0 where
  bare : c ≡ [] → Spelled c Empty
  dot_i : (n : ℕ) → Names 105 c n → Spelled c (Inputs n)
  dot_o : (n : ℕ) → Names 111 c n → Spelled c (Outputs n)
  dot_p : (n : ℕ) → Names 112 c n → Spelled c (Products n)
  dot_e : c ≡ 46 ∷ 101 ∷ [] → Spelled c End
  dot_end : c ≡ 46 ∷ 101 ∷ 110 ∷ 100 ∷ [] → Spelled c End

-- one of these, or another
pub data OfKind (c : List ℕ) : Kind → Type 0 where
  known : {k : Kind} → Spelled c k → OfKind c k
  another : ((k : Kind) → Spelled c k → ⊥) → OfKind c Other
