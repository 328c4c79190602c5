-- Lines, and what is left of one, in the paper's words.
use Rattle.std.specs.Prelude.{ℕ, ◌≤◌, ◌≡◌, Bool, true, false, not, List, [], ◌∷◌, ◌++◌, eqb, length}
use Rattle.sets.specs.Lists.{all}
use Rattle.table_lines.specs.Text.{is_blank, starts_blank}

-- no b is in it
abbrev pub lacks : ℕ → List ℕ → Bool
lacks b l = all (λ x. not (eqb x b)) l

-- lines with an LF between each and the next
unfoldable pub joined : List (List ℕ) → List ℕ
joined [] = []
joined (l ∷ []) = l
joined (l ∷ m ∷ ls) = l ++ (10 ∷ joined (m ∷ ls))

-- ls are one or more, no LF is in any of them, and with an LF between each and the next they are t
pub record Lines (t : List ℕ) (ls : List (List ℕ)) : Type 0 where
  pub one : 1 ≤ length ls
  pub each : all (lacks 10) ls ≡ true
  pub text : t ≡ joined ls

-- a blank stands at the end
abbrev pub ends_blank : List ℕ → Bool
ends_blank [] = false
ends_blank (b ∷ []) = is_blank b
ends_blank (b ∷ d ∷ t) = ends_blank (d ∷ t)

-- nothing, or `#` and anything
abbrev pub is_comment : List ℕ → Bool
is_comment [] = true
is_comment (b ∷ t) = eqb b 35

-- l is c with blanks, or none, at both ends, and then nothing or a comment, which the first `#` starts; at neither end of c stands a blank
pub record Leaves (l c : List ℕ) : Type 0 where
  pub front : List ℕ
  pub back : List ℕ
  pub comment : List ℕ
  pub text : l ≡ (front ++ (c ++ back)) ++ comment
  pub before : all is_blank front ≡ true
  pub after : all is_blank back ≡ true
  pub plain : lacks 35 (front ++ (c ++ back)) ≡ true
  pub hash : is_comment comment ≡ true
  pub starts : starts_blank c ≡ false
  pub ends : ends_blank c ≡ false
