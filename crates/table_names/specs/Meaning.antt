-- The names of inputs in the words of the manual.
use Rattle.std.specs.Prelude.{ℕ, ◌≤◌, length}
use mathlib.Core.{Path.◌≡◌, Bool.true, Bool.false}
use mathlib.Core.List.{List, ◌∷◌, ◌++◌, Memᴰ}
use Rattle.sets.specs.Lists.{all}
use Rattle.table_lines.specs.Text.{is_blank, starts_blank, Blanks}
use Rattle.table_lines.specs.Meaning.{ends_blank}
use Rattle.table_rows.specs.Lines.{is_place}
use Rattle.table_names.specs.Names.{written}

-- the line l gives input i the name w: it is `#`, `x` with the number of the input, one or more blanks and w, which is one byte or more with
-- a blank at neither end; blanks may stand before the `#`, after it, and after w
pub record Gives (i : ℕ) (l w : List ℕ) : Type 0 where
  pub front : List ℕ
  pub between : List ℕ
  pub gap : List ℕ
  pub back : List ℕ
  pub text : l ≡ front ++ (35 ∷ (between ++ (120 ∷ (written i ++ (gap ++ (w ++ back))))))
  pub front-blank : all is_blank front ≡ true
  pub between-blank : all is_blank between ≡ true
  pub apart : Blanks gap
  pub back-blank : all is_blank back ≡ true
  pub one : 1 ≤ length w
  pub starts : starts_blank w ≡ false
  pub ends : ends_blank w ≡ false

-- the line l begins as a cube line does: one of `0 1 -`, blanks or none before it
pub record Begins (l : List ℕ) : Type 0 where
  pub front : List ℕ
  pub place : ℕ
  pub rest : List ℕ
  pub text : l ≡ front ++ (place ∷ rest)
  pub blank : all is_blank front ≡ true
  pub is : is_place place ≡ true

-- w is the first name that one of the lines gives input i, and no line before that one begins as a cube line does
pub record FirstGiven (i : ℕ) (ls : List (List ℕ)) (w : List ℕ) : Type 0 where
  pub before : List (List ℕ)
  pub line : List ℕ
  pub rest : List (List ℕ)
  pub text : ls ≡ before ++ (line ∷ rest)
  pub given : Gives i line w
  pub nameless : (l : List ℕ) → Memᴰ l before → (v : List ℕ) → Gives i l v → ⊥
  pub cubeless : (l : List ℕ) → Memᴰ l before → Begins l → ⊥
