-- The text of a table as bytes: lines, comments, blanks.
use Rattle.std.specs.Prelude.{ℕ, ◌+◌, ◌-◌, ◌≤◌, ◌≡◌, Bool, true, false, cond, ◌&&◌, ◌||◌, List, [], ◌∷◌, eqb, length}
use Rattle.sets.specs.Lists.{all, is_nil}
use Rattle.table_lines.specs.declared.Span.{Span}

-- space, tab and CR
abbrev pub is_blank : ℕ → Bool
is_blank b = eqb b 32 || (eqb b 9 || eqb b 13)

-- a blank stands at the front
abbrev pub starts_blank : List ℕ → Bool
starts_blank [] = false
starts_blank (b ∷ t) = is_blank b

-- one or more blanks
pub record Blanks (b : List ℕ) : Type 0 where
  pub one : 1 ≤ length b
  pub each : all is_blank b ≡ true

-- the first line
unfoldable pub line_of : List ℕ → List ℕ
line_of [] = []
line_of (b ∷ t) = cond (eqb b 10) [] (b ∷ line_of t)

-- a byte more at the front of the first line
abbrev pub onto : ℕ → List (List ℕ) → List (List ℕ)
onto b [] = (b ∷ []) ∷ []
onto b (l ∷ ls) = (b ∷ l) ∷ ls

-- the lines: each ends at LF or at the end of the text
unfoldable pub lines_of : List ℕ → List (List ℕ)
lines_of [] = [] ∷ []
lines_of (b ∷ t) = cond (eqb b 10) ([] ∷ lines_of t) (onto b (lines_of t))

-- up to the comment, which `#` starts
unfoldable pub uncommented : List ℕ → List ℕ
uncommented [] = []
uncommented (b ∷ t) = cond (eqb b 35) [] (b ∷ uncommented t)

-- without the blanks at the front
unfoldable pub trim_front : List ℕ → List ℕ
trim_front [] = []
trim_front (b ∷ t) = cond (is_blank b) (trim_front t) (b ∷ t)

-- without the blanks at the end
unfoldable pub trim_end : List ℕ → List ℕ
trim_end [] = []
trim_end (b ∷ t) = cond (is_blank b && is_nil (trim_end t)) [] (b ∷ trim_end t)

-- what is left of a line: the comment and the blanks at both ends are removed
abbrev pub content : List ℕ → List ℕ
content l = trim_end (trim_front (uncommented l))

-- where in the line that stands
abbrev pub content_span : List ℕ → Span
content_span l =
    let u = uncommented l in
    let a = length u - length (trim_front u) in
    record { start = a; end = a + length (content l) }
