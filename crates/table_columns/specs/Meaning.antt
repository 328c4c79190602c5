-- Good lines and columns in the paper's words.
use Rattle.std.specs.Prelude.{ℕ, ◌+◌, ◌<◌, Bool, true, false, List, ◌∷◌, ◌++◌, length, take, get_or}
use mathlib.Core.{Path.◌≡◌, Option.Option, Option.some}
use Rattle.sets.specs.Lists.{any, keep}
use Rattle.table_lines.specs.Text.{content, content_span}
use Rattle.table_kinds.specs.{Meaning.Spelled, declared.Kind.Kind}
use Rattle.table_rows.specs.{Lines.CubeLine, Lines.cube_line_of, Meaning.Writes}

-- c is of a kind: empty, `.i N`, `.o N`, `.p N`, `.e` or `.end`; or a cube line of as many inputs and outputs as are known
pub data Kinded (w t : Option ℕ) (c : List ℕ) : Type 0 where
  spelled : (k : Kind) → Spelled c k → Kinded w t c
  cube : (n m : ℕ) (l : CubeLine) → w ≡ some n → t ≡ some m → Writes n m c l → Kinded w t c

-- a good line: what is left of it is of a kind (of LF it says nothing: no line has one, and cut before it a good line is good)
abbrev pub Good : Option ℕ → Option ℕ → List ℕ → Type 0
Good w t l = Kinded w t (content l)

-- some good line begins with a
pub record Begins (w t : Option ℕ) (a : List ℕ) : Type 0 where
  pub rest : List ℕ
  pub good : Good w t (a ++ rest)

-- the byte at place p of l is the first that no good line could hold there: before it some good line agrees, and every good line that
-- agrees before it differs at it
pub record First (w t : Option ℕ) (l : List ℕ) (p : ℕ) : Type 0 where
  pub inside : p < length l
  pub agrees : Begins w t (take p l)
  pub differs : (b : ℕ) (z : List ℕ) → Good w t (take p l ++ (b ∷ z)) → b ≡ get_or l p 0 → ⊥

-- the column of a line, where it is of no kind
pub data Fault (w t : Option ℕ) (l : List ℕ) : ℕ → Type 0 where
  -- what is left of it is the beginning of a good line: its length plus 1, counted before comment and blanks come off
  soon : Begins w t (content l) → Fault w t l (length l + 1)
  byte : (p : ℕ) → (Begins w t (content l) → ⊥) → First w t l p → Fault w t l (p + 1)

-- the byte at place p is the first of l that passes the test
pub record FirstOf (f : ℕ → Bool) (l : List ℕ) (p : ℕ) : Type 0 where
  pub inside : p < length l
  pub there : f (get_or l p 0) ≡ true
  pub before : any f (take p l) ≡ false

-- at place p stands the output character that makes a row more than k: what is left of l is a cube line, whose m marks are its last
-- characters; this one is a `1`, and k stand before it
pub record RowMore (n m k : ℕ) (l : List ℕ) (p : ℕ) : Type 0 where
  pub line : CubeLine
  pub writes : cube_line_of n m (content l) ≡ some line
  pub mark : ℕ
  pub one : get_or line.marks mark false ≡ true
  pub rows : length (keep (λ b. b) (take mark line.marks)) ≡ k
  pub place : p + m ≡ (content_span l).end + mark
