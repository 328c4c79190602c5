-- What the lines of a block hold: names, and rows of signs.
use Rattle.std.specs.Prelude.{ℕ, Option, Some, None, zero, suc, ◌+◌, ◌<◌, ◌≤◌, max, ◌≡◌, Bool, true, cond, ◌&&◌, eqb, leb, ltb, length}
use mathlib.Core.List.{List, [], ◌∷◌, ◌++◌, map, Memᴰ}
use Rattle.sets.specs.{Lists.all, Sets.asc, Word.largest}
use Rattle.letters.specs.Letters.{name_text}
use Rattle.letters_products.specs.Spelled.{spelled}
use Rattle.table_rows.specs.Lines.{is_place}
use Rattle.network.specs.Handed.{flat}
use Rattle.blif_laws.specs.Text.{Name, variable, output, name_word, spaced, ended}
use Rattle.blif_laws.specs.Reading.{Named, pointed}
use Rattle.blif_scan.specs.Scanning.{left, Forth, label_of, Small}
use Rattle.blif_lines.specs.{Marking.Raised, declared.Names.Names, declared.Rows.Rows}
use Rattle.blif_scan.specs.declared.{Ended.Ended, Label.Label}
use Rattle.blif_lines.specs.declared.Turn.{Turn}

-- ---- names

-- the words of the names: those that are read, then the one that is defined
abbrev pub words_of : Named → List (List ℕ)
words_of d = map (name_text 120) d.reads ++ (name_word d.name ∷ [])

-- the variable that a name is, if it is one
abbrev pub variable_in : Name → List ℕ
variable_in (variable v) = v ∷ []
variable_in (output j) = []

-- the variables of the line
abbrev pub numbers_in : Named → List ℕ
numbers_in d = d.reads ++ variable_in d.name

-- one more than the largest number; 0 where there is none
abbrev pub top_of : List ℕ → ℕ
top_of [] = 0
top_of (v ∷ l) = max (suc v) (top_of l)

-- names ascend, and a machine word holds each number, and one more than each variable
pub record Ascends (d : Named) : Type 0 where
  pub order : asc (numbers_in d) ≡ true
  pub small : (v : ℕ) → Memᴰ v (numbers_in d) → v < largest
  pub last : Small d.name

-- the names of the line, and the place after its LF
pub record NamesGot (s : List ℕ) (at base : ℕ) (old new : List ℕ) (r : Names) : Type 0 where
  pub named : Named
  pub ascends : Ascends named
  pub text : left s at ≡ spaced (words_of named) ++ (10 ∷ left s r.next)
  pub forth : Forth s at r.next
  pub name : label_of r.name ≡ named.name
  pub reads : r.reads ≡ length named.reads
  pub top : r.top ≡ top_of (numbers_in named)
  pub marks : Raised base (numbers_in named) old new

-- the line is none of ascending names
pub record NamesNot (s : List ℕ) (at : ℕ) (old new : List ℕ) : Type 0 where
  pub size : length new ≡ length old
  pub none : (d : Named) (r : List ℕ) → Ascends d → left s at ≡ spaced (words_of d) ++ (10 ∷ r) → ⊥

abbrev pub NamesIs : List ℕ → ℕ → ℕ → List ℕ → List ℕ → Option Names → Type 0
NamesIs s at base old new (Some r) = NamesGot s at base old new r
NamesIs s at base old new None = NamesNot s at old new

-- a variable that may be the next: from `least` on, and a machine word holds one more than it
abbrev pub is_next : ℕ → ℕ → Bool
is_next least v = leb least v && ltb v largest

-- what a name is that a space ends, and one that an LF ends
abbrev pub turn_of : ℕ → Label → Ended → Option Turn
turn_of least (Label.Variable v) (Ended.Space p) = cond (is_next least v) (Some (Turn.Read v p)) None
turn_of least (Label.Variable v) (Ended.Line p) = cond (is_next least v) (Some (Turn.Last (Label.Variable v) p)) None
turn_of least (Label.Variable v) Ended.Finish = None
turn_of least (Label.Output j) (Ended.Space p) = None
turn_of least (Label.Output j) (Ended.Line p) = Some (Turn.Last (Label.Output j) p)
turn_of least (Label.Output j) Ended.Finish = None

-- a name that may come next: a variable from `least` on, one more than which a machine word holds, or any output
abbrev pub Follows : ℕ → Name → Type 0
Follows least a = (v : ℕ) → a ≡ variable v → (least ≤ v) × (v < largest)

-- a name and the byte that ends it
pub record Comes (s : List ℕ) (at least : ℕ) (a : Name) (b p : ℕ) : Type 0 where
  pub text : left s at ≡ name_word a ++ (b ∷ left s p)
  pub forth : Forth s at p
  pub follows : Follows least a

-- ascending names with an LF after them, each variable from `least` on
pub record LineFrom (least : ℕ) (t : List ℕ) (d : Named) (r : List ℕ) : Type 0 where
  pub ascends : Ascends d
  pub from : (v : ℕ) → Memᴰ v (numbers_in d) → least ≤ v
  pub text : t ≡ spaced (words_of d) ++ (10 ∷ r)

abbrev pub TurnIs : List ℕ → ℕ → ℕ → Option Turn → Type 0
TurnIs s at least (Some (Turn.Read v p)) = Comes s at least (variable v) 32 p
TurnIs s at least (Some (Turn.Last a p)) = Comes s at least (label_of a) 10 p
TurnIs s at least None = (d : Named) (r : List ℕ) → LineFrom least (left s at) d r → ⊥

-- one more than the largest variable, where those before are below `least`
abbrev pub top_after : ℕ → Name → ℕ
top_after least (variable v) = v + 1
top_after least (output j) = least

-- the name that is defined is marked
pub record LastMarked (base least : ℕ) (a : Name) (old new : List ℕ) (r : ℕ) : Type 0 where
  pub small : Small a
  pub top : r ≡ top_after least a
  pub marks : Raised base (variable_in a) old new

-- ---- rows

-- r signs, each one of `0 1 -`
pub record Signs (r : ℕ) (w : List ℕ) : Type 0 where
  pub number : length w ≡ r
  pub each : all is_place w ≡ true

-- the line of signs, a space and `1`; of no sign, `1` alone
unfoldable pub row_line : List ℕ → List ℕ
row_line [] = spelled "1"
row_line (b ∷ w) = (b ∷ w) ++ spelled " 1"

-- the places of `0` and `1` among signs, from i on
unfoldable pub signed : ℕ → List ℕ → List ℕ
signed i [] = []
signed i (b ∷ w) = cond (eqb b 45) (signed (suc i) w) (i ∷ signed (suc i) w)

-- what ends a row of r signs, before its LF
unfoldable pub row_end : ℕ → List ℕ
row_end zero = spelled "1"
row_end (suc r) = spelled " 1"

-- the next byte is a sign; or none stands here
abbrev pub SignIs : List ℕ → ℕ → Option (ℕ × ℕ) → Type 0
SignIs s at (Some (b, p)) = (left s at ≡ b ∷ left s p) × Forth s at p × (is_place b ≡ true)
SignIs s at None = (b : ℕ) (t : List ℕ) → is_place b ≡ true → left s at ≡ b ∷ t → ⊥

-- a place that is no earlier, and in the text where the other is
pub record Onward (s : List ℕ) (at p : ℕ) : Type 0 where
  pub on : at ≤ p
  pub within : (at ≤ length s → p ≤ length s)

pub record SignsGot (s : List ℕ) (at r base : ℕ) (old new : List ℕ) (p : ℕ) : Type 0 where
  pub word : List ℕ
  pub signs : Signs r word
  pub text : left s at ≡ word ++ left s p
  pub onward : Onward s at p
  pub marks : Raised base (signed 0 word) old new

pub record SignsNot (s : List ℕ) (at r : ℕ) (old new : List ℕ) : Type 0 where
  pub size : length new ≡ length old
  pub none : (w t : List ℕ) → Signs r w → left s at ≡ w ++ t → ⊥

abbrev pub SignsIs : List ℕ → ℕ → ℕ → ℕ → List ℕ → List ℕ → Option ℕ → Type 0
SignsIs s at r base old new (Some p) = SignsGot s at r base old new p
SignsIs s at r base old new None = SignsNot s at r old new

-- a space after signs, nothing where there are none
abbrev pub space_after : ℕ → List ℕ
space_after zero = []
space_after (suc r) = 32 ∷ []

abbrev pub SpaceIs : List ℕ → ℕ → ℕ → Option ℕ → Type 0
SpaceIs s at r (Some p) = (left s at ≡ space_after r ++ left s p) × Onward s at p
SpaceIs s at r None = (t : List ℕ) → left s at ≡ space_after r ++ t → ⊥

abbrev pub EndIs : List ℕ → ℕ → ℕ → Option ℕ → Type 0
EndIs s at r (Some p) = (left s at ≡ row_end r ++ (10 ∷ left s p)) × Forth s at p
EndIs s at r None = (t : List ℕ) → left s at ≡ row_end r ++ (10 ∷ t) → ⊥

pub record RowGot (s : List ℕ) (at r base : ℕ) (old new : List ℕ) (p : ℕ) : Type 0 where
  pub word : List ℕ
  pub signs : Signs r word
  pub text : left s at ≡ row_line word ++ (10 ∷ left s p)
  pub forth : Forth s at p
  pub marks : Raised base (signed 0 word) old new

pub record RowNot (s : List ℕ) (at r : ℕ) (old new : List ℕ) : Type 0 where
  pub size : length new ≡ length old
  pub none : (w t : List ℕ) → Signs r w → left s at ≡ row_line w ++ (10 ∷ t) → ⊥

abbrev pub RowIs : List ℕ → ℕ → ℕ → ℕ → List ℕ → List ℕ → Option ℕ → Type 0
RowIs s at r base old new (Some p) = RowGot s at r base old new p
RowIs s at r base old new None = RowNot s at r old new

-- rows of r signs, and then what begins with a point
pub record RowsOf (t : List ℕ) (r : ℕ) (ws : List (List ℕ)) (more : List ℕ) : Type 0 where
  pub each : (w : List ℕ) → Memᴰ w ws → Signs r w
  pub text : t ≡ ended (map row_line ws) ++ more
  pub point : pointed more ≡ true

-- the places of `0` and `1` in all rows
abbrev pub signed_in : List (List ℕ) → List ℕ
signed_in ws = flat (map (signed 0) ws)

pub record RowsGot (s : List ℕ) (at r base : ℕ) (old new : List ℕ) (a : Rows) : Type 0 where
  pub words : List (List ℕ)
  pub rows : RowsOf (left s at) r words (left s a.next)
  pub count : a.count ≡ length words
  pub after : at ≤ a.next
  pub within : (at ≤ length s → a.next ≤ length s)
  pub marks : Raised base (signed_in words) old new

pub record RowsNot (s : List ℕ) (at r : ℕ) (old new : List ℕ) : Type 0 where
  pub size : length new ≡ length old
  pub none : (ws : List (List ℕ)) (t : List ℕ) → RowsOf (left s at) r ws t → ⊥

abbrev pub RowsIs : List ℕ → ℕ → ℕ → ℕ → List ℕ → List ℕ → Option Rows → Type 0
RowsIs s at r base old new (Some a) = RowsGot s at r base old new a
RowsIs s at r base old new None = RowsNot s at r old new
