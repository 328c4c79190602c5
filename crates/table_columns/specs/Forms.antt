-- The forms of good lines, and how far a line goes with one.
use Rattle.std.specs.Prelude.{ℕ, zero, suc, ◌+◌, max, Bool, cond, List, [], ◌∷◌, leb, eqb, length, drop}
use Rattle.std.proofs.Math.Option.{Option, none, some}
use Rattle.letters.specs.Meaning.{is_digit}
use Rattle.table_lines.specs.Text.{is_blank}
use Rattle.table_kinds.specs.Kinds.{most_digits}
use Rattle.table_rows.specs.Lines.{is_place, is_mark}

-- a part of a line: bytes that pass a test, so many at least, and at most, where there is a most
pub record Part : Type 0 where
  pub test : ℕ → Bool
  pub least : ℕ
  pub most : Option ℕ

abbrev pub exactly : ℕ → (ℕ → Bool) → Part
exactly n f = record { test = f; least = n; most = some n }

abbrev pub between : ℕ → ℕ → (ℕ → Bool) → Part
between n k f = record { test = f; least = n; most = some k }

abbrev pub or_more : ℕ → (ℕ → Bool) → Part
or_more n f = record { test = f; least = n; most = none }

-- the bytes at the front that pass a test, counted up to k
unfoldable pub front : (ℕ → Bool) → ℕ → List ℕ → ℕ
front f zero t = 0
front f (suc k) [] = 0
front f (suc k) (b ∷ t) = cond (f b) (suc (front f k t)) 0

-- the most, or else the bytes that there are
abbrev pub limit : Option ℕ → ℕ → ℕ
limit none n = n
limit (some k) n = k

-- how far t goes with these parts: each takes what it can, and the next goes on where it has enough
unfoldable pub reach : List Part → List ℕ → ℕ
reach [] t = 0
reach (p ∷ ps) t = let k = front p.test (limit p.most (length t)) t in cond (leb p.least k) (k + reach ps (drop k t)) k

-- ---- the forms: what is left of a line of a kind, and blanks, or none, after it

abbrev pub blanks : Part
blanks = or_more 0 is_blank

abbrev pub dotted : ℕ → List Part → List Part
dotted x ps = exactly 1 (eqb 46) ∷ exactly 1 (eqb x) ∷ ps

-- nothing
abbrev pub empty_form : List Part
empty_form = blanks ∷ []

-- `.i N`, `.o N` or `.p N`, by its letter
abbrev pub number_form : ℕ → List Part
number_form x = dotted x (or_more 1 is_blank ∷ between 1 most_digits is_digit ∷ blanks ∷ [])

-- `.e`
abbrev pub eForm : List Part
eForm = dotted 101 (blanks ∷ [])

-- `.end`
abbrev pub end_form : List Part
end_form = dotted 101 (exactly 1 (eqb 110) ∷ exactly 1 (eqb 100) ∷ blanks ∷ [])

-- n of `0 1 -`, one or more blanks, m of `0 1`
abbrev pub cube_form : ℕ → ℕ → List Part
cube_form n m = exactly n is_place ∷ or_more 1 is_blank ∷ exactly m is_mark ∷ blanks ∷ []

-- a cube line has a form only where inputs and outputs are known
abbrev pub cube_forms : Option ℕ → Option ℕ → List (List Part)
cube_forms none m = []
cube_forms (some n) none = []
cube_forms (some n) (some m) = cube_form n m ∷ []

abbrev pub forms : Option ℕ → Option ℕ → List (List Part)
forms w t = empty_form ∷ number_form 105 ∷ number_form 111 ∷ number_form 112 ∷ eForm ∷ end_form ∷ cube_forms w t

-- how many bytes of c some good line could begin with
unfoldable pub farthest : List (List Part) → List ℕ → ℕ
farthest [] c = 0
farthest (f ∷ fs) c = max (reach f c) (farthest fs c)
