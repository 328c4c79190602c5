-- The factored form of an expression.
use Rattle.std.specs.Prelude.{ℕ, zero, suc, ◌*◌, ◌-◌, Bool, cond, not, ◌&&◌, ◌||◌, List, [], ◌∷◌, ◌++◌, map, ltb, length}
use Rattle.sets.specs.Lists.{any, all, keep, is_nil}
use Rattle.sets.specs.Sets.{mem, insert, without}
use Rattle.cube.specs.Cube.{width}
use Rattle.expression.specs.Expression.{literals_of, sort}

-- in how many cubes a literal is
abbrev pub used_in : ℕ → List (List ℕ) → ℕ
used_in l f = length (keep (mem l) f)

-- the literal in most cubes among b and the k literals from l on, the smallest on a tie
unfoldable pub most : ℕ → List (List ℕ) → ℕ → ℕ → ℕ
most zero f l b = b
most (suc k) f l b = most k f (suc l) (cond (ltb (used_in b f) (used_in l f)) l b)

abbrev pub most_used : List (List ℕ) → ℕ
most_used f = most (2 * width - 1) f 1 0

-- F/l: the cubes with l, without it; and the cubes that have it not
abbrev pub divided_by : ℕ → List (List ℕ) → List (List ℕ)
divided_by l f = map (λ c. without c (l ∷ [])) (keep (mem l) f)

abbrev pub rest : ℕ → List (List ℕ) → List (List ℕ)
rest l f = keep (λ c. not (mem l c)) f

pub data Form : Type 0 where
  -- the cubes as they stand
  sum : List (List ℕ) → Form
  -- l times the form of F/l, and nothing else
  times : ℕ → Form → Form
  -- l times the form of F/l, and the form of the rest
  plus : ℕ → Form → Form → Form

-- the form, where k is at least the number of literals
unfoldable pub form_by : ℕ → List (List ℕ) → Form
form_by zero f = sum f
form_by (suc k) f =
    let l = most_used f in
    let lone = times l (form_by k (divided_by l f)) in
    let joint = plus l (form_by k (divided_by l f)) (form_by k (rest l f)) in
    cond (ltb (used_in l f) 2) (sum f) (cond (is_nil (rest l f)) lone joint)

-- the cubes are taken in cube order
abbrev pub form_of : List (List ℕ) → Form
form_of f = form_by (literals_of f) (sort f)

-- the cubes that multiplying out gives
unfoldable pub expanded : Form → List (List ℕ)
expanded (sum f) = f
expanded (times l q) = map (insert l) (expanded q)
expanded (plus l q r) = map (insert l) (expanded q) ++ expanded r

-- the value of a form, where v is the value of each literal
unfoldable pub form_value : (ℕ → Bool) → Form → Bool
form_value v (sum f) = any (all v) f
form_value v (times l q) = v l && form_value v q
form_value v (plus l q r) = (v l && form_value v q) || form_value v r
