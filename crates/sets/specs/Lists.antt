-- Tests and folds over lists, of which the other definitions are made.
use Rattle.std.specs.Prelude.{Bool, true, false, cond, ◌&&◌, ◌||◌, List, [], ◌∷◌, ℕ, zero, suc, ◌+◌}
use Rattle.std.proofs.Math.Option.{Option, none, some}

module _ {A : Type 0} where
  -- some element passes the test
  abbrev pub any : (A → Bool) → List A → Bool
  any f [] = false
  any f (x ∷ l) = f x || any f l

  -- every element passes the test
  abbrev pub all : (A → Bool) → List A → Bool
  all f [] = true
  all f (x ∷ l) = f x && all f l

  -- the elements that pass the test, in their order
  abbrev pub keep : (A → Bool) → List A → List A
  keep f [] = []
  keep f (x ∷ l) = cond (f x) (x ∷ keep f l) (keep f l)

  -- the sum of what f gives for each element
  abbrev pub total : (A → ℕ) → List A → ℕ
  total f [] = 0
  total f (x ∷ l) = f x + total f l

  -- r holds between each element and every later one
  abbrev pub pairwise : (A → A → Bool) → List A → Bool
  pairwise r [] = true
  pairwise r (x ∷ l) = all (r x) l && pairwise r l

  abbrev pub is_nil : List A → Bool
  is_nil [] = true
  is_nil (x ∷ l) = false

-- k, k + 1, ..: m numbers
unfoldable pub from : ℕ → ℕ → List ℕ
from k zero = []
from k (suc m) = k ∷ from (suc k) m

abbrev pub is_some : Option ℕ → Bool
is_some none = false
is_some (some x) = true

-- the same answer, k further on
abbrev pub further : ℕ → Option ℕ → Option ℕ
further k none = none
further k (some x) = some (k + x)

-- the first answer, or else the second
abbrev pub or_else : Option ℕ → Option ℕ → Option ℕ
or_else none o = o
or_else (some x) o = some x
