-- Sets of literals as ascending lists of their numbers, of no fixed width; the cube order.
use Rattle.std.specs.Prelude.{Bool, true, false, cond, not, ◌&&◌, ◌||◌, List, [], ◌∷◌, ℕ, leb, ltb, eqb}
use Rattle.std.proofs.Math.Option.{Option, none, some}
use Rattle.sets.specs.Lists.{any, all, keep, pairwise}
use Rattle.sets.specs.Literal.{variable_of, opposite_of}

unfoldable pub mem : ℕ → List ℕ → Bool
mem l c = any (eqb l) c

-- every literal of the first is in the second
unfoldable pub sub : List ℕ → List ℕ → Bool
sub a b = all (λ l. mem l b) a

-- no literal of the first is in the second
unfoldable pub apart : List ℕ → List ℕ → Bool
apart a b = all (λ l. not (mem l b)) a

-- each number is below all that follow it
abbrev pub asc : List ℕ → Bool
asc c = pairwise ltb c

-- no variable both ways
unfoldable pub proper : List ℕ → Bool
proper c = all (λ l. not (mem (opposite_of l) c)) c

-- every literal is of a variable below v
abbrev pub reads_below : ℕ → List ℕ → Bool
reads_below v c = all (λ l. ltb (variable_of l) v) c

unfoldable pub insert : ℕ → List ℕ → List ℕ
insert l [] = l ∷ []
insert l (x ∷ c) = cond (ltb l x) (l ∷ x ∷ c) (cond (eqb l x) (x ∷ c) (x ∷ insert l c))

unfoldable pub union : List ℕ → List ℕ → List ℕ
union [] b = b
union (x ∷ a) b = insert x (union a b)

unfoldable pub without : List ℕ → List ℕ → List ℕ
without a b = keep (λ l. not (mem l b)) a

unfoldable pub meet : List ℕ → List ℕ → List ℕ
meet a b = keep (λ l. mem l b) a

unfoldable pub same : List ℕ → List ℕ → Bool
same [] [] = true
same [] (y ∷ b) = false
same (x ∷ a) [] = false
same (x ∷ a) (y ∷ b) = eqb x y && same a b

-- the first element that is not below l
unfoldable pub first_from : ℕ → List ℕ → Option ℕ
first_from l [] = none
first_from l (x ∷ c) = cond (leb l x) (some x) (first_from l c)

module _ {K : Type 0} where
  -- x comes before y, or neither comes before the other and b
  abbrev pub lex : (K → K → Bool) → K → K → Bool → Bool
  lex r x y b = r x y || (not (r y x) && b)

-- cube order: the first difference decides, a prefix comes first
unfoldable pub before : List ℕ → List ℕ → Bool
before a [] = false
before [] (y ∷ b) = true
before (x ∷ a) (y ∷ b) = lex ltb x y (before a b)
