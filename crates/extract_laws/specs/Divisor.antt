-- Divisors: a pair of literals, or a sum of two parts; their uses in an expression, and what replaces them.
use Rattle.std.specs.Prelude.{Bool, not, ◌&&◌, ◌||◌, List, [], ◌∷◌, ◌++◌, map, ℕ, ltb, length}
use Rattle.sets.specs.Lists.{keep}
use Rattle.sets.specs.Sets.{sub, apart, asc, insert, union, without, before}
use Rattle.expression.specs.Expression.{has, sort}

pub data Divisor : Type 0 where
  pair : ℕ → ℕ → Divisor
  sum : List ℕ → List ℕ → Divisor

-- the cubes of the divisor's own node
abbrev pub own : Divisor → List (List ℕ)
own (pair p q) = (p ∷ q ∷ []) ∷ []
own (sum a b) = a ∷ b ∷ []

-- one or two literals
unfoldable pub small : List ℕ → Bool
small a = ltb 0 (length a) && ltb (length a) 3

-- a pair ascends; the parts of a sum have one or two literals each, share none, and stand in cube order
abbrev pub sound : Divisor → Bool
sound (pair p q) = ltb p q
sound (sum a b) = asc a && (asc b && (apart a b && (small a && (small b && before a b))))

-- c is base ∪ a, of a base that shares no literal with a or b, and base ∪ b is in f too
unfoldable pub use_of : List ℕ → List ℕ → List (List ℕ) → List ℕ → Bool
use_of a b f c = sub a c && (apart (without c a) b && has (union (without c a) b) f)

-- the part that a use is named by: base ∪ part is in the expression
abbrev pub part : Divisor → List ℕ
part (pair p q) = p ∷ q ∷ []
part (sum a b) = a

abbrev pub hit : Divisor → List (List ℕ) → List ℕ → Bool
hit (pair p q) f c = sub (p ∷ q ∷ []) c
hit (sum a b) f c = use_of a b f c

-- the cubes that the uses take away
abbrev pub gone : Divisor → List (List ℕ) → List ℕ → Bool
gone (pair p q) f c = sub (p ∷ q ∷ []) c
gone (sum a b) f c = use_of a b f c || use_of b a f c

-- the uses in an expression, each by its cube base ∪ part
abbrev pub found : Divisor → List (List ℕ) → List (List ℕ)
found d f = keep (hit d f) f

abbrev pub bases : Divisor → List (List ℕ) → List (List ℕ)
bases d f = map (λ c. without c (part d)) (found d f)

abbrev pub uses : Divisor → List (List ℕ) → ℕ
uses d f = length (found d f)

-- the part replaced by the literal x
unfoldable pub swap : ℕ → List ℕ → List ℕ → List ℕ
swap x a c = insert x (without c a)

-- in every use the divisor is replaced by the literal x
unfoldable pub rewrite : ℕ → Divisor → List (List ℕ) → List (List ℕ)
rewrite x d f = sort (map (swap x (part d)) (found d f) ++ keep (λ c. not (gone d f c)) f)
