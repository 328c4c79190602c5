-- What the parts of a division promise each other.
use Rattle.std.specs.Prelude.{ℕ, ◌≤◌, Bool, true, false, cond, not, ◌&&◌, ◌||◌, ltb, length, get_or}
use mathlib.Core.{Path.◌≡◌, List.List, List.[]}
use Rattle.std.proofs.Math.Option.{Option, none, some}
use Rattle.sets.specs.Lists.{all, keep, is_nil, or_else}
use Rattle.sets.specs.Sets.{sub, without}
use Rattle.expression.specs.{Words.cubes_of, Words.Written, Expression.has, Expression.ordered, Answers.refusal}
use Rattle.division.specs.{Division.in_quotient, Division.left_over, Answers.either, declared.Division.Division}
use Rattle.division.specs.declared.Division.TheVariants.{Done, Refused}

-- 8 for a divisor with no cubes
unfoldable pub no_cubes : List ℕ → Option ℕ
no_cubes d = cond (is_nil (cubes_of d)) (some 8) none

-- what is refused whatever the rooms are: 6, 7, then 8
unfoldable pub admitted : List ℕ → List ℕ → Option ℕ
admitted f d = or_else (either (refusal f) (refusal d)) (no_cubes d)

-- the cubes f stand in cube order, and there is room for as many
pub record OrderedRoom (f to : List ℕ) : Type 0 where
  pub order : ordered (cubes_of f) ≡ true
  pub room : length (cubes_of f) ≤ length (cubes_of to)

-- the quotient before it is sorted: what is left of the cubes of f without the first cube of d, where it is in the quotient
abbrev pub unsorted_quotient : List (List ℕ) → List (List ℕ) → List (List ℕ)
unsorted_quotient f d = keep (in_quotient f d) (left_over f (get_or d 0 []))

-- no cube of d is in e with what is left of e in q
unfoldable pub spared : List (List ℕ) → List (List ℕ) → List ℕ → Bool
spared q d e = all (λ b. not (sub b e && has (without e b) q)) d

-- the cubes of f that are spared, in their order
abbrev pub spared_of : List ℕ → List ℕ → List ℕ → List (List ℕ)
spared_of q d f = keep (spared (cubes_of q) (cubes_of d)) (cubes_of f)

-- a room has fewer places than there are cubes for it
unfoldable pub cramped : List (List ℕ) → List (List ℕ) → List ℕ → List ℕ → Bool
cramped f g q r = ltb (length (cubes_of q)) (length f) || ltb (length (cubes_of r)) (length g)

-- 9, or the cubes f and g in their rooms
abbrev pub Handed : Bool → List (List ℕ) → List (List ℕ) → List ℕ → List ℕ → List ℕ → List ℕ → Division → Type 0
Handed true f g q r q' r' t = (t ≡ Refused 9) × (q' ≡ q) × (r' ≡ r)
Handed false f g q r q' r' t = (t ≡ Done (length f) (length g)) × Written q q' f × Written r r' g

-- the cubes of a and of b, each in its room
abbrev pub HandedOver : List ℕ → List ℕ → List ℕ → List ℕ → List ℕ → List ℕ → Division → Type 0
HandedOver a b q r q' r' t = Handed (cramped (cubes_of a) (cubes_of b) q r) (cubes_of a) (cubes_of b) q r q' r' t
