-- Cubes of known literals, all of them or those of value 1, and what is tested by them.
use Rattle.std.specs.Prelude.{ℕ, ◌/◌, Bool, cond, ◌&&◌, ◌||◌, ltb}
use mathlib.Core.{Path.◌≡◌, List.List}
use Rattle.sets.specs.{Lists.any, Lists.all, Sets.mem, Sets.sub, Literal.plain_of, Literal.negated_of}
use Rattle.expression.specs.Value.{lit}

-- every cube has only literals of k
abbrev pub every_within : List ℕ → List (List ℕ) → Bool
every_within k f = all (λ c. sub c k) f

-- some cube has only literals of k
abbrev pub some_within : List ℕ → List (List ℕ) → Bool
some_within k f = any (λ c. sub c k) f

-- every cube, or else some cube, has only literals of k
abbrev pub within : Bool → List ℕ → List (List ℕ) → Bool
within every k f = cond every (every_within k f) (some_within k f)

-- the literal of v that has value 1 where v has the value b
abbrev pub signed : ℕ → Bool → ℕ
signed v b = cond b (plain_of v) (negated_of v)

-- the variable v is one of n inputs or listed
abbrev pub known : ℕ → List ℕ → ℕ → Bool
known n listed v = ltb v n || mem v listed

-- k has both literals of each known variable, and no others
pub record BothWays (n : ℕ) (listed k : List ℕ) : Type 0 where
  pub each : (l : ℕ) → mem l k ≡ known n listed (l / 2)

-- t has the literals of known variables that have value 1 under a, and no others
pub record Truths (n : ℕ) (listed : List ℕ) (a : ℕ → Bool) (t : List ℕ) : Type 0 where
  pub each : (l : ℕ) → mem l t ≡ (known n listed (l / 2) && lit a l)
