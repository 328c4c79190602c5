-- The removals of a node as numbers, and the chains of those that may leave the same.
use Rattle.std.specs.Prelude.{ℕ, zero, suc, ◌+◌, ◌-◌, ◌*◌, ◌/◌, ◌%◌, ◌<◌, ◌≤◌, List, [], ◌∷◌, ◌++◌, map, eqb, length, get_or, take}
use mathlib.Core.{Path.◌≡◌, Bool.cond, Bool.◌&&◌}
use Rattle.sets.specs.{Lists.from, Lists.total, Masks.packed}
use Rattle.sets.specs.Sets.{mem, apart, without, same}
use Rattle.cube.specs.Cube.{width}
use Rattle.extract_gains.specs.Gains.{only}
use Rattle.extract_keys.specs.Keys.{part_code, part_of, two_codes}
use Rattle.extract_partners.specs.Removal.{removals}

-- ---- removals as numbers

-- the place of the cube, and the code of the part
abbrev pub removal_of : ℕ → List ℕ → ℕ
removal_of j a = 65536 * j + part_code a

abbrev pub part_at : ℕ → List ℕ
part_at w = part_of (w % 65536)

-- what is left of the cube
unfoldable pub left_at : List (List ℕ) → ℕ → List ℕ
left_at f w = without (get_or f (w / 65536) []) (part_at w)

-- the removals of the cubes f, of which the first has place j
unfoldable pub removals_from : ℕ → List (List ℕ) → List ℕ
removals_from j [] = []
removals_from j (c ∷ f) = map (removal_of j) (removals c) ++ removals_from (suc j) f

-- two removals that leave the same and share no literal are a use of the sum of their parts
unfoldable pub use_gain : List (List ℕ) → ℕ → ℕ → ℕ → ℕ
use_gain f k v w = cond (same (left_at f v) (left_at f w) && apart (part_at v) (part_at w))
    (only (two_codes (part_code (part_at v)) (part_code (part_at w))) (length (left_at f w) + ((length (part_at v) + length (part_at w)) - 1)) k) 0

-- the sum over each two elements, the earlier one first
unfoldable pub every_two : (ℕ → ℕ → ℕ) → List ℕ → ℕ
every_two g [] = 0
every_two g (x ∷ l) = total (g x) l + every_two g l

-- the numbers ws are written from place `at` on, and r is the place after them
pub record Listed (old new : List ℕ) (at : ℕ) (ws : List ℕ) (r : ℕ) : Type 0 where
  pub next : r ≡ at + length ws
  pub long : length new ≡ length old
  pub front : take r new ≡ take at old ++ ws

-- ---- the code of what is left: nothing rests on its value but how long a search takes

unfoldable pub mixed : ℕ → ℕ → ℕ
mixed p n = (p % 4294967291 * 1000000007 + n % 4294967279 * 2000000011) / 16777216 % 4294967296

-- the mask of the literals of polarity s
unfoldable pub mask_of : ℕ → List ℕ → ℕ
mask_of s c = packed (map (λ v. mem (2 * v + s) c) (from 0 width))

unfoldable pub code_of : List ℕ → ℕ
code_of c = mixed (mask_of 0 c) (mask_of 1 c)

-- ---- the chains: the words of a table are their heads, and then a link and a code for each removal

abbrev pub first : ℕ
first = 4096

abbrev pub room : ℕ
room = 36864

abbrev pub place_of : ℕ → ℕ
place_of d = first + 2 * d

abbrev pub link_at : List ℕ → ℕ → ℕ
link_at r d = get_or r (place_of d) 0

abbrev pub code_at : List ℕ → ℕ → ℕ
code_at r d = get_or r (place_of d + 1) 0

-- the place of the newest of the first e removals in the chain of head h, 0 where it has none
unfoldable pub newest : List ℕ → ℕ → ℕ → ℕ
newest r h zero = 0
newest r h (suc e) = cond (eqb (code_at r e % first) h) (place_of e) (newest r h e)

-- each head leads to the newest of the first e removals in its chain, and each of them to the one before it
pub record Chained (r : List ℕ) (e : ℕ) : Type 0 where
  pub long : length r ≡ room
  pub heads : (h : ℕ) → h < first → get_or r h 0 ≡ newest r h e
  pub links : (d : ℕ) → d < e → link_at r d ≡ newest r (code_at r d % first) d

-- the first e removals of ws are in the chains, each by the code of what it leaves
pub record Entered (f : List (List ℕ)) (ws r : List ℕ) (e : ℕ) : Type 0 where
  pub chained : Chained r e
  pub within : e ≤ length ws
  pub codes : (d : ℕ) → d < e → code_at r d ≡ code_of (left_at f (get_or ws d 0))

-- one more
pub record Enters (r s : List ℕ) (e code : ℕ) : Type 0 where
  pub chained : Chained s (suc e)
  pub old : (d : ℕ) → d < e → code_at s d ≡ code_at r d
  pub new : code_at s e ≡ code
