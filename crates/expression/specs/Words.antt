-- The cubes that lent words hold, two words for each: plain mask, negated mask.
use Rattle.std.specs.Prelude.{ℕ, ◌+◌, ◌-◌, ◌*◌, ◌^◌, ◌≤◌, min, List, [], ◌∷◌, ◌++◌, ltb, length, take, drop, set, replicate}
use mathlib.Core.{Path.◌≡◌, Bool.Bool}
use Rattle.sets.specs.{Lists.all, Masks.literals}
use Rattle.cube.specs.Cube.{width}

-- how many words hold a cube
abbrev pub cube_words : ℕ
cube_words = 2

unfoldable pub cubes_of : List ℕ → List (List ℕ)
cubes_of [] = []
cubes_of (p ∷ []) = []
cubes_of (p ∷ n ∷ ws) = literals width p n ∷ cubes_of ws

-- the word that is left over where their number is odd
unfoldable pub spare_of : List ℕ → List ℕ
spare_of [] = []
spare_of (p ∷ []) = p ∷ []
spare_of (p ∷ n ∷ ws) = spare_of ws

-- each word is one of as many bits as a mask
abbrev pub fit : List ℕ → Bool
fit ws = all (λ w. ltb w (2 ^ width)) ws

-- the words of the cubes from a up to e, both held to what there is
pub record Spans (ws : List ℕ) (a e from to : ℕ) : Type 0 where
  pub start : from ≡ cube_words * min a (min e (length (cubes_of ws)))
  pub stop : to ≡ cube_words * min e (length (cubes_of ws))
  pub forth : from ≤ to
  pub within : to ≤ length ws

-- ---- cubes put into words

-- the new words are the old ones but for the cube c at place i, if there is such a place
pub record Put (old new : List ℕ) (i : ℕ) (c : List ℕ) : Type 0 where
  pub cubes : cubes_of new ≡ set (cubes_of old) i c
  pub spare : spare_of new ≡ spare_of old

-- the new words are the old ones but for the cubes f from place a on
pub record Placed (old new : List ℕ) (a : ℕ) (f : List (List ℕ)) : Type 0 where
  pub cubes : cubes_of new ≡ take a (cubes_of old) ++ (f ++ drop (length f) (drop a (cubes_of old)))
  pub spare : spare_of new ≡ spare_of old

-- the same from the front on
abbrev pub Written : List ℕ → List ℕ → List (List ℕ) → Type 0
Written old new f = Placed old new 0 f

-- the cubes f stand from place a on, and r is the place after them
pub record Appends (old new : List ℕ) (a : ℕ) (f : List (List ℕ)) (r : ℕ) : Type 0 where
  pub next : r ≡ a + length f
  pub placed : Placed old new a f

-- as many of the cubes f as there are places for from a on
abbrev pub fitting : List ℕ → ℕ → List (List ℕ) → List (List ℕ)
fitting ws a f = take (length (cubes_of ws) - a) f

-- an empty cube for each place from a up to e that there is
abbrev pub blanks : List ℕ → ℕ → ℕ → List (List ℕ)
blanks ws a e = replicate (min e (length (cubes_of ws)) - a) []

-- of n places the first hold the cubes f, and the others the empty cube
pub record Front (ws : List ℕ) (n : ℕ) (f : List (List ℕ)) : Type 0 where
  pub few : length f ≤ n
  pub cubes : cubes_of ws ≡ f ++ replicate (n - length f) []
