-- Words for the contracts of the private functions: gains that fall and rise, and which cube is next.
use Rattle.std.specs.Prelude.{ℕ, ◌+◌, ◌<◌, ◌≤◌, ◌≡◌, List, [], ◌++◌, length, get_or, take, drop, Option, Some, None}
use Rattle.extract_gains.specs.Gains.{entries, many, gain, Sound}
use Rattle.std.specs.declared.cmp.Ordering.{Ordering}
use Rattle.std.specs.declared.cmp.Ordering.TheVariants.{Less, Equal, Greater}

-- the first table became the second: some gains fell, others rose. A full table stays full, and of one nothing is said.
pub record Shifts (t g u h : List ℕ) (less more : ℕ → ℕ) : Type 0 where
  pub stays : entries ≤ many t → entries ≤ many u
  pub sound : Sound t g → many u < entries → Sound u h
  pub moves : Sound t g → many u < entries → (k : ℕ) → gain t g k + more k ≡ gain u h k + less k

-- the cubes that a node has on its way from a to b: of b those before place j, of a those from place i on
abbrev pub between : List (List ℕ) → ℕ → List (List ℕ) → ℕ → List (List ℕ)
between a i b j = take j b ++ drop i a

-- of the cubes from place i of a on and from place j of b on: one of a goes, the same one of both stays, one of b comes, or there is none
abbrev pub Turn : List (List ℕ) → ℕ → List (List ℕ) → ℕ → Option Ordering → Type 0
Turn a i b j (Some Less) = i < length a
Turn a i b j (Some Equal) = (i < length a) × (j < length b) × (get_or a i [] ≡ get_or b j [])
Turn a i b j (Some Greater) = j < length b
Turn a i b j None = (length a ≤ i) × (length b ≤ j)
