-- What a search for a key answers, and another gain in an entry.
use Rattle.std.specs.Prelude.{ℕ, ◌<◌, ◌≤◌, get_or, slice_set, Option, Some, None}
use mathlib.Core.{Path.◌≡◌, List.List}
use Rattle.extract_gains.specs.Gains.{entries, first, many, link_at, key_at, head_of, newest}

-- the part of a sound table that a search goes by
pub record Chained (t : List ℕ) : Type 0 where
  pub few : many t ≤ entries
  pub heads : (h : ℕ) → 1 ≤ h → h < first → get_or t h 0 ≡ newest t h (many t)
  pub links : (e : ℕ) → e < many t → link_at t e ≡ newest t (head_of (key_at t e)) e

-- no entry has the key
abbrev pub Missing : List ℕ → ℕ → Type 0
Missing t k = (e : ℕ) → e < many t → key_at t e ≡ k → ⊥

-- the answer is an entry, which in a chained table has the key, or there is none
abbrev pub Finds : List ℕ → ℕ → Option ℕ → Type 0
Finds t k (Some e) = (e < entries) × (Chained t → (e < many t) × (key_at t e ≡ k))
Finds t k None = Chained t → Missing t k

-- entry e holds another gain, or the table is full
abbrev pub Changes : List ℕ → List ℕ → List ℕ → List ℕ → ℕ → Option ℕ → Type 0
Changes t g u h e (Some x) = (u ≡ t) × (h ≡ slice_set g e x)
Changes t g u h e None = many u ≡ entries
