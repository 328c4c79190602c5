-- A table of gains by key. Its words are the number of entries, the heads of the chains, and a link and a key for each entry; the gains
-- of the entries stand beside it.
use Rattle.std.specs.Prelude.{ℕ, zero, suc, ◌+◌, ◌*◌, ◌/◌, ◌%◌, ◌<◌, ◌≤◌, eqb, length, get_or}
use mathlib.Core.{Path.◌≡◌, Bool.cond, List.List, List.Memᴰ}

abbrev pub heads : ℕ
heads = 65536

-- a table of so many entries is full, and says nothing
abbrev pub entries : ℕ
entries = 600000

-- the place of the first entry
abbrev pub first : ℕ
first = 65537

abbrev pub slots : ℕ
slots = 1265537

-- the most that an entry holds
abbrev pub most_gain : ℕ
most_gain = 65535

-- the number of entries
abbrev pub many : List ℕ → ℕ
many t = get_or t 0 0

-- the place of entry e, which has its link, and then its key
abbrev pub place_of : ℕ → ℕ
place_of e = first + 2 * e

abbrev pub link_at : List ℕ → ℕ → ℕ
link_at t e = get_or t (place_of e) 0

abbrev pub key_at : List ℕ → ℕ → ℕ
key_at t e = get_or t (place_of e + 1) 0

-- the place of the head of a key's chain: nothing rests on its value but how long a search takes
unfoldable pub head_of : ℕ → ℕ
head_of k = 1 + k * 2654435761 / 16384 % heads

-- the place of the newest of the first e entries in the chain of head h, 0 where it has none
unfoldable pub newest : List ℕ → ℕ → ℕ → ℕ
newest t h zero = 0
newest t h (suc e) = cond (eqb (head_of (key_at t e)) h) (place_of e) (newest t h e)

-- what the first e entries hold for a key
unfoldable pub holds : List ℕ → List ℕ → ℕ → ℕ → ℕ
holds t g k zero = 0
holds t g k (suc e) = cond (eqb (key_at t e) k) (get_or g e 0) 0 + holds t g k e

-- the gain of a key
unfoldable pub gain : List ℕ → List ℕ → ℕ → ℕ
gain t g k = holds t g k (many t)

-- each head leads to the newest entry of its chain, each entry to the one before it, and a key has one entry at most
pub record Sound (t g : List ℕ) : Type 0 where
  pub long : length t ≡ slots
  pub beside : length g ≡ entries
  pub few : many t ≤ entries
  pub heads : (h : ℕ) → 1 ≤ h → h < first → get_or t h 0 ≡ newest t h (many t)
  pub links : (e : ℕ) → e < many t → link_at t e ≡ newest t (head_of (key_at t e)) e
  pub once : (d e : ℕ) → d < e → e < many t → key_at t d ≡ key_at t e → ⊥

-- each entry has a key of the list
abbrev pub Keyed : List ℕ → List ℕ → Type 0
Keyed t keys = (e : ℕ) → e < many t → Memᴰ (key_at t e) keys

-- the first table became the second: some gains fell, others rose. A full table stays full, and of one nothing is said; but a table
-- whose gains only rise, each to what an entry holds, and only for keys of a short enough list, does not become full.
pub record Turns (t g u h : List ℕ) (less more : ℕ → ℕ) : Type 0 where
  pub stays : entries ≤ many t → entries ≤ many u
  pub sound : Sound t g → many u < entries → Sound u h
  pub moves : Sound t g → many u < entries → (k : ℕ) → gain t g k + more k ≡ gain u h k + less k
  -- where nothing falls, the keys that rise and those that are there are of a list at least two shorter than the table, and no gain rises past the most,
  -- it does not become full
  pub fits : Sound t g → many t < entries → (keys : List ℕ) → length keys + 1 < entries → Keyed t keys
      → ((k : ℕ) → less k ≡ 0) → ((k : ℕ) → 0 < more k → Memᴰ k keys) → ((k : ℕ) → gain t g k + more k ≤ most_gain)
      → (many u < entries) × Keyed u keys

-- so much for one key, and nothing for the others
abbrev pub only : ℕ → ℕ → ℕ → ℕ
only key by k = cond (eqb k key) by 0

abbrev pub none : ℕ → ℕ
none k = 0
