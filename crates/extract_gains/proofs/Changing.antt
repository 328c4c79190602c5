-- Changes of a table: it becomes full, it is empty, the gain of an entry changes. Assumes nothing.
use mathlib.Core.Path.{◌≡◌, refl, sym, ◌∙◌}
use mathlib.Core.Bool.{Bool, cond, true, false}
use mathlib.Core.List.{List, Memᴰ}
use Prim.Native.Nat.{ℕ, ◌+◌, ◌-◌, ◌^◌, ◌<◌, ◌≤◌}
use native.Mathlib.Omega.{arith}
use lib.Dec.{eqb}
use lib.ListN.{length, get_or, set, length-set}
use borrow.Author.Tests.{eqb-true, eq-eqb}
use Rattle.std.specs.Prelude.{Option, Some, None, SomeIff}
use Rattle.sets.proofs.Truth.{iff}
use Rattle.extract_gains.specs.Gains.{entries, first, slots, many, key_at, newest, gain, most_gain, Sound, Keyed, Turns, only, none}
use Rattle.extract_gains.specs.Parts.{Chained, Changes}
use Rattle.extract_gains.proofs.Holding.{holds-set}
use Rattle.extract_gains.proofs.Table.{gain-entry, turns_as}

pub sound-chains : {t g : List ℕ} → Sound t g → Chained t
sound-chains s = record { few = s.few; heads = s.heads; links = s.links }

-- of a full table nothing is said, where the change does not fit
pub turns-full : {t g u h : List ℕ} {less more : ℕ → ℕ} → entries ≤ many u
    → (Sound t g → many t < entries → (keys : List ℕ) → length keys + 1 < entries → Keyed t keys → ((k : ℕ) → less k ≡ 0)
    → ((k : ℕ) → 0 < more k → Memᴰ k keys) → ((k : ℕ) → gain t g k + more k ≤ most_gain) → ⊥)
    → Turns t g u h less more
turns-full f unfit = record {
  stays = λ _. f;
  sound = λ s r. absurd (omega arith);
  moves = λ s r. absurd (omega arith);
  fits = λ s r keys short keyed falls rise most. absurd (unfit s r keys short keyed falls rise most);
}

-- no number of entries and no head
pub sound_empty : {t g : List ℕ} → length t ≡ slots → length g ≡ entries → ((i : ℕ) → i < first → get_or t i 0 ≡ 0) → Sound t g × (many t ≡ 0)
unfolding newest
sound_empty {t} {g} l b clear =
    let z : many t ≡ 0 = clear 0 (omega arith) in (
      record {
        long = l;
        beside = b;
        few = omega arith;
        heads = λ h from to. rw z (clear h to);
        links = λ e r. absurd (omega arith);
        once = λ d e q r. absurd (omega arith);
      },
      z,
    )

pub eqb-turn : (a b : ℕ) → eqb a b ≡ eqb b a
eqb-turn a b = iff (λ q. eq-eqb b a (sym (eqb-true a b q))) (λ q. eq-eqb a b (sym (eqb-true b a q)))

-- another gain in the entry of a key
turns-set : (t g : List ℕ) (key e v x y : ℕ) → e < entries → (Chained t → (e < many t) × (key_at t e ≡ key)) → get_or g e 0 + y ≡ v + x
    → Turns t g t (set g e v) (only key x) (only key y)
unfolding gain
turns-set t g key e v x y r found sum = record {
  stays = λ f. f;
  sound = λ s f. record {
    long = s.long;
    beside = length-set g e v ∙ s.beside;
    few = s.few;
    heads = s.heads;
    links = s.links;
    once = s.once;
  };
  moves = λ s f k. moved k (found (sound-chains s)).1 (holds-set t g k (many t) e v (found (sound-chains s)).0 (omega (arith, s.beside)));
  fits = λ s r keys short keyed falls rise most. (r, keyed);
}
  where
    parts : (b : Bool) (m n : ℕ) → m + cond b v 0 ≡ n + cond b (get_or g e 0) 0 → m + cond b y 0 ≡ n + cond b x 0
    parts true m n q = omega arith
    parts false m n q = q

    moved : (k : ℕ) → key_at t e ≡ key
        → gain t g k + cond (eqb (key_at t e) k) v 0 ≡ gain t (set g e v) k + cond (eqb (key_at t e) k) (get_or g e 0) 0
        → gain t g k + only key y k ≡ gain t (set g e v) k + only key x k
    moved k same q = parts (eqb k key) _ _ (rw (same, eqb-turn key k) at q)

-- so much for one key is so much for it
pub only_same : (key by : ℕ) → only key by key ≡ by
only_same key by = rw (eq-eqb key key refl)

-- nothing for one key is nothing
only_none : (key k : ℕ) → only key 0 k ≡ none k
only_none key k = go (eqb k key)
  where
    go : (b : Bool) → cond {A = ℕ} b 0 0 ≡ 0
    go true = refl
    go false = refl

pub turns-raise : (t g : List ℕ) (key e by : ℕ) → e < entries → (Chained t → (e < many t) × (key_at t e ≡ key))
    → Turns t g t (set g e (get_or g e 0 + by)) none (only key by)
turns-raise t g key e by r found = turns_as (only_none key) (λ k. refl) (turns-set t g key e (get_or g e 0 + by) 0 by r found (omega arith))

pub turns_lower : (t g : List ℕ) (key e by : ℕ) → e < entries → (Chained t → (e < many t) × (key_at t e ≡ key)) → by ≤ get_or g e 0
    → Turns t g t (set g e (get_or g e 0 - by)) (only key by) none
turns_lower t g key e by r found b = turns_as (λ k. refl) (only_none key) (turns-set t g key e (get_or g e 0 - by) by 0 r found (omega arith))

-- a full table, where the gain of an entry would rise past the most
pub turns-past : {t g u h : List ℕ} (key e by : ℕ) → entries ≤ many u → (Chained t → (e < many t) × (key_at t e ≡ key)) → most_gain < get_or g e 0 + by
    → Turns t g u h none (only key by)
turns-past {t} {g} key e by f found past = turns-full f (λ s r keys short keyed falls rise most.
    let at = found (sound-chains s) in
    let has : gain t g key ≡ get_or g e 0 = rw at.1 at (gain-entry s e at.0) in
    omega (arith, has, only_same key by, most key))

-- a full table, where a gain was to fall
pub turns-short : {t g u h : List ℕ} (key by : ℕ) → entries ≤ many u → 0 < by → Turns t g u h (only key by) none
turns-short key by f some = turns-full f (λ s r keys short keyed falls rise most. omega (arith, only_same key by, falls key))

-- the entry of a key, where its gain rises, or would rise past the most
pub turns-rise : {t g u h : List ℕ} (key e by : ℕ) (o : Option ℕ) → e < entries → (Chained t → (e < many t) × (key_at t e ≡ key))
    → SomeIff o (get_or g e 0 + by < 2 ^ 16) (get_or g e 0 + by) → Changes t g u h e o → Turns t g u h none (only key by)
turns-rise {t} {g} key e by (Some x) r found sum (same, new) = rw (same, new, sum.1) (turns-raise t g key e by r found)
turns-rise key e by None r found past full = turns-past key e by (omega arith) found (omega arith)

-- where it falls, or has not so much
pub turns-fall : {t g u h : List ℕ} (key e by : ℕ) (o : Option ℕ) → e < entries → 0 < by → (Chained t → (e < many t) × (key_at t e ≡ key))
    → SomeIff o (by ≤ get_or g e 0) (get_or g e 0 - by) → Changes t g u h e o → Turns t g u h (only key by) none
turns-fall {t} {g} key e by (Some x) r some found rest (same, new) = rw (same, new, rest.1) (turns_lower t g key e by r found rest.0)
turns-fall key e by None r some found short full = turns-short key by (omega arith) some
