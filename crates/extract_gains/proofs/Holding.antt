-- What the first entries hold for a key: it goes by their keys and gains alone, and one gain more or less moves one key's. Assumes nothing.
use mathlib.Core.Path.{◌≡◌, refl, sym, ap}
use mathlib.Core.Logic.{◌⊎◌, inl, inr}
use mathlib.Core.Bool.{cond, true, false}
use mathlib.Core.List.{List}
use Prim.Native.Nat.{ℕ, zero, suc, ◌+◌, ◌<◌}
use native.Mathlib.Omega.{arith}
use lib.Dec.{eqb}
use lib.ListN.{length, get_or, set}
use lib.Seq.{get_or-set_same, get_or-set_other}
use borrow.Author.Tests.{eqb-true, eq-eqb, ne_eqb}
use Rattle.sets.proofs.Truth.{decided, Stand, below, equal, beyond, compared}
use Rattle.extract_gains.specs.Gains.{key_at, holds}

pub holds_same : (t u g h : List ℕ) (k n : ℕ) → ((d : ℕ) → d < n → key_at u d ≡ key_at t d) → ((d : ℕ) → d < n → get_or h d 0 ≡ get_or g d 0)
    → holds u h k n ≡ holds t g k n
unfolding holds
holds_same t u g h k zero keys gains = refl
holds_same t u g h k (suc n) keys gains =
    rw (keys n (omega arith), gains n (omega arith), holds_same t u g h k n (λ d b. keys d (omega arith)) (λ d b. gains d (omega arith)))

-- entries of other keys hold nothing
pub holds-none : (t g : List ℕ) (k n : ℕ) → ((d : ℕ) → d < n → key_at t d ≡ k → ⊥) → holds t g k n ≡ 0
unfolding holds
holds-none t g k zero free = refl
holds-none t g k (suc n) free = rw (ne_eqb (key_at t n) k (free n (omega arith)), holds-none t g k n (λ d b. free d (omega arith)))

-- an entry whose key no other has
pub holds-one : (t g : List ℕ) (e n : ℕ) → e < n → ((d : ℕ) → d < n → key_at t d ≡ key_at t e → d ≡ e) → holds t g (key_at t e) n ≡ get_or g e 0
unfolding holds
holds-one t g e zero b alone = absurd (omega arith)
holds-one t g e (suc n) b alone = go (λ k. holds-one t g e n k (λ d l. alone d (omega arith))) (compared e n)
  where
    go : (e < n → holds t g (key_at t e) n ≡ get_or g e 0) → Stand e n
        → cond (eqb (key_at t n) (key_at t e)) (get_or g n 0) 0 + holds t g (key_at t e) n ≡ get_or g e 0
    go before (below k _ _) =
        rw (ne_eqb (key_at t n) (key_at t e) (λ q. let z : n ≡ e = alone n (omega arith) q in omega arith)) (omega (arith, before k))
    go before (equal k _ _) =
        let z : holds t g (key_at t e) n ≡ 0 = holds-none t g (key_at t e) n (λ d l q. let z : d ≡ e = alone d (omega arith) q in omega arith) in
        let q : eqb (key_at t n) (key_at t e) ≡ true = eq-eqb _ _ (ap (key_at t) (sym k)) in
        rw (q, z) (omega (arith, ap (λ i. get_or g i 0) k))
    go before (beyond k _ _) = absurd (omega arith)

-- a key for which something is held has an entry
pub holds-some : (t g : List ℕ) (k n : ℕ) → 0 < holds t g k n → (e : ℕ) × (e < n) × (key_at t e ≡ k)
unfolding holds
holds-some t g k zero h = absurd (omega arith)
holds-some t g k (suc n) h = go (holds-some t g k n) (decided (eqb (key_at t n) k))
  where
    go : (0 < holds t g k n → (e : ℕ) × (e < n) × (key_at t e ≡ k))
        → (eqb (key_at t n) k ≡ true) ⊎ (eqb (key_at t n) k ≡ false) → (e : ℕ) × (e < suc n) × (key_at t e ≡ k)
    go before (inl q) = (n, omega arith, eqb-true _ _ q)
    go before (inr q) = let h' : 0 < 0 + holds t g k n = rw q at h in let r = before (omega arith) in (r.0, omega (arith, r.1), r.2)

-- a new gain in entry e: what was there goes, and the new one comes
pub holds-set : (t g : List ℕ) (k n e v : ℕ) → e < n → e < length g
    → holds t g k n + cond (eqb (key_at t e) k) v 0 ≡ holds t (set g e v) k n + cond (eqb (key_at t e) k) (get_or g e 0) 0
unfolding holds
holds-set t g k zero e v b l = absurd (omega arith)
holds-set t g k (suc n) e v b l = go (λ q. holds-set t g k n e v q l) (compared e n)
  where
    go : (e < n → holds t g k n + cond (eqb (key_at t e) k) v 0 ≡ holds t (set g e v) k n + cond (eqb (key_at t e) k) (get_or g e 0) 0) → Stand e n
        → cond (eqb (key_at t n) k) (get_or g n 0) 0 + holds t g k n + cond (eqb (key_at t e) k) v 0
        ≡ cond (eqb (key_at t n) k) (get_or (set g e v) n 0) 0 + holds t (set g e v) k n + cond (eqb (key_at t e) k) (get_or g e 0) 0
    go before (below q _ _) = rw (get_or-set_other g e n v 0 (λ z. omega arith)) (omega (arith, before q))
    go before (equal q _ _) =
        let z : holds t (set g e v) k n ≡ holds t g k n
        = holds_same t t g (set g e v) k n (λ d b. refl) (λ d b. get_or-set_other g e d v 0 (λ z. omega arith)) in
        rw (z, ← q, get_or-set_same g e v 0 l) (omega arith)
    go before (beyond q _ _) = absurd (omega arith)
