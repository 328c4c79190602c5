-- The laws of a table of gains. Assumes nothing.
use mathlib.Core.Path.{◌≡◌, refl, sym, ◌∙◌}
use mathlib.Core.{Bool.true, Bool.not, List.List}
use Prim.Native.Nat.{ℕ, zero, suc, ◌+◌, ◌<◌, ◌≤◌}
use native.Mathlib.Omega.{arith}
use lib.Dec.{eqb}
use lib.ListN.{length, get_or}
use borrow.Author.Tests.{eq-eqb, ne_eqb}
use Rattle.sets.specs.Lists.{keep}
use Rattle.sets.proofs.Truth.{Stand, below, equal, beyond, compared}
use Rattle.sets.proofs.Lists.{◌∈◌, all_in, keep-in, keep_all, keep-fewer}
use Rattle.extract_gains.specs.Gains.{entries, many, key_at, gain, Sound, Keyed, Turns, none}
use Rattle.extract_gains.proofs.Holding.{holds-none, holds-one, holds-some}

-- no gain in an empty table
pub gain-empty : (t g : List ℕ) (k : ℕ) → many t ≡ 0 → gain t g k ≡ 0
unfolding gain
gain-empty t g k z = holds-none t g k (many t) (λ d b. absurd (omega arith))

-- an entry holds the gain of its key
pub gain-entry : {t g : List ℕ} → Sound t g → (e : ℕ) → e < many t → gain t g (key_at t e) ≡ get_or g e 0
unfolding gain
gain-entry {t} {g} s e b = holds-one t g e (many t) b (λ d l q. alone d l q (compared d e))
  where
    alone : (d : ℕ) → d < many t → key_at t d ≡ key_at t e → Stand d e → d ≡ e
    alone d l q (below k _ _) = absurd (s.once d e k b q)
    alone d l q (equal k _ _) = k
    alone d l q (beyond k _ _) = absurd (s.once e d k l (sym q))

-- a key with a gain has an entry
pub entry-gain : (t g : List ℕ) (k : ℕ) → 0 < gain t g k → (e : ℕ) × (e < many t) × (key_at t e ≡ k)
unfolding gain
entry-gain t g k h = holds-some t g k (many t) h

-- the numbers of a list but one, which it has, are fewer
others : ℕ → List ℕ → List ℕ
others x l = keep (λ y. not (eqb y x)) l

others-in : {x y : ℕ} {l : List ℕ} → y ∈ l → (y ≡ x → ⊥) → y ∈ others x l
unfolding others
others-in {x} {y} m other = keep-in _ m (rw (ne_eqb y x other))

others-fewer : {x : ℕ} {l : List ℕ} → x ∈ l → length (others x l) < length l
unfolding others
others-fewer {x} {l} m =
    rw (keep_all (λ y. true) l (all_in (λ y. true) l (λ y i. refl))) at
    (keep-fewer (λ y. not (eqb y x)) (λ y. true) l m (λ y i h. refl) (rw (eq-eqb x x refl)) refl)

-- n numbers that differ are not in a list of fewer
pigeons : (f : ℕ → ℕ) (n : ℕ) (l : List ℕ) → ((d e : ℕ) → d < e → e < n → f d ≡ f e → ⊥) → ((e : ℕ) → e < n → f e ∈ l) → n ≤ length l
pigeons f zero l apart m = omega arith
pigeons f (suc n) l apart m = omega (
  arith,
  others-fewer (m n (omega arith)),
  pigeons f n (others (f n) l)
      (λ d e b h. apart d e b (omega arith)) (λ e h. others-in (m e (omega arith)) (apart e n h (omega arith))),
)

-- a table has no more entries than there are keys
pub many-few : {t g : List ℕ} → Sound t g → (keys : List ℕ) → Keyed t keys → many t ≤ length keys
many-few {t} s keys keyed = pigeons (key_at t) (many t) keys s.once keyed

-- nothing changes
pub turns-none : (t g : List ℕ) → Turns t g t g none none
turns-none t g = record { stays = λ h. h; sound = λ s h. s; moves = λ s h k. refl; fits = λ s r keys short keyed falls rise most. (r, keyed) }

-- two changes, one after the other
pub turns_then : {t g u h v i : List ℕ} {a b c d : ℕ → ℕ} → Turns t g u h a b → Turns u h v i c d → Turns t g v i (λ k. a k + c k) (λ k. b k + d k)
turns_then {u} {v} p q = record {
  stays = λ f. q.stays (p.stays f);
  sound = λ s f. q.sound (p.sound s (roomy f)) f;
  moves = λ s f k. omega (arith, p.moves s (roomy f) k, q.moves (p.sound s (roomy f)) f k);
  fits = λ s r keys short keyed falls rise most.
      let f = p.fits s r keys short keyed (λ k. omega (arith, falls k)) (λ k l. rise k (omega arith)) (λ k. omega (arith, most k)) in
      q.fits (p.sound s f.0) f.0 keys short f.1 (λ k. omega (arith, falls k)) (λ k l. rise k (omega arith))
      (λ k. omega (arith, most k, falls k, p.moves s f.0 k));
}
  where
    roomy : many v < entries → many u < entries
    roomy f = elim (compared (many u) entries) [
      | below k _ _ ↦ k
      | equal k _ _ ↦ absurd (omega (arith, q.stays (omega arith)))
      | beyond k _ _ ↦ absurd (omega (arith, q.stays (omega arith)))
    ]

-- the same amounts, said otherwise
pub turns_as : {t g u h : List ℕ} {a b c d : ℕ → ℕ} → ((k : ℕ) → a k ≡ c k) → ((k : ℕ) → b k ≡ d k) → Turns t g u h a b → Turns t g u h c d
turns_as less more p = record {
  stays = p.stays;
  sound = p.sound;
  moves = λ s f k. omega (arith, p.moves s f k, less k, more k);
  fits = λ s r keys short keyed falls rise most. p.fits s r keys short keyed (λ k. less k ∙ falls k)
      (λ k l. rise k (omega (arith, more k))) (λ k. omega (arith, more k, most k));
}
