-- The chains: which entry is the newest of a chain, and where a search along one stands. Assumes nothing.
use mathlib.Core.Path.{◌≡◌, refl, sym, ◌∙◌, ap}
use mathlib.Core.Logic.{◌⊎◌, inl, inr}
use mathlib.Core.{Bool.true, Bool.false, List.List}
use Prim.Native.Nat.{ℕ, zero, suc, ◌+◌, ◌-◌, ◌*◌, ◌/◌, ◌<◌, ◌≤◌}
use native.Mathlib.Nat.{mod-lt}
use native.Mathlib.Omega.{arith}
use lib.Dec.{eqb, lit<}
use lib.ListN.{get_or}
use borrow.Author.Tests.{eqb-true, eqb-false}
use Rattle.sets.proofs.Truth.{decided, Stand, below, equal, beyond, compared}
use Rattle.extract_gains.specs.Gains.{first, slots, heads, many, place_of, key_at, head_of, newest}
use Rattle.extract_gains.specs.Parts.{Chained, Missing}

-- a chain's head stands between the number of entries and the first entry
pub head-from : (k : ℕ) → 1 ≤ head_of k
unfolding head_of
head-from k = omega arith

pub head-to : (k : ℕ) → head_of k < first
unfolding head_of
head-to k = omega (arith, mod-lt (k * 2654435761 / 16384) {m = heads} (lit< tt))

-- the newest of the first e entries in a chain: there is none, or it is entry d
pub data Latest (t : List ℕ) (h e : ℕ) : Type 0 where
  nowhere : newest t h e ≡ 0 → ((d : ℕ) → d < e → head_of (key_at t d) ≡ h → ⊥) → Latest t h e
  somewhere : (d : ℕ) → d < e → newest t h e ≡ place_of d → head_of (key_at t d) ≡ h
      → ((c : ℕ) → d < c → c < e → head_of (key_at t c) ≡ h → ⊥) → Latest t h e

pub newest-is : (t : List ℕ) (h e : ℕ) → Latest t h e
unfolding newest
newest-is t h zero = nowhere refl (λ d b. absurd (omega arith))
newest-is t h (suc e) = go (decided (eqb (head_of (key_at t e)) h)) (newest-is t h e)
  where
    last : {P : Type 0} (d : ℕ) → d < suc e → (d < e → P) → (d ≡ e → P) → P
    last d b f g = elim (compared d e) [ below k _ _ ↦ f k | equal k _ _ ↦ g k | beyond k _ _ ↦ absurd (omega arith) ]

    go : (eqb (head_of (key_at t e)) h ≡ true) ⊎ (eqb (head_of (key_at t e)) h ≡ false) → Latest t h e → Latest t h (suc e)
    go (inl q) n = somewhere e (omega arith) (rw q) (eqb-true _ _ q) (λ c a b. absurd (omega arith))
    go (inr q) (nowhere z free) =
        nowhere (rw q z) (λ d b s. last d b (λ k. free d k s) (λ k. eqb-false _ _ q (rw k at s)))
    go (inr q) (somewhere d b z s free) =
        somewhere d (omega arith) (rw q z) s (λ c a l r. last c l (λ k. free c a k r) (λ k. eqb-false _ _ q (rw k at r)))

-- it goes by the keys of those entries alone
pub newest-same : (t u : List ℕ) (h n : ℕ) → ((d : ℕ) → d < n → key_at u d ≡ key_at t d) → newest u h n ≡ newest t h n
unfolding newest
newest-same t u h zero same = refl
newest-same t u h (suc n) same = rw (same n (omega arith), newest-same t u h n (λ d b. same d (omega arith)))

-- a search along the chain of a key stands at the newest of the first e entries, and no entry from e on has the key
pub record Reached (t : List ℕ) (k at : ℕ) : Type 0 where
  pub upto : ℕ
  pub within : upto ≤ many t
  pub stands : at ≡ newest t (head_of k) upto
  pub passed : (d : ℕ) → upto ≤ d → d < many t → key_at t d ≡ k → ⊥

-- it starts at the head
pub reached-head : (t : List ℕ) (k : ℕ) → Chained t → Reached t k (get_or t (head_of k) 0)
reached-head t k c = record {
  upto = many t;
  within = omega arith;
  stands = c.heads (head_of k) (head-from k) (head-to k);
  passed = λ d a b. absurd (omega arith);
}

-- where it stands at an entry
pub record Entered (t : List ℕ) (k at : ℕ) : Type 0 where
  pub entry : ℕ
  pub held : entry < many t
  pub place : at ≡ place_of entry
  pub alike : head_of (key_at t entry) ≡ head_of k
  pub passed : (d : ℕ) → entry < d → d < many t → key_at t d ≡ k → ⊥

pub reached-entry : {t : List ℕ} {k at : ℕ} → Reached t k at → first ≤ at → Entered t k at
reached-entry {t} {k} {at} r f = go (newest-is t (head_of k) r.upto)
  where
    go : Latest t (head_of k) r.upto → Entered t k at
    go (nowhere z free) = absurd (omega (arith, r.stands))
    go (somewhere d b z s free) = record {
      entry = d;
      held = omega (arith, r.within);
      place = r.stands ∙ z;
      alike = s;
      passed = λ c a l q. elim (compared c r.upto) [
        | below n _ _ ↦ free c a n (ap head_of q)
        | equal n _ _ ↦ r.passed c (omega arith) l q
        | beyond n _ _ ↦ r.passed c (omega arith) l q
      ];
    }

-- a place before the first entry: no entry has the key
pub reached-end : {t : List ℕ} {k at : ℕ} → Reached t k at → at < first → Missing t k
reached-end {t} {k} {at} r f d l q = go (newest-is t (head_of k) r.upto) (compared d r.upto)
  where
    go : Latest t (head_of k) r.upto → Stand d r.upto → ⊥
    go (somewhere e b z s free) n = omega (arith, r.stands)
    go (nowhere z free) (below n _ _) = free d n (ap head_of q)
    go (nowhere z free) (equal n _ _) = r.passed d (omega arith) l q
    go (nowhere z free) (beyond n _ _) = r.passed d (omega arith) l q

-- the link of an entry that has not the key leads to an earlier place, and on
pub link-before : {t : List ℕ} {k at : ℕ} → Chained t → (n : Entered t k at) → get_or t at 0 < at
link-before {t} {k} {at} c n = go (newest-is t (head_of (key_at t n.entry)) n.entry)
  where
    link : get_or t at 0 ≡ newest t (head_of (key_at t n.entry)) n.entry
    link = ap (λ i. get_or t i 0) n.place ∙ c.links n.entry n.held

    go : Latest t (head_of (key_at t n.entry)) n.entry → get_or t at 0 < at
    go (nowhere z free) = omega (arith, link, n.place)
    go (somewhere d b z s free) = omega (arith, link, n.place)

pub reached-link : {t : List ℕ} {k at : ℕ} → Chained t → Entered t k at → (get_or t (at + 1) 0 ≡ k → ⊥) → Reached t k (get_or t at 0)
reached-link {t} {k} {at} c n other = record {
  upto = n.entry;
  within = omega (arith, n.held);
  stands = ap (λ i. get_or t i 0) n.place ∙ c.links n.entry n.held ∙ ap (λ h. newest t h n.entry) n.alike;
  passed = λ d a l q. elim (compared n.entry d) [
    | below b _ _ ↦ n.passed d b l q
    | equal b _ _ ↦ other (ap (λ i. get_or t (i + 1) 0) (n.place ∙ ap place_of b) ∙ q)
    | beyond b _ _ ↦ absurd (omega arith)
  ];
}

-- an entry's place is within the table
pub entry-within : {t : List ℕ} {k at : ℕ} → Chained t → Entered t k at → at < slots - 1
entry-within c n = omega (arith, n.place, n.held, c.few)

-- a place with the key is that of an entry with the key
pub entry_found : {t : List ℕ} {k at : ℕ} → Entered t k at → get_or t (at + 1) 0 ≡ k
    → ((at - first) / 2 < many t) × (key_at t ((at - first) / 2) ≡ k)
entry_found {t} {k} {at} n q =
    let e : (at - first) / 2 ≡ n.entry = omega (arith, n.place) in
    (omega (arith, n.held), ap (key_at t) e ∙ ap (λ i. get_or t (i + 1) 0) (sym n.place) ∙ q)
