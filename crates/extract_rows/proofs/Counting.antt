-- Gains that rise or fall together, one amount after the other; the amounts of a cube's pairs, and of two cubes. Assumes nothing.
use Prim.Native.Nat.{ℕ, ◌+◌, ◌*◌, ◌-◌, ◌<◌}
use mathlib.Core.Path.{◌≡◌, refl, ap, ◌∙◌}
use mathlib.Core.Logic.{inl, inr}
use mathlib.Core.Bool.{Bool, true, false, cond}
use mathlib.Core.List.{List, [], ◌∷◌, map}
use native.Mathlib.Omega.{arith}
use lib.Dec.{eqb, ltb}
use lib.ListN.{length}
use borrow.Author.Tests.{lt-ltb, ltb-true}
use Rattle.sets.specs.{Lists.all, Lists.total, Sets.meet, Sets.without, Sets.before}
use Rattle.sets.proofs.{Truth.both, Truth.decided, Lists.total-append, Lists.total-map, Sets.all-mem, Sets.mem-head}
use Rattle.cube.{specs.Cube.width, specs.Cube.lits, specs.declared.Cube.Cube}
use Rattle.cube.proofs.Lits.{lits-asc, lits-inside}
use Rattle.extract_laws.specs.Divisor.{Divisor, pair, small}
use Rattle.extract_laws.specs.Extract.{pairs_in, smaller_first, sum_of}
use Rattle.extract_laws.proofs.Parting.{parts-apart}
use Rattle.extract_gains.specs.Gains.{only}
use Rattle.extract_gains.proofs.Table.{turns-none, turns_then, turns_as}
use Rattle.extract_keys.specs.Keys.{part_code, two_codes, key_of, cost}
use Rattle.extract_keys.proofs.Keys.{two-key}
use Rattle.extract_counts.specs.Counts.{pairs_gain, two_gain, row_gain}
use Rattle.extract_rows.specs.Parts.{Counts, pairs_with}

-- ---- amounts, one after the other

module _ (up : Bool) where
  -- the same amounts, said otherwise
  pub counts-as : {t g u h : List ℕ} {a b : ℕ → ℕ} → ((k : ℕ) → a k ≡ b k) → Counts up t g u h a → Counts up t g u h b
  counts-as e p = turns_as (λ k. ap (cond up 0) (e k)) (λ k. ap (λ x. cond up x 0) (e k)) p

  -- nothing changes
  pub counts-none : (t g : List ℕ) → Counts up t g t g (λ k. 0)
  counts-none t g = turns_as (λ k. same up) (λ k. same up) (turns-none t g)
    where
      same : (b : Bool) → ◌≡◌ {A = ℕ} 0 (cond b 0 0)
      same true = refl
      same false = refl

  -- one amount, then another
  pub counts-then : {t g u h v i : List ℕ} (a b : ℕ → ℕ) → Counts up t g u h a → Counts up u h v i b → Counts up t g v i (λ k. a k + b k)
  counts-then a b p q = turns_as (λ k. less up (a k) (b k)) (λ k. more up (a k) (b k)) (turns_then p q)
    where
      less : (w : Bool) (x y : ℕ) → cond w 0 x + cond w 0 y ≡ cond w 0 (x + y)
      less true x y = refl
      less false x y = refl

      more : (w : Bool) (x y : ℕ) → cond w x 0 + cond w y 0 ≡ cond w (x + y) 0
      more true x y = refl
      more false x y = refl

-- a part of the whole amount is counted, and the rest is due
pub record Due (up : Bool) (t g u h : List ℕ) (rest whole : ℕ → ℕ) : Type 0 where
  done : ℕ → ℕ
  counts : Counts up t g u h done
  sums : (k : ℕ) → done k + rest k ≡ whole k

-- at first all of it is
pub due_all : (up : Bool) (t g : List ℕ) {rest whole : ℕ → ℕ} → ((k : ℕ) → rest k ≡ whole k) → Due up t g t g rest whole
due_all up t g e = record { done = λ k. 0; counts = counts-none up t g; sums = λ k. omega (arith, e k) }

-- the next part is counted
pub due-next : {up : Bool} {t g u h v i : List ℕ} {rest left whole : ℕ → ℕ} (by : ℕ → ℕ) → Due up t g u h rest whole
    → Counts up u h v i by → ((k : ℕ) → rest k ≡ by k + left k) → Due up t g v i left whole
due-next {up} by d c e = record {
  done = λ k. d.done k + by k;
  counts = counts-then up d.done by d.counts c;
  sums = λ k. omega (arith, d.sums k, e k);
}

-- nothing is left: the whole is counted
pub due-done : {up : Bool} {t g u h : List ℕ} {rest whole : ℕ → ℕ} → Due up t g u h rest whole → ((k : ℕ) → rest k ≡ 0) → Counts up t g u h whole
due-done {up} d e = counts-as up (λ k. omega (arith, d.sums k, e k)) d.counts

-- ---- the pairs of a cube

-- the first literal of a cube
pub led-inside : (c : Cube) {x : ℕ} {l : List ℕ} → lits c ≡ x ∷ l → x < 2 * width
led-inside c {x} {l} e = lits-inside c x (rw e (mem-head x l))

module _ (k : ℕ) where
  -- the pairs of one literal and each of some others
  pub with_none : {c : List ℕ} (p : ℕ) → c ≡ [] → pairs_with k p c ≡ 0
  unfolding pairs_with
  with_none p e = rw e

  pub with-next : {c d : List ℕ} (p : ℕ) {q key : ℕ} → c ≡ q ∷ d → key ≡ key_of (pair p q) → pairs_with k p c ≡ only key 1 k + pairs_with k p d
  unfolding pairs_with
  with-next p e i = rw (e, i)

  -- all pairs: those of the first literal, then the others
  pub pairs-none : {c : List ℕ} → c ≡ [] → pairs_gain k c ≡ 0
  unfolding pairs_gain pairs_in
  pairs-none e = rw e

  pub pairs_next : {c d : List ℕ} {p : ℕ} → c ≡ p ∷ d → pairs_gain k c ≡ pairs_with k p d + pairs_gain k d
  unfolding pairs_gain pairs_in pairs_with
  pairs_next {d = d} {p} e =
      let f : Divisor → ℕ = λ x. cond (eqb k (key_of x)) 1 0 in
      rw e (total-append f (map (pair p) d) (pairs_in d) ∙ ap (◌+ total f (pairs_in d)) (total-map f (pair p) d))

  -- ---- a cube and others

  pub row-none : (c : List ℕ) {f : List (List ℕ)} → f ≡ [] → row_gain k c f ≡ 0
  unfolding row_gain
  row-none c e = rw e

  pub row_next : (c : List ℕ) {d : List ℕ} {f g : List (List ℕ)} → f ≡ d ∷ g → row_gain k c f ≡ two_gain k c d + row_gain k c g
  unfolding row_gain
  row_next c e = rw e

-- what is known of a small part
pub small-out : (a : List ℕ) (n : ℕ) → n ≡ length a → small a ≡ true → (0 < n) × (n < 3)
unfolding small
small-out a n e h =
    let q = both (ltb 0 (length a)) (ltb (length a) 3) h in
    (omega (arith, ltb-true 0 (length a) q.0), omega (arith, ltb-true (length a) 3 q.1))

-- ---- two cubes

-- what a sum costs, the smaller part first
pub cost-sum : (a b : List ℕ) → cost (smaller_first a b) ≡ length a + length b
unfolding smaller_first
cost-sum a b = elim (decided (before a b)) [ inl t ↦ rw t | inr t ↦ rw t (omega arith) ]

inside : (a : Cube) → all (λ l. ltb l (2 * width)) (lits a) ≡ true
inside a = all-mem (λ l. ltb l (2 * width)) (lits a) (λ z m. lt-ltb z (2 * width) (lits-inside a z m))

-- two cubes c and d, and the first, or both, without their common base
module _ (k : ℕ) (c d : List ℕ) (a : Cube) (p : lits a ≡ without c d) where
  -- the first part is not small
  pub two-left : small (lits a) ≡ false → 0 ≡ two_gain k c d
  unfolding two_gain sum_of
  two-left h = rw (← p, h)

  module _ (h : small (lits a) ≡ true) (b : Cube) (q : lits b ≡ without d c) where
    -- the second part is not small
    pub two-right : small (lits b) ≡ false → 0 ≡ two_gain k c d
    unfolding two_gain sum_of
    two-right g = rw (← p, ← q, h, g)

    -- both are: what the two gain is one amount, by the key of their sum
    pub two-some : {base m n key : ℕ} → small (lits b) ≡ true → base ≡ length (meet c d) → m ≡ length (lits a) → n ≡ length (lits b)
        → key ≡ two_codes (part_code (lits a)) (part_code (lits b)) → only key (base + ((m + n) - 1)) k ≡ two_gain k c d
    unfolding two_gain sum_of
    two-some g i j l e =
        let f = two-key (lits a) (lits b) (lits-asc a) (lits-asc b) h g (rw (p, q) (parts-apart c d)) (inside a) (inside b) in
        rw (← p, ← q, h, g, i, j, l, e, f, cost-sum (lits a) (lits b)) (omega arith)
