-- Numbers window by window: what holds of all numbers below one, and what the marks of a window count. Assumes nothing.
use Prim.Native.Nat.{ℕ, zero, suc, ◌+◌, ◌-◌, ◌≤◌, ◌<◌, min}
use mathlib.Core.Path.{◌≡◌, refl, sym, ap, ap₂, ◌∙◌, subst}
use mathlib.Core.Logic.{inl, inr}
use mathlib.Core.Bool.{Bool, true, false, cond, ◌&&◌, ◌||◌}
use mathlib.Core.List.{List, [], ◌∷◌, ◌++◌}
use native.Mathlib.Omega.{arith}
use borrow.Author.Tests.{eq-eqb, eqb-true, eqb-false, lt-ltb, le-ltb, ltb-true, ltb-false, le-leb, lt-leb, leb-true}
use lib.Dec.{eqb, leb, ltb}
use lib.ListN.{length, get_or, take, replicate, length-replicate, get_or-replicate}
use Rattle.sets.specs.{Lists.all, Lists.total, Lists.from, Sets.mem}
use Rattle.sets.proofs.Truth.{iff, decided, clash, refuted}
use Rattle.sets.proofs.Lists.{total-append}
use Rattle.sets.proofs.Sets.{all-mem, mem-all, from_in, from_out}
use Rattle.blif_lines.specs.Marking.{times, Raised}
use Rattle.blif_lines.proofs.Marking.{raised-on}

-- ---- numbers in a row

module _ (p : ℕ → Bool) where
  -- a window after those that passed
  pub windows-on : (base k : ℕ) → all p (from 0 base) ≡ true → all p (from base k) ≡ true → all p (from 0 (base + k)) ≡ true
  windows-on base k a b = all-mem p (from 0 (base + k)) (λ v m.
      let q = from_out 0 (base + k) v m in
      elim (decided (ltb v base)) [
        | inl t ↦ mem-all p (from 0 base) v a (from_in 0 base v (omega arith) (omega (arith, ltb-true v base t)))
        | inr t ↦ mem-all p (from base k) v b (from_in base k v (ltb-false v base t) (omega (arith, q.1)))
      ])

  -- the windows below a number, and the one there
  pub windows-next : (base k w top : ℕ) → k ≡ min (top - base) w → base < top → all p (from 0 (min base top)) ≡ true → all p (from base k) ≡ true
      → all p (from 0 (min (base + w) top)) ≡ true
  windows-next base k w top m h a b =
      let e : min base top ≡ base = omega arith in
      let f : base + k ≡ min (base + w) top = omega arith in
      subst (λ (n : ℕ). all p (from 0 n) ≡ true) f (windows-on base k (subst (λ (n : ℕ). all p (from 0 n) ≡ true) e a) b)

  -- a window that fails
  pub windows-stop : (base k top : ℕ) → base + k ≤ top → all p (from base k) ≡ false → all p (from 0 top) ≡ false
  windows-stop base k top h f = refuted (λ t. clash (all-mem p (from base k) (λ v m.
      let q = from_out base k v m in mem-all p (from 0 top) v t (from_in 0 top v (omega arith) (omega (arith, q.1))))) f)

  -- all windows passed
  pub windows-done : (base top : ℕ) → top ≤ base → all p (from 0 base) ≡ true → all p (from 0 top) ≡ true
  windows-done base top h a = all-mem p (from 0 top) (λ v m.
      mem-all p (from 0 base) v a (from_in 0 base v (omega arith) (omega (arith, (from_out 0 top v m).1))))

-- a test of the first marks is a test of the window's numbers
pub window-all : (f h : ℕ → Bool) (l : List ℕ) (base k : ℕ) → k ≤ length l → ((i : ℕ) → i < k → f (get_or l i 0) ≡ h (base + i))
    → all f (take k l) ≡ all h (from base k)
unfolding from
window-all f h l base zero s q = refl
window-all f h [] base (suc k) s q = absurd (omega arith)
window-all f h (x ∷ l) base (suc k) s q =
    let z : base + 0 ≡ base = omega arith in
    ap₂ ◌&&◌ (q 0 (omega arith) ∙ ap h z)
    (window-all f h l (suc base) k (omega arith) (λ i t. let e : base + suc i ≡ suc base + i = omega arith in q (suc i) (omega arith) ∙ ap h e))

-- ---- counts

-- a number that is counted is in the list
pub times-mem : (v : ℕ) (l : List ℕ) → leb 1 (times v l) ≡ mem v l
unfolding mem
times-mem v [] = refl
times-mem v (u ∷ l) = go (eqb v u) (times-mem v l)
  where
    go : (b : Bool) → leb 1 (times v l) ≡ mem v l → leb 1 (cond b 1 0 + times v l) ≡ (b || mem v l)
    go true h = le-leb 1 (1 + times v l) (omega arith)
    go false h = let e : 0 + times v l ≡ times v l = omega arith in ap (leb 1) e ∙ h

-- of numbers in a row one is x, or none is
pub one_hit : (k m x c : ℕ) → total (λ j. cond (eqb x j) c 0) (from k m) ≡ cond (leb k x && ltb x (k + m)) c 0
unfolding from
one_hit k zero x c = elim (decided (leb k x)) [
  | inl t ↦ rw (t, le-ltb x (k + 0) (omega (arith, leb-true k x t)))
  | inr t ↦ rw t
]
one_hit k (suc m) x c = elim (decided (eqb x k)) [
  | inl t ↦
      let e : x ≡ k = eqb-true x k t in
      rw (t, one_hit (suc k) m x c, lt-leb (suc k) x (omega arith), le-leb k x (omega arith), lt-ltb x (k + suc m) (omega arith)) (omega arith)
  | inr t ↦ rw (t, one_hit (suc k) m x c) (omega (arith, other (eqb-false x k t)))
]
  where
    other : (x ≡ k → ⊥) → cond (leb (suc k) x && ltb x (suc k + m)) c 0 ≡ cond (leb k x && ltb x (k + suc m)) c 0
    other h = elim (decided (ltb k x)) [
      | inl l ↦ let i : k < x = ltb-true k x l in ap (λ (b : Bool). cond b c 0)
          (ap₂ ◌&&◌ (le-leb (suc k) x (omega arith) ∙ sym (le-leb k x (omega arith))) (let e : suc k + m ≡ k + suc m = omega arith in ap (ltb x) e))
      | inr l ↦ let i : x < k = omega (arith, ltb-false k x l, h) in rw (lt-leb (suc k) x (omega arith), lt-leb k x i)
    ]

-- a number from k on is counted once where it is one of the row
pub times-row : (k m v : ℕ) → k ≤ v → times v (from k m) ≡ cond (ltb v (k + m)) 1 0
times-row k m v h = one_hit k m v 1 ∙ ap (λ (b : Bool). cond (b && ltb v (k + m)) 1 0) (le-leb k v h)

-- ---- the marks of a window, at first all zero

-- a mark that was zero
pub met-mark : (v x y : ℕ) (l : List ℕ) → x ≡ 0 → y ≡ min 2 (x + times v l) → leb 1 y ≡ mem v l
met-mark v x y l e f = iff
    (λ h. le-leb 1 (times v l) (omega (arith, leb-true 1 y h)))
    (λ h. le-leb 1 y (omega (arith, leb-true 1 (times v l) h)))
    ∙ times-mem v l

module _ (w : ℕ) {base k : ℕ} {new : List ℕ} (s : k ≤ w) where
  pub window-met : (l : List ℕ) → Raised base l (replicate w 0) new → all (λ x. leb 1 x) (take k new) ≡ all (λ v. mem v l) (from base k)
  window-met l r = window-all (λ x. leb 1 x) (λ v. mem v l) new base k (omega (arith, r.size, length-replicate {A = ℕ} w 0))
      (λ i h.
      let z = get_or-replicate {A = ℕ} w i 0 0 (omega arith) in
      let e = r.each i (omega (arith, length-replicate {A = ℕ} w 0)) (omega (arith, z)) in
      met-mark (base + i) _ (get_or new i 0) l z e)

  pub window-once : (l : List ℕ) (n : ℕ) {mid : List ℕ} → Raised base l (replicate w 0) mid → Raised base (from base (min (n - base) w)) mid new
      → all (λ x. eqb x 1) (take k new) ≡ all (λ v. eqb (cond (ltb v n) 1 0 + times v l) 1) (from base k)
  window-once l n a b = window-all (λ x. eqb x 1) (λ v. eqb (cond (ltb v n) 1 0 + times v l) 1) new base k
      (omega (arith, r.size, length-replicate {A = ℕ} w 0)) each
    where
      f : List ℕ
      f = from base (min (n - base) w)

      r : Raised base (l ++ f) (replicate w 0) new
      r = raised-on a b

      inputs : (i : ℕ) → i < k → times (base + i) f ≡ cond (ltb (base + i) n) 1 0
      inputs i h = times-row base (min (n - base) w) (base + i) (omega arith)
          ∙ ap (λ (t : Bool). cond t 1 0) (iff (λ t. lt-ltb (base + i) n (omega (arith, ltb-true (base + i) (base + min (n - base) w) t)))
          (λ t. lt-ltb (base + i) (base + min (n - base) w) (omega (arith, ltb-true (base + i) n t))))

      each : (i : ℕ) → i < k → eqb (get_or new i 0) 1 ≡ eqb (cond (ltb (base + i) n) 1 0 + times (base + i) l) 1
      each i h =
          let z = get_or-replicate {A = ℕ} w i 0 0 (omega arith) in
          let e = r.each i (omega (arith, length-replicate {A = ℕ} w 0)) (omega (arith, z)) in
          let t = total-append (λ u. cond (eqb (base + i) u) 1 0) l f in
          let c = inputs i h in
          let a = get_or new i 0 in
          let b = cond (ltb (base + i) n) 1 0 + times (base + i) l in
          iff (λ x. eq-eqb b 1 (omega (arith, e, z, t, c, eqb-true a 1 x))) (λ x. eq-eqb a 1 (omega (arith, e, z, t, c, eqb-true b 1 x)))
