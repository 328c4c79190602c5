-- How far bytes go with the parts of a line: some line of the parts begins with so many of them, and none with more. Assumes nothing.
use Prim.Native.Nat.{ℕ, zero, suc, ◌+◌, ◌-◌, ◌≤◌}
use mathlib.Core.Path.{◌≡◌, refl, sym, ap, subst}
use mathlib.Core.Logic.{◌⊎◌, inl, inr}
use mathlib.Core.Bool.{Bool, true, false, cond}
use mathlib.Core.List.{List, [], ◌∷◌, ◌++◌, append-nil, append_assoc}
use mathlib.Core.Option.{Option, none, some}
use native.Mathlib.Nat.{sub-zero, zero-add, suc-add, suc-sub-suc}
use native.Mathlib.Omega.{arith}
use lib.Dec.{leb}
use lib.ListN.{length, take, drop, replicate, length-append, length-replicate}
use lib.Seq.{length-take-le, take-add, drop_at}
use borrow.Author.Tests.{leb-true}
use Rattle.sets.specs.Lists.{all}
use Rattle.sets.proofs.{Truth.both, Truth.together, Truth.refuted, Lists.all_join, Lists.all-parts}
use Rattle.table_columns.specs.Forms.{Part, front, limit, reach}
use Rattle.table_columns.proofs.Counting.{front-none, front-bound, taken, reach-enough}

-- ---- the bytes at the front

front_out : (f : ℕ → Bool) (k : ℕ) (t : List ℕ) → (front f k t ≤ k) × (all f (take (front f k t) t) ≡ true)
unfolding front
front_out f zero t = (omega arith, refl)
front_out f (suc k) [] = (omega arith, refl)
front_out f (suc k) (b ∷ t) = go (f b) refl (front_out f k t)
  where
    go : (e : Bool) → f b ≡ e → (front f k t ≤ k) × (all f (take (front f k t) t) ≡ true)
        → (cond e (suc (front f k t)) 0 ≤ suc k) × (all f (take (cond e (suc (front f k t)) 0) (b ∷ t)) ≡ true)
    go true e h = (omega arith, together (f b) (all f (take (front f k t) t)) e h.1)
    go false e h = (omega arith, refl)

-- they go on after those that pass
front-in : (f : ℕ → Bool) (a t : List ℕ) (k : ℕ) → all f a ≡ true → length a ≤ k → front f k (a ++ t) ≡ length a + front f (k - length a) t
unfolding front
front-in f [] t k h l = rw (sub-zero, zero-add)
front-in f (x ∷ a) t zero h l = absurd (omega arith)
front-in f (x ∷ a) t (suc k) h l = let w = both (f x) (all f a) h in
    rw (w.0, suc-sub-suc, suc-add) (ap suc (front-in f a t k w.1 (omega arith)))

-- ---- a part

-- p takes a: bytes that pass its test, neither too few nor too many
pub record Takes (p : Part) (a : List ℕ) : Type 0 where
  pub each : all p.test a ≡ true
  pub enough : p.least ≤ length a
  pub few : length a ≤ limit p.most (length a)

-- what keeps to a limit keeps to it with fewer, and filled up to what keeps to it
limit-in : (o : Option ℕ) (k l n : ℕ) → l ≤ limit o l → k ≤ l → k ≤ n → k ≤ limit o n
limit-in none k l n h i j = j
limit-in (some m) k l n h i j = omega arith

limit-out : (o : Option ℕ) (k l n : ℕ) → k ≤ limit o n → l ≤ limit o l → k + (l - k) ≤ limit o (k + (l - k))
limit-out none k l n h i = omega arith
limit-out (some m) k l n h i = omega arith

-- what it takes of t, enough or not
taken_out : (p : Part) (t : List ℕ) → (taken p t ≤ limit p.most (length t)) × (taken p t ≤ length t) × (all p.test (take (taken p t) t) ≡ true)
taken_out p t = let m = limit p.most (length t) in let h = front_out p.test m t in (h.0, front-bound p.test m t, h.1)

reach-taken : (p : Part) (ps : List Part) (t : List ℕ) → taken p t ≤ reach (p ∷ ps) t
unfolding reach
reach-taken p ps t = let k = taken p t in
    elim (leb p.least k) as (λ e. k ≤ cond e (k + reach ps (drop k t)) k) [ true ↦ omega arith | false ↦ omega arith ]

-- ---- lines of parts

-- g is what the parts take, one after the other
abbrev pub Fits : List Part → List ℕ → Type 0
Fits [] g = g ≡ []
Fits (p ∷ ps) g = (a : List ℕ) × (b : List ℕ) × Takes p a × (g ≡ a ++ b) × Fits ps b

-- some byte passes the test, and the most is no less than the least
pub record Sound (p : Part) : Type 0 where
  pub byte : ℕ
  pub passes : p.test byte ≡ true
  pub room : p.least ≤ limit p.most p.least

-- p takes no more than it must, or no line of the parts after it begins with a byte that p takes
abbrev pub Apart : Part → List Part → Type 0
Apart p ps = (p.most ≡ some p.least) ⊎ ((x : ℕ) (b : List ℕ) → p.test x ≡ true → Fits ps (x ∷ b) → ⊥)

abbrev pub Clear : List Part → Type 0
Clear [] = Unit {0}
Clear (p ∷ ps) = Sound p × Apart p ps × Clear ps

-- ---- some line begins with what the parts reach

all_replicate : (f : ℕ → Bool) (n x : ℕ) → f x ≡ true → all f (replicate n x) ≡ true
all_replicate f zero x h = refl
all_replicate f (suc n) x h = together (f x) (all f (replicate n x)) h (all_replicate f n x h)

-- a part that has too few is filled up with the byte that passes
module _ (p : Part) (ps : List Part) (s : Sound p) (t : List ℕ) where
  abbrev more : List ℕ
  more = replicate (p.least - taken p t) s.byte

  filled : Takes p (take (taken p t) t ++ more)
  filled =
      let k = taken p t in
      let f = taken_out p t in
      let n : length (take k t ++ more) ≡ k + (p.least - k) =
      omega (arith, length-append (take k t) more, length-take-le k t f.1, length-replicate (p.least - k) s.byte) in
      record {
        each = all_join p.test (take k t) more f.2 (all_replicate p.test (p.least - k) s.byte s.passes);
        enough = omega arith;
        few = rw n (limit-out p.most k p.least (length t) f.0 s.room);
      }

  begins-on : (r : ℕ) (u : List ℕ) → p.least ≤ taken p t → Fits ps (take r (drop (taken p t) t) ++ u) → Fits (p ∷ ps) (take (taken p t + r) t ++ u)
  begins-on r u h q =
      let k = taken p t in
      let z : p.least - k ≡ 0 = omega arith in
      let e : take k t ≡ take k t ++ more = rw (z, append-nil) in
      let v = take r (drop k t) in
      (take k t ++ more, v ++ u, filled, rw (take-add k r t, append_assoc (take k t) v u) (ap (◌++ (v ++ u)) e), q)

  begins-off : (b : List ℕ) → Fits ps b → Fits (p ∷ ps) (take (taken p t) t ++ (more ++ b))
  begins-off b q = (take (taken p t) t ++ more, b, filled, sym (append_assoc (take (taken p t) t) more b), q)

pub reach-begins : (ps : List Part) → Clear ps → (t : List ℕ) → (rest : List ℕ) × Fits ps (take (reach ps t) t ++ rest)
unfolding reach
reach-begins [] c t = ([], refl)
reach-begins (p ∷ ps) c t =
    let k = taken p t in
    let q = reach-begins ps c.2 (drop k t) in
    let w = reach-begins ps c.2 [] in
    (elim (leb p.least k) as
    (λ e. leb p.least k ≡ e → (rest : List ℕ) × Fits (p ∷ ps) (take (cond e (k + reach ps (drop k t)) k) t ++ rest)) [
      | true ↦ λ e. (q.0, begins-on p ps c.0 t (reach ps (drop k t)) q.0 (leb-true p.least k e) q.1)
      | false ↦ λ e. let b = take (reach ps []) [] ++ w.0 in (more p ps c.0 t ++ b, begins-off p ps c.0 t b w.1)
    ]) refl

-- ---- and none with more

-- of two beginnings of a line the first is within the second, or goes on past it
cut : (u z a b : List ℕ) → u ++ z ≡ a ++ b
    → ((y : List ℕ) × (a ≡ u ++ y)) ⊎ ((x : ℕ) × (y : List ℕ) × (u ≡ a ++ (x ∷ y)) × (b ≡ x ∷ (y ++ z)))
cut [] z a b e = inl (a, refl)
cut (x ∷ u) z [] b e = inr (x, u, refl, sym e)
cut (x ∷ u) z (y ∷ a) b e = elim (cut u z a b (cc)) [
  | inl w ↦ inl (w.0, cc w.1)
  | inr w ↦ inr (w.0, w.1, cc w.2, w.3)
]

module _ (p : Part) (ps : List Part) (v : List ℕ) where
  -- within what p takes
  most-in : (u y : List ℕ) → Takes p (u ++ y) → length u ≤ reach (p ∷ ps) (u ++ v)
  most-in u y k =
      let n = length-append u y in
      let l = limit-in p.most (length u) (length (u ++ y)) (length (u ++ v)) k.few (omega arith) (omega (arith, length-append u v)) in
      let w = all-parts p.test u y k.each in
      omega (arith, reach-taken p ps (u ++ v), front-in p.test u v (limit p.most (length (u ++ v))) w.0 l)

  -- past it
  most-on : Apart p ps → (a y z : List ℕ) (x : ℕ) → Takes p a → Fits ps (x ∷ (y ++ z)) → suc (length y) ≤ reach ps (x ∷ (y ++ v))
      → length a + suc (length y) ≤ reach (p ∷ ps) (a ++ (x ∷ (y ++ v)))
  most-on o a y z x k h i =
      let r = x ∷ (y ++ v) in
      let m = limit p.most (length (a ++ r)) in
      let l = limit-in p.most (length a) (length a) (length (a ++ r)) k.few (omega arith) (omega (arith, length-append a r)) in
      let s : taken p (a ++ r) ≡ length a =
      omega (arith, front-in p.test a r m k.each l, front-none p.test (m - length a) x (y ++ v) (stop o)) in
      omega (arith, reach-enough p ps (a ++ r) (omega (arith, k.enough)), ap (reach ps) (drop_at a r (taken p (a ++ r)) (sym s)))
    where
      stop : Apart p ps → (limit p.most (length (a ++ (x ∷ (y ++ v)))) - length a ≡ 0) ⊎ (p.test x ≡ false)
      stop (inl e) = inl (omega (arith, k.enough, ap (λ (q : Option ℕ). limit q (length (a ++ (x ∷ (y ++ v))))) e))
      stop (inr f) = inr (refuted (λ e. f x (y ++ z) e h))

pub reach-most : (ps : List Part) → Clear ps → (u v z : List ℕ) → Fits ps (u ++ z) → length u ≤ reach ps (u ++ v)
reach-most [] c u v z h = omega (arith, ap length h, length-append u z)
reach-most (p ∷ ps) c u v z h = elim (cut u z h.0 h.1 h.3) [
  | inl w ↦ most-in p ps v u w.0 (subst (Takes p) w.1 h.2)
  | inr w ↦ let q = subst (Fits ps) w.3 h.4 in
      rw (w.2, append_assoc, length-append) (most-on p ps v c.1 h.0 w.1 z w.0 h.2 q (reach-most ps c.2 (w.0 ∷ w.1) v z q))
]
