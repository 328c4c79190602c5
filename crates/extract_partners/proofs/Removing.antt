-- The removals of a cube: they are its parts of one or two literals, each once. Assumes nothing.
use Prim.Native.Nat.{ℕ, suc, ◌+◌, ◌*◌, ◌<◌}
use mathlib.Core.Path.{◌≡◌, refl, sym, ap, ◌∙◌, subst}
use mathlib.Core.{Logic.inl, Logic.inr, Bool.true, Bool.◌&&◌}
use mathlib.Core.List.Memᴰ
use mathlib.Core.List.Memᴰ.{head as here}
use mathlib.Core.List.Memᴰ.{tail as there}
use mathlib.Core.List.{List, [], ◌∷◌, ◌++◌, map}
use native.Mathlib.Nat.{mul-suc, suc-mul}
use native.Mathlib.Omega.{arith}
use lib.Dec.{ltb, eqb}
use lib.ListN.{length, length-append, length-map}
use borrow.Author.Tests.{ltb-true, lt-ltb}
use Rattle.sets.{specs.Lists.pairwise, proofs.Ordering.before_head, proofs.Ordering.before_same}
use Rattle.sets.specs.Sets.{mem, sub, asc, before}
use Rattle.sets.proofs.Truth.{both, clash, or_right}
use Rattle.sets.proofs.Lists.{◌∈◌, all-out, map-in, map-out, ahead, pairwise_append, pairwise_map, all_in}
use Rattle.sets.proofs.Sets.{mem-of, of_mem, sub_in, sub_out, sub_trans, tail-asc}
use Rattle.extract_laws.specs.Divisor.{small}
use Rattle.extract_partners.specs.Removal.{removals}

-- one or two literals of c, ascending
pub record Removal (c a : List ℕ) : Type 0 where
  pub ascends : asc a ≡ true
  pub inside : sub a c ≡ true
  pub few : small a ≡ true

removal-one : {x : ℕ} {c : List ℕ} → x ∈ c → Removal c (x ∷ [])
unfolding sub small
removal-one m = record { ascends = refl; inside = rw (mem-of m); few = refl }

removal-two : {x y : ℕ} {c : List ℕ} → x ∈ c → y ∈ c → x < y → Removal c (x ∷ y ∷ [])
unfolding sub small
removal-two {x = x} {y = y} m n l = record { ascends = rw (lt-ltb x y l); inside = rw (mem-of m, mem-of n); few = refl }

sub-tail : (p : ℕ) (c : List ℕ) → sub c (p ∷ c) ≡ true
unfolding mem
sub-tail p c = sub_in c (p ∷ c) (λ z m. or_right (eqb z p) (mem z c) m)

pub removal-out : (c : List ℕ) → asc c ≡ true → {a : List ℕ} → a ∈ removals c → Removal c a
unfolding removals
removal-out [] h m = absurd (Memᴰ.not-nil m)
removal-out (p ∷ c) h {a} m = elim (Memᴰ.cases_cons m) [
  | inl e ↦ subst (Removal (p ∷ c)) (sym e) (removal-one (here refl))
  | inr n ↦ elim (Memᴰ.append_cases (map (λ q. p ∷ q ∷ []) c) n) [
    | inl i ↦
        let (q, j, e) = map-out (λ q. p ∷ q ∷ []) c i in
        subst (Removal (p ∷ c)) (sym e) (removal-two (here refl) (there j) (ltb-true p q (all-out (ltb p) j (ahead ltb p c h).0)))
    | inr i ↦
        let r = removal-out c (tail-asc p c h) i in
        record { ascends = r.ascends; inside = sub_trans a c (p ∷ c) r.inside (sub-tail p c); few = r.few }
  ]
]

one_in : {x : ℕ} {c : List ℕ} → x ∈ c → (x ∷ []) ∈ removals c
unfolding removals
one_in (here e) = here (ap (λ z. z ∷ []) e)
one_in (there {x = p} {xs = c} m) = there (Memᴰ.append_right (map (λ q. p ∷ q ∷ []) c) (one_in m))

two_in : {x y : ℕ} (c : List ℕ) → asc c ≡ true → x ∈ c → y ∈ c → x < y → (x ∷ y ∷ []) ∈ removals c
unfolding removals
two_in [] h m n l = absurd (Memᴰ.not-nil m)
two_in {x} {y} (p ∷ c) h m n l =
    let low : (z : ℕ) → z ∈ c → p < z = λ z i. ltb-true p z (all-out (ltb p) i (ahead ltb p c h).0) in
    elim (Memᴰ.cases_cons m) [
      | inl e ↦ elim (Memᴰ.cases_cons n) [
        | inl i ↦ absurd (omega arith)
        | inr i ↦ there (Memᴰ.append_left (removals c) (Memᴰ.cast (ap (λ z. z ∷ y ∷ []) e) (map-in (λ q. p ∷ q ∷ []) i)))
      ]
      | inr e ↦ elim (Memᴰ.cases_cons n) [
        | inl i ↦ absurd (omega (arith, low x e))
        | inr i ↦ there (Memᴰ.append_right (map (λ q. p ∷ q ∷ []) c) (two_in c (tail-asc p c h) e i l))
      ]
    ]

pub removal-in : (c a : List ℕ) → asc c ≡ true → Removal c a → a ∈ removals c
unfolding small
removal-in c [] h r = absurd (clash r.few refl)
removal-in c (x ∷ []) h r = one_in (of_mem x c (sub_out (x ∷ []) c x r.inside (mem-of (here refl))))
removal-in c (x ∷ y ∷ []) h r =
    two_in c h (of_mem x c (sub_out (x ∷ y ∷ []) c x r.inside (mem-of (here refl))))
    (of_mem y c (sub_out (x ∷ y ∷ []) c y r.inside (mem-of (there (here refl)))))
    (ltb-true x y (both (ltb x y) true (both (ltb x y && true) true r.ascends).0).0)
removal-in c (x ∷ y ∷ z ∷ l) h r =
    let n = length (x ∷ y ∷ z ∷ l) in
    let m : n < 3 = ltb-true n 3 (both (ltb 0 n) (ltb n 3) r.few).1 in
    absurd (omega arith)

before_more : (p q : ℕ) → before (p ∷ []) (p ∷ q ∷ []) ≡ true
unfolding before
before_more p q = before_same p [] (q ∷ [])

-- they stand in cube order
pub removals-ordered : (c : List ℕ) → asc c ≡ true → pairwise before (removals c) ≡ true
unfolding removals small
removals-ordered [] h = refl
removals-ordered (p ∷ c) h =
    let low : (q : ℕ) → q ∈ c → p < q = λ q i. ltb-true p q (all-out (ltb p) i (ahead ltb p c h).0) in
    let later : (a : List ℕ) → a ∈ removals c → (x : List ℕ) → before (p ∷ x) a ≡ true = λ a i x. above c (tail-asc p c h) low a i x in
    rw (all_in (before (p ∷ [])) (map (λ q. p ∷ q ∷ []) c ++ removals c) (λ a i.
    elim (Memᴰ.append_cases (map (λ q. p ∷ q ∷ []) c) i) [
      | inl j ↦ let (q, k, e) = map-out (λ q. p ∷ q ∷ []) c j in rw e (before_more p q)
      | inr j ↦ later a j []
    ]))
    (pairwise_append before (map (λ q. p ∷ q ∷ []) c) (removals c)
    (pairwise_map ltb before (λ q. p ∷ q ∷ []) c (λ x y i j l. before_same p (x ∷ []) (y ∷ []) ∙ before_head x y [] [] (ltb-true x y l)) (tail-asc p c h))
    (removals-ordered c (tail-asc p c h))
    (λ x y i j. let (q, k, e) = map-out (λ q. p ∷ q ∷ []) c i in rw e (later y j (q ∷ []))))
  where
    above : (c : List ℕ) → asc c ≡ true → ((q : ℕ) → q ∈ c → p < q) → (a : List ℕ) → a ∈ removals c → (x : List ℕ) → before (p ∷ x) a ≡ true
    above c g low [] i x = absurd (clash (removal-out c g i).few refl)
    above c g low (q ∷ a) i x =
        before_head p q x a (low q (of_mem q c (sub_out (q ∷ a) c q (removal-out c g i).inside (mem-of (here refl)))))

-- n literals have n (n + 1) / 2 of them
pub removals-length : (c : List ℕ) → 2 * length (removals c) ≡ length c * (length c + 1)
unfolding removals
removals-length [] = refl
removals-length (p ∷ c) =
    let n = length c in
    let e : suc n * (suc n + 1) ≡ n * (suc n + 1) + (suc n + 1) = suc-mul n (suc n + 1) in
    let k : suc n + 1 ≡ suc (n + 1) = omega arith in
    let i : n * (suc n + 1) ≡ n * (n + 1) + n = ap (n *◌) k ∙ mul-suc n (n + 1) in
    omega (arith, removals-length c, length-append (map (λ q. p ∷ q ∷ []) c) (removals c), length-map c (λ q. p ∷ q ∷ []))
