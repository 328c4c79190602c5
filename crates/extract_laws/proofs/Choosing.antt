-- The order of divisors is strict and total, so one divisor at most is the best, and the choice finds it. Assumes nothing.
use mathlib.Core.Path.{◌≡◌, refl, sym, ap, ap₂, ◌∙◌, subst}
use mathlib.Core.Logic.{inl, inr, ◌↔◌}
use mathlib.Core.Bool.{Bool, true, false, cond, not, ◌&&◌}
use mathlib.Core.List.Memᴰ
use mathlib.Core.List.Memᴰ.{head as here}
use mathlib.Core.List.Memᴰ.{tail as there}
use mathlib.Core.List.{List, [], ◌∷◌}
use mathlib.Core.Option.{none, some, none-ne-some}
use native.Mathlib.Omega.{arith}
use lib.Dec.{ltb}
use lib.IntN.{ℤ, pos, negsuc}
use lib.Signed.{lt_z}
use borrow.Author.Tests.{ltb-true, ltb-false, lt-ltb, le-ltb}
use Rattle.sets.{specs.Sets.before, proofs.Lists.◌∈◌}
use Rattle.sets.proofs.Truth.{neither, decided, clash}
use Rattle.sets.proofs.Orders.{Strict, asym, not_after, lex-true, lex-self, lex-trans, lex-linear, ltb-order, before-order}
use Rattle.network.specs.Net.{Net}
use Rattle.extract_laws.specs.Divisor.{Divisor, pair, sum}
use Rattle.extract_laws.specs.Extract.{weight, candidates, sooner, better, top, best_of, best}
use Rattle.extract_laws.specs.Meaning.{ComesFirst, Foremost}
use Rattle.extract_laws.specs.Meaning.ComesFirst.{pair_then_sum, first_literal, second_literal, first_part, second_part}

-- ---- the orders

-- of weights, the greater first
pub heavier-order : Strict (λ u v. lt_z v u)
heavier-order = record { irrefl = irr; trans = tr; linear = li }
  where
    irr : (x : ℤ) → lt_z x x ≡ false
    irr (pos a) = le-ltb a a (omega arith)
    irr (negsuc a) = le-ltb a a (omega arith)

    tr : (x y z : ℤ) → lt_z y x ≡ true → lt_z z y ≡ true → lt_z z x ≡ true
    tr (pos a) (pos b) (pos c) h k = omega (arith, ltb-true, lt-ltb)
    tr (pos a) (pos b) (negsuc c) h k = refl
    tr (pos a) (negsuc b) (pos c) h k = clash k refl
    tr (pos a) (negsuc b) (negsuc c) h k = refl
    tr (negsuc a) (pos b) z h k = clash h refl
    tr (negsuc a) (negsuc b) (pos c) h k = clash k refl
    tr (negsuc a) (negsuc b) (negsuc c) h k = omega (arith, ltb-true, lt-ltb)

    li : (x y : ℤ) → lt_z y x ≡ false → lt_z x y ≡ false → x ≡ y
    li (pos a) (pos b) h k = ap pos (omega (arith, ltb-false))
    li (pos a) (negsuc b) h k = clash refl h
    li (negsuc a) (pos b) h k = clash refl k
    li (negsuc a) (negsuc b) h k = ap negsuc (omega (arith, ltb-false))

-- pairs before sums, then the smaller literal or part first, then the second
pub sooner-order : Strict sooner
unfolding sooner
sooner-order = record { irrefl = irr; trans = tr; linear = li }
  where
    irr : (d : Divisor) → sooner d d ≡ false
    irr (pair p q) = before-order.irrefl (p ∷ q ∷ [])
    irr (sum a b) = lex-self before before-order a (before b b) ∙ before-order.irrefl b

    tr : (d e g : Divisor) → sooner d e ≡ true → sooner e g ≡ true → sooner d g ≡ true
    tr (pair p q) (pair r s) (pair t u) h k = before-order.trans (p ∷ q ∷ []) (r ∷ s ∷ []) (t ∷ u ∷ []) h k
    tr (pair p q) (pair r s) (sum c d) h k = refl
    tr (pair p q) (sum a b) (pair t u) h k = clash k refl
    tr (pair p q) (sum a b) (sum c d) h k = refl
    tr (sum a b) (pair r s) g h k = clash h refl
    tr (sum a b) (sum c d) (pair t u) h k = clash k refl
    tr (sum a b) (sum c d) (sum e g) h k = lex-trans before before-order a c e (before b d) (before d g) (before b g) (before-order.trans b d g) h k

    li : (d e : Divisor) → sooner d e ≡ false → sooner e d ≡ false → d ≡ e
    li (pair p q) (pair r s) h k = let e = before-order.linear (p ∷ q ∷ []) (r ∷ s ∷ []) h k in cc
    li (pair p q) (sum c d) h k = clash refl h
    li (sum a b) (pair r s) h k = clash refl k
    li (sum a b) (sum c d) h k = let q = lex-linear before before-order a c (before b d) (before d b) h k in
        ap₂ sum q.0 (before-order.linear b d q.1 q.2)

-- and that is what the test decides
pub sooner-iff : (d e : Divisor) → (sooner d e ≡ true) ↔ ComesFirst d e
unfolding sooner before
sooner-iff d e = (out d e, into d e)
  where
    out : (d e : Divisor) → sooner d e ≡ true → ComesFirst d e
    out (pair p q) (pair r s) h = elim (lex-true ltb ltb-order p r _ h) [
      | inl k ↦ first_literal (ltb-true p r k)
      | inr (i, k) ↦ elim (lex-true ltb ltb-order q s _ k) [ inl m ↦ second_literal i (ltb-true q s m) | inr (j, m) ↦ clash m refl ]
    ]
    out (pair p q) (sum c d) h = pair_then_sum
    out (sum a b) (pair r s) h = clash h refl
    out (sum a b) (sum c d) h = elim (lex-true before before-order a c _ h) [ inl k ↦ first_part k | inr (i, k) ↦ second_part i k ]

    into : (d e : Divisor) → ComesFirst d e → sooner d e ≡ true
    into _ _ pair_then_sum = refl
    into _ _ (first_literal {p} {q} {r} {s} k) = rw (lt-ltb p r k)
    into _ _ (second_literal {p} {q} {r} {s} i k) = rw (i, lex-self ltb ltb-order r (before (q ∷ []) (s ∷ [])), lt-ltb q s k)
    into _ _ (first_part k) = rw k
    into _ _ (second_part {a} {b} {c} {d} i k) = rw (i, lex-self before before-order c (before b d), k)

-- a greater weight, or on a tie the sooner one
pub better-order : (n : Net) → Strict (better n)
unfolding better
better-order n = record {
  irrefl = λ d. lex-self _ heavier-order (weight n d) (sooner d d) ∙ sooner-order.irrefl d;
  trans = λ d e g. lex-trans _ heavier-order (weight n d) (weight n e) (weight n g) (sooner d e) (sooner e g) (sooner d g) (sooner-order.trans d e g);
  linear = λ d e h k. let q = lex-linear _ heavier-order (weight n d) (weight n e) (sooner d e) (sooner e d) h k in sooner-order.linear d e q.1 q.2;
}

-- ---- the first of a list in an order

module _ {A : Type 0} (r : A → A → Bool) (o : Strict r) where
  pick-in : (b : Bool) (x y : A) (l : List A) {z : A} → z ∈ (cond b y x ∷ l) → z ∈ (x ∷ y ∷ l)
  pick-in true x y l m = there m
  pick-in false x y l (here e) = here e
  pick-in false x y l (there m) = there (there m)

  -- it is one of them, and none comes before it
  pub top_in : (x : A) (l : List A) → top r x l ∈ (x ∷ l)
  top_in x [] = here refl
  top_in x (y ∷ l) = pick-in (r y x) x y l (top_in (cond (r y x) y x) l)

  picked : (x y : A) → (r x (cond (r y x) y x) ≡ false) × (r y (cond (r y x) y x) ≡ false)
  picked x y = elim (decided (r y x)) [ inl e ↦ rw e (asym r o y x e, o.irrefl y) | inr e ↦ rw e (o.irrefl x, e) ]

  pub top-first : (x : A) (l : List A) {y : A} → y ∈ (x ∷ l) → r y (top r x l) ≡ false
  top-first x [] m = elim (Memᴰ.cases_cons m) [ inl e ↦ rw e (o.irrefl x) | inr i ↦ absurd (Memᴰ.not-nil i) ]
  top-first x (z ∷ l) {y} m = go m (λ w i. top-first (cond (r z x) z x) l i)
    where
      t : A
      t = cond (r z x) z x

      go : y ∈ (x ∷ z ∷ l) → ((w : A) → w ∈ (t ∷ l) → r w (top r t l) ≡ false) → r y (top r t l) ≡ false
      go (here e) k = rw e (not_after r o x t _ (picked x z).0 (k t (here refl)))
      go (there (here e)) k = rw e (not_after r o z t _ (picked x z).1 (k t (here refl)))
      go (there (there i)) k = k y (there i)

-- ---- the best divisor

module _ (n : Net) where
  -- the best is the candidate that none is better than
  pub best-in : (d : Divisor) → d ∈ candidates n → ((e : Divisor) → e ∈ candidates n → better n e d ≡ false) → Foremost n d
  unfolding better
  best-in d m h = record {
    chosen = m;
    heaviest = λ e i. (neither (lt_z (weight n d) (weight n e)) _ (h e i)).0;
    first = λ e i p.
        let q : (not (lt_z (weight n e) (weight n d)) && sooner e d) ≡ false = (neither (lt_z (weight n d) (weight n e)) _ (h e i)).1 in
        let z : lt_z (weight n e) (weight n d) ≡ false = rw p (heavier-order.irrefl (weight n d)) in
        rw z at q;
  }

  -- which none is better than
  pub best-out : (d : Divisor) → Foremost n d → (e : Divisor) → e ∈ candidates n → better n e d ≡ false
  unfolding better
  best-out d b e i = rw (b.heaviest e i) (elim (decided (lt_z (weight n e) (weight n d))) [
    | inl t ↦ rw t
    | inr t ↦ rw (t, b.first e i (sym (heavier-order.linear (weight n d) (weight n e) t (b.heaviest e i))))
  ])

  -- and there is one such at most
  pub best-unique : (d e : Divisor) → Foremost n d → Foremost n e → d ≡ e
  best-unique d e p q = (better-order n).linear d e (best-out e q d p.chosen) (best-out d p e q.chosen)

  -- a step takes the greatest weight, on a tie the first divisor
  pub best-iff : (d : Divisor) → (best n ≡ some d) ↔ Foremost n d
  unfolding best best_of
  best-iff d = go (candidates n) refl
    where
      found : (e : Divisor) (l : List Divisor) → candidates n ≡ e ∷ l → Foremost n (top (better n) e l)
      found e l p = best-in (top (better n) e l) (rw p (top_in (better n) (better-order n) e l))
          (λ g m. top-first (better n) (better-order n) e l (subst (g ∈◌) p m))

      go : (l : List Divisor) → candidates n ≡ l → (best_of n l ≡ some d) ↔ Foremost n d
      go [] p = (λ h. absurd (none-ne-some d h), λ b. absurd (Memᴰ.not-nil (subst (d ∈◌) p b.chosen)))
      go (e ∷ l) p = (λ h. let q : top (better n) e l ≡ d = cc in rw q at (found e l p), λ b. ap some (best-unique (top (better n) e l) d (found e l p) b))

  -- there is none only where there is no divisor
  pub best_none : best n ≡ none → (d : Divisor) → d ∈ candidates n → ⊥
  unfolding best best_of
  best_none h d m = go (candidates n) h m
    where
      go : (l : List Divisor) → best_of n l ≡ none → d ∈ l → ⊥
      go [] h m = Memᴰ.not-nil m
      go (e ∷ l) h m = none-ne-some _ (sym h)
