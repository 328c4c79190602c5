-- Which divisors a network can take: the test in the words of the laws of extraction, and as the code makes it. Assumes nothing.
use Prim.Native.Nat.{ℕ, ◌/◌, ◌<◌, ◌≤◌}
use mathlib.Core.Path.{◌≡◌, refl, sym, subst}
use mathlib.Core.Logic.{inl, inr, ◌↔◌}
use mathlib.Core.Bool.{true, false, not, ◌&&◌}
use mathlib.Core.List.Memᴰ
use mathlib.Core.List.Memᴰ.{head as here}
use mathlib.Core.List.Memᴰ.{tail as there}
use mathlib.Core.List.{List, [], ◌∷◌}
use native.Mathlib.Omega.{arith}
use lib.Dec.{eqb, ltb}
use borrow.Author.Tests.{ltb-true, ltb-false, eqb-true, eqb-false, lt-ltb, ne_eqb}
use Rattle.sets.{specs.Literal.opposite_of, proofs.Lists.◌∈◌, proofs.Lists.all_in, proofs.Sets.mem-of, proofs.Sets.proper-out}
use Rattle.sets.specs.Sets.{mem, apart, asc, proper, reads_below, before}
use Rattle.sets.proofs.Truth.{both, iff, clash, refuted, decided}
use Rattle.expression.{specs.Expression.expression, proofs.Absorbing.loose-in}
use Rattle.network.{specs.Net.Net, specs.Net.variables, specs.Held.reach, specs.Meaning.Reads, proofs.Numbering.reach-out, proofs.Numbering.reach-in}
use Rattle.extract_laws.specs.Divisor.{Divisor, pair, sum, own, small, sound}
use Rattle.extract_laws.specs.Meaning.{Fit}
use Rattle.extract_laws.proofs.Using.{cube-proper, sum-parts, small-sub, apart-flip}
use Rattle.extract_fit.specs.{Fitness.fitting, Parts.fit_part}

-- ---- the test

-- the divisor's own node is an expression over v variables
record Taking (v : ℕ) (d : Divisor) : Type 0 where
  pub whole : sound d ≡ true
  pub formed : expression (own d) ≡ true
  pub known : (x : ℕ) → Reads (own d) x → x < v

module _ (v : ℕ) (d : Divisor) where
  fitting-out : fitting v d ≡ true → Taking v d
  unfolding fitting
  fitting-out h =
      let p = both (sound d) (expression (own d) && reach v (own d)) h in
      let q = both (expression (own d)) (reach v (own d)) p.1 in
      record { whole = p.0; formed = q.0; known = reach-out v (own d ∷ []) (rw q.1) (own d) (here refl) }

  fitting-in : Taking v d → fitting v d ≡ true
  unfolding fitting
  fitting-in t = rw (t.whole, t.formed) (both (reach v (own d)) true
      (reach-in v (own d ∷ []) (λ f m x r. t.known x (subst (λ g. Reads g x) (Memᴰ.eq_of_singleton m) r)))).0

-- what more variables are there for
pub fitting-more : (v w : ℕ) (d : Divisor) → v ≤ w → fitting v d ≡ true → fitting w d ≡ true
fitting-more v w d l h =
    let t = fitting-out v d h in
    fitting-in w d (record { whole = t.whole; formed = t.formed; known = λ x r. omega (arith, t.known x r) })

-- the test is passed by exactly the divisors that a network of so many variables can take
pub fitting-iff : (n : Net) (d : Divisor) → (fitting (variables n) d ≡ true) ↔ Fit n d
fitting-iff n d = (
  λ h. let t = fitting-out (variables n) d h in record { whole = t.whole; formed = t.formed; known = t.known },
  λ f. fitting-in (variables n) d (record { whole = f.whole; formed = f.formed; known = f.known }),
)

-- ---- pairs

module _ (v p q : ℕ) where
  -- the second literal is of a variable below v, and the first is smaller
  pub pair-below : fitting v (pair p q) ≡ true → (p < q) × (q / 2 < v)
  pair-below h =
      let t = fitting-out v (pair p q) h in
      (ltb-true p q t.whole, t.known (q / 2) (p ∷ q ∷ [], here refl, (q, there (here refl), refl)))

  pub pair-falls : q ≤ p → false ≡ fitting v (pair p q)
  pair-falls l = sym (refuted (λ h. let b = (pair-below h).0 in omega arith))

  pub pair-both-ways : opposite_of p ≡ q → false ≡ fitting v (pair p q)
  pair-both-ways e = sym (refuted (λ h. clash (mem-of (there (here refl)))
      (subst (λ x. mem x (p ∷ q ∷ []) ≡ false) e (proper-out (p ∷ q ∷ []) p (cube-proper (own (pair p q)) (fitting-out v (pair p q) h).formed (here refl))
      (mem-of (here refl))))))

  module _ (l : p < q) (k : opposite_of p ≡ q → ⊥) where
    pair-proper : proper (p ∷ q ∷ []) ≡ true
    unfolding proper mem
    pair-proper = rw (
      ne_eqb (opposite_of p) p (λ e. omega arith),
      ne_eqb (opposite_of p) q k,
      ne_eqb (opposite_of q) p (λ e. k (omega arith)),
      ne_eqb
          (opposite_of q) q (λ e. omega arith),
    )

    pub pair_fits : ltb (q / 2) v ≡ fitting v (pair p q)
    unfolding fitting
    pair_fits = iff
        (λ e. let h = ltb-true (q / 2) v e in rw (lt-ltb p q l, pair-proper, lt-ltb (p / 2) v (omega arith), e))
        (λ h. lt-ltb (q / 2) v (pair-below h).1)

  -- the tests, one after the other
  pub pair-tests : fitting v (pair p q) ≡ ((ltb p q && not (eqb (opposite_of p) q)) && ltb (q / 2) v)
  pair-tests = elim (decided (ltb p q)) [
    | inl h ↦ elim (decided (eqb (opposite_of p) q)) [
      | inl e ↦ rw (h, e) (sym (pair-both-ways (eqb-true (opposite_of p) q e)))
      | inr e ↦ rw (h, e) (sym (pair_fits (ltb-true p q h) (eqb-false (opposite_of p) q e)))
    ]
    | inr h ↦ rw h (sym (pair-falls (ltb-false p q h)))
  ]

-- ---- the parts of a sum

part_out : (v : ℕ) (a : List ℕ) → fit_part v a ≡ true → (small a ≡ true) × (proper a ≡ true) × (reads_below v a ≡ true)
part_out v a h =
    let p = both (small a) (proper a && reads_below v a) h in
    let q = both (proper a) (reads_below v a) p.1 in
    (p.0, q.0, q.1)

-- ---- sums

-- what is left to test of two parts that are cubes
pub sum_fits : (v : ℕ) (a b : List ℕ) → asc a ≡ true → asc b ≡ true → fitting v (sum a b) ≡ (fit_part v a && (fit_part v b && (apart a b && before a b)))
unfolding fitting
sum_fits v a b sa sb = iff into back
  where
    into : fitting v (sum a b) ≡ true → (fit_part v a && (fit_part v b && (apart a b && before a b))) ≡ true
    into h =
        let t = fitting-out v (sum a b) h in
        let w = sum-parts a b t.whole in
        let known : (c : List ℕ) → c ∈ own (sum a b) → reads_below v c ≡ true = λ c m. all_in (λ l. ltb (l / 2) v) c
        (λ l i. lt-ltb (l / 2) v (t.known (l / 2) (c, m, (l, i, refl)))) in
        rw (
          w.small-a,
          cube-proper (own (sum a b)) t.formed (here refl),
          known a (here refl),
          w.small_b,
          cube-proper (own (sum a b)) t.formed (there (here refl)),
          known b (there (here refl)),
          w.disjoint,
        ) w.ordered

    back : (fit_part v a && (fit_part v b && (apart a b && before a b))) ≡ true → fitting v (sum a b) ≡ true
    back h =
        let p = both (fit_part v a) _ h in
        let q = both (fit_part v b) _ p.1 in
        let r = both (apart a b) (before a b) q.1 in
        let c = part_out v a p.0 in
        let d = part_out v b q.0 in
        let e = loose-in a b (small-sub a b c.0 r.0) (small-sub b a d.0 (apart-flip a b r.0)) in
        rw (sa, sb, r.0, c.0, d.0, r.1, c.1, d.1, e, c.2, d.2)
