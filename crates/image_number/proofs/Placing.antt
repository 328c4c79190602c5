-- The new numbers in their places: each variable at its own first, then the divisors one after the other. Assumes nothing.
use Prim.Native.Nat.{ℕ, ◌+◌, ◌<◌, ◌≤◌}
use mathlib.Core.Path.{◌≡◌, ◌∙◌}
use mathlib.Core.Logic.{◌⊎◌, inl, inr}
use mathlib.Core.List.{List}
use native.Mathlib.Omega.{arith}
use lib.Dec.{eqb, ltb}
use lib.ListN.{length, get_or, set, length-set}
use lib.Seq.{get_or-set_same, get_or-set_other}
use Rattle.std.proofs.lemmas.List.{get_or_past}
use borrow.Author.Tests.{eqb-true, eqb-false, ltb-true, ltb-false}
use Rattle.sets.proofs.Truth.{decided}
use Rattle.network.specs.Held.{most_variables, number_at}
use Rattle.image_number.specs.Parts.{Wide, Itself, Numbers, Placing}

-- a store, read
stored : (ps : List ℕ) (v x u : ℕ) → v < length ps → ((u ≡ v) × (get_or (set ps v x) u 0 ≡ x)) ⊎ ((u ≡ v → ⊥) × (get_or (set ps v x) u 0 ≡ get_or ps u 0))
stored ps v x u h = elim (decided (eqb u v)) [
  | inl t ↦ let e : u ≡ v = eqb-true u v t in inl (e, rw e (get_or-set_same ps v x 0 h))
  | inr t ↦ inr (eqb-false u v t, get_or-set_other ps v u x 0 (eqb-false u v t))
]

wide-set : {ps : List ℕ} → Wide ps → (v x : ℕ) → v < most_variables → x < most_variables → Wide (set ps v x)
wide-set {ps} w v x h s = record {
  whole = length-set ps v x ∙ w.whole;
  small = λ u. elim (stored ps v x u (omega (arith, w.whole))) [ inl (e, k) ↦ omega arith | inr (e, k) ↦ omega (arith, w.small u) ];
}

-- ---- each at its own

pub itself-all : {ps : List ℕ} → length ps ≡ most_variables → ((v : ℕ) → v < most_variables → get_or ps v 0 ≡ v) → Itself most_variables ps
itself-all {ps} w f = record {
  span = record {
    whole = w;
    small = λ v. elim (decided (ltb v most_variables)) [
      | inl t ↦ let h = ltb-true v most_variables t in omega (arith, f v h)
      | inr t ↦ omega (arith, get_or_past ps v 0 (omega (arith, w, ltb-false v most_variables t)))
    ];
  };
  each = f;
}

-- ---- then the divisors

pub placing-none : (n : ℕ) (order ps : List ℕ) → n ≤ most_variables → Itself most_variables ps → Placing n 0 order ps
placing-none n order ps h i = record { span = i.span; inputs = λ v k. i.each v (omega arith); divisors = λ j k. absurd (omega arith) }

pub placing-next : (n k : ℕ) (order ps : List ℕ) (i : ℕ) → Numbers n k order → i < k → Placing n i order ps
    → {x : ℕ} → x ≡ number_at n i → Placing n (i + 1) order (set ps (get_or order i 0) x)
placing-next n k order ps i z h p {x} f =
    let v = get_or order i 0 in
    let r = z.range i h in
    let inside : v < length ps = omega (arith, r.1, p.span.whole) in
    record {
      span = wide-set p.span v x r.1 (omega (arith, z.variables));
      inputs = λ u b. elim (stored ps v x u inside) [ inl (e, q) ↦ absurd (omega (arith, r.0)) | inr (e, q) ↦ q ∙ p.inputs u b ];
      divisors = λ j b. elim (decided (eqb j i)) [
        | inl t ↦ let e : j ≡ i = eqb-true j i t in rw e (get_or-set_same ps v x 0 inside ∙ f)
        | inr t ↦
            let l : j < i = omega (arith, eqb-false j i t) in
            get_or-set_other ps v (get_or order j 0) x 0 (λ e. z.apart j i l h e) ∙ p.divisors j l
      ];
    }
