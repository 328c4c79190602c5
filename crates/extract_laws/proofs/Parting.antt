-- Two cubes without their common literals: they are a use of the sum that they make, and the two cubes of a use make its sum. Assumes nothing.
use Prim.Native.Nat.{ℕ}
use mathlib.Core.Path.{◌≡◌, refl, sym, ◌∙◌, subst}
use mathlib.Core.{Logic.inl, Logic.inr, List.List}
use mathlib.Core.Bool.{Bool, true, false, not, ◌&&◌, ◌||◌, and_comm}
use borrow.Author.Tests.{not-true}
use Rattle.sets.specs.Sets.{mem, sub, apart, asc, without, meet}
use Rattle.sets.proofs.Truth.{both, decided, clash}
use Rattle.sets.proofs.Lists.{◌∈◌}
use Rattle.sets.proofs.Sets.{sub_out, apart_in, apart_out, union-mem, without-mem, without_sub, meet-mem, without-asc, union-asc, ext, sub_refl}
use Rattle.extract_laws.specs.Divisor.{small, use_of}
use Rattle.extract_laws.specs.Meaning.{Parts, other, Use}
use Rattle.extract_laws.proofs.Using.{small-sub, use-in}

table : (p q : Bool) → (p && not (p && q)) ≡ (p && not q)
table true q = refl
table false q = refl

-- a cube less the common literals is what it has and the other has not
pub less-left : (c e : List ℕ) → asc c ≡ true → without c (meet c e) ≡ without c e
less-left c e hc = ext (without c (meet c e)) (without c e) (without-asc c (meet c e) hc) (without-asc c e hc)
    (λ z. simp (without-mem, meet-mem) (table (mem z c) (mem z e)))

pub less-right : (c e : List ℕ) → asc e ≡ true → without e (meet c e) ≡ without e c
less-right c e he = ext (without e (meet c e)) (without e c) (without-asc e (meet c e) he) (without-asc e c he)
    (λ z. simp (without-mem, meet-mem) (rw (and_comm (mem z c) (mem z e)) (table (mem z e) (mem z c))))

-- the two parts share no literal
pub parts-apart : (c e : List ℕ) → apart (without c e) (without e c) ≡ true
parts-apart c e = apart_in (without c e) (without e c) (λ z m.
    let q = both (mem z c) (not (mem z e)) (sym (without-mem z c e) ∙ m) in rw (without-mem, not-true (mem z e) q.1))

-- disjoint parts with literals are not equal
pub parts-differ : (a b : List ℕ) → small a ≡ true → apart a b ≡ true → a ≡ b → ⊥
parts-differ a b s h p = clash (subst (λ z. sub a z ≡ true) p (sub_refl a)) (small-sub a b s h)

both_ways : (p q : Bool) → ((p && not (p && not q)) || (q && not p)) ≡ q
both_ways true true = refl
both_ways true false = refl
both_ways false true = refl
both_ways false false = refl

-- they are a use of the sum that they make
pub parts-use : (c e : List ℕ) → asc e ≡ true → (f : List (List ℕ)) → e ∈ f → use_of (without c e) (without e c) f c ≡ true
parts-use c e he f m = use-in (without c e) (without e c) f c (record {
  inside = without_sub c e;
  free = apart_in (without c (without c e)) (without e c) (λ z k.
      rw (without-mem, (both (mem z c) _ (sym (without-mem z c (without c e)) ∙ k)).0, and_comm (mem z e) false));
  partner = rw (ext (other (without c e) (without e c) c) e (union-asc (without c (without c e)) (without e c) (without-asc e c he)) he
      (λ z. simp (union-mem, without-mem) (both_ways (mem z c) (mem z e)))) m;
})

left : (c a b : Bool) → (a ≡ true → c ≡ true) → (c ≡ true → b ≡ false) → (c && not ((c && not a) || b)) ≡ a
left true true true i n = clash refl (n refl)
left true true false i n = refl
left true false b i n = refl
left false true b i n = i refl
left false false b i n = refl

right : (c a b : Bool) → (c ≡ true → b ≡ false) → (((c && not a) || b) && not c) ≡ b
right true a true n = clash refl (n refl)
right true true false n = refl
right true false false n = refl
right false a true n = refl
right false a false n = refl

-- and the two cubes of a use without their common literals are the parts
module _ (a b : List ℕ) (w : Parts a b) (f : List (List ℕ)) (c : List ℕ) (hc : asc c ≡ true) (u : Use a b f c) where
  off : (z : ℕ) → mem z c ≡ true → mem z b ≡ false
  off z k = elim (decided (mem z a)) [ inl p ↦ apart_out a b z w.disjoint p | inr p ↦ apart_out (without c a) b z u.free (rw (without-mem, k, p)) ]

  pub use-left : without c (other a b c) ≡ a
  use-left = ext (without c (other a b c)) a (without-asc c (other a b c) hc) w.asc-a
      (λ z. simp (without-mem, union-mem) (left (mem z c) (mem z a) (mem z b) (sub_out a c z u.inside) (off z)))

  pub use-right : without (other a b c) c ≡ b
  use-right = ext (without (other a b c) c) b (without-asc (other a b c) c (union-asc (without c a) b w.asc-b)) w.asc-b
      (λ z. simp (without-mem, union-mem) (right (mem z c) (mem z a) (mem z b) (off z)))
