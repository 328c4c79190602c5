-- The co-kernels of an expression whose literals a cube has places for: exactly those, each once, in cube order, and no other list is
-- that; none of fewer than two cubes; each step of the walk stands for one. Assumes nothing.
use Prim.Native.Nat.{ℕ, suc, ◌+◌, ◌*◌, ◌<◌, ◌≤◌}
use mathlib.Core.Path.{◌≡◌, refl, sym, ◌∙◌, ap, subst}
use mathlib.Core.Logic.{inl, inr, ◌↔◌}
use mathlib.Core.Bool.{true, false}
use mathlib.Core.List.Memᴰ.{head as here}
use mathlib.Core.List.Memᴰ.{tail as there}
use mathlib.Core.List.{List, [], ◌∷◌}
use native.Mathlib.Omega.{arith}
use lib.Dec.{ltb}
use lib.ListN.{length}
use borrow.Author.Tests.{ltb-true, ltb-false}
use Rattle.sets.specs.Sets.{mem, sub, asc, insert, before}
use Rattle.sets.proofs.{Truth.clash, Truth.decided, Orders.before-order, Orders.ext-in}
use Rattle.sets.proofs.Lists.{◌∈◌, all_in, all-out, keep_all, keep-length}
use Rattle.sets.proofs.Sets.{sub_in, sub_out, ext}
use Rattle.cube.specs.Cube.{width}
use Rattle.expression.{specs.Words.cubes_of, specs.Expression.Cubes, specs.Expression.ordered, proofs.Words.cubes-asc, proofs.Words.cubes-inside}
use Rattle.cokernel.specs.Cokernels.{above, common, is_cokernel, opens, beyond, cokernels}
use Rattle.cokernel.specs.Meaning.{Held, Prefix, Alive, branch_cubes}
use Rattle.cokernel.proofs.Closing.{above-asc, common-more, common-above, cokernel-out, cokernel-iff, common-cokernel}
use Rattle.cokernel.proofs.Walking.{prefix-none, prefix-with, mem-there, prefix-past, up-to}
use Rattle.cokernel.proofs.Walking.{opens-out, beyond-out, beyond-in, beyond-ordered, branch-out, branch_in, branch-ordered}

-- what words hold
pub held-words : (ws : List ℕ) → Held (2 * width) (cubes_of ws)
held-words ws = record {
  rising = λ c m. all-out asc m (cubes-asc ws);
  inside = λ c m l i. cubes-inside ws m l i;
}

no_member : (l : Cubes) → ((c : List ℕ) → c ∈ l → ⊥) → l ≡ []
no_member [] k = refl
no_member (c ∷ l) k = absurd (k c (here refl))

some-member : {c : List ℕ} {l : Cubes} → c ∈ l → 0 < length l
some-member (here e) = omega arith
some-member (there m) = omega arith

module _ (f : Cubes) where
  -- ---- sound

  pub cokernels-out : (c : List ℕ) → c ∈ cokernels f → (asc c ≡ true) × (is_cokernel f c ≡ true)
  unfolding cokernels
  cokernels-out c m =
      let (r, e, _) = branch-out (2 * width) f [] 0 prefix-none c (beyond-out (2 * width) f [] 0 prefix-none c) m in (r, e)

  -- each once, in cube order
  pub cokernels-ordered : ordered (cokernels f) ≡ true
  unfolding cokernels
  cokernels-ordered = branch-ordered (2 * width) f [] 0 prefix-none (beyond-ordered (2 * width) f [] 0 prefix-none)

  pub cokernels-few : length f < 2 → cokernels f ≡ []
  cokernels-few h = no_member (cokernels f) (λ c m.
      let two = (cokernel-out f c (cokernels-out c m).1).0 in
      omega (arith, two, keep-length (sub c) f))

  -- ---- complete

  module _ (g : Held (2 * width) f) where
    pub cokernels-in : (c : List ℕ) → asc c ≡ true → is_cokernel f c ≡ true → c ∈ cokernels f
    unfolding cokernels
    cokernels-in c a e = branch_in (2 * width) f [] 0 prefix-none c a e (λ l s. absurd (omega arith))
        (beyond-in (2 * width) (2 * width) f [] 0 (omega arith) g prefix-none c)

    -- at least two cubes contain c, and the literals common to all those are exactly c
    pub cokernels-iff : (c : List ℕ) → asc c ≡ true
        → (c ∈ cokernels f) ↔ ((2 ≤ length (above f c)) × ((l : ℕ) → (mem l c ≡ true) ↔ ((d : List ℕ) → d ∈ above f c → mem l d ≡ true)))
    cokernels-iff c a =
        (λ m. (cokernel-iff f (2 * width) g c a).0 (cokernels-out c m).1, λ h. cokernels-in c a ((cokernel-iff f (2 * width) g c a).1 h))

    -- no other list in cube order has just these
    pub cokernels-only : (r : Cubes) → ordered r ≡ true → ((c : List ℕ) → (c ∈ r) ↔ ((asc c ≡ true) × (is_cokernel f c ≡ true))) → r ≡ cokernels f
    cokernels-only r o k = ext-in before before-order r (cokernels f) o cokernels-ordered
        (λ c m. let q = (k c).0 m in cokernels-in c q.0 q.1) (λ c m. (k c).1 (cokernels-out c m))

-- ---- why the cost goes with the answers

pub alive-cokernel : (f : Cubes) (p : List ℕ) (j : ℕ) → Alive f p j → is_cokernel f (common (above f p)) ≡ true
alive-cokernel f p j a = common-cokernel f p a.two

-- so it does at the first literal, if there are two cubes
pub alive-first : (f : Cubes) → 2 ≤ length f → Alive f [] 0
unfolding sub
alive-first f h = record { two = rw (keep_all (sub []) f (all_in (sub []) f (λ d m. refl))) h; alike = λ l s. absurd (omega arith) }

-- and in an open branch
pub alive-with : (f : Cubes) (p : List ℕ) (j : ℕ) → opens f j (insert j p) ≡ true → Alive f (insert j p) (suc j)
alive-with f p j t = record {
  two = two;
  alike = up-to j _ (insert j p) (opens-out f j (insert j p) t).1
      (sub_out (insert j p) _ j (common-above f (insert j p) (omega (arith, two))) (mem-there p j) ∙ sym (mem-there p j));
}
  where
    two : 2 ≤ length (above f (insert j p))
    two = (opens-out f j (insert j p) t).0

-- and without j, where not all cubes above p have it
pub alive-on : (f : Cubes) (p : List ℕ) (j : ℕ) → Prefix p j → Alive f p j → mem j (common (above f p)) ≡ false → Alive f p (suc j)
alive-on f p j h a i = record { two = a.two; alike = up-to j _ p a.alike (i ∙ sym (prefix-past p j h j (omega arith))) }

-- at one literal different cubes stand for different co-kernels: no more steps of the walk there than co-kernels
pub alive-apart : (f : Cubes) (p q : List ℕ) (j : ℕ) → Prefix p j → Prefix q j → Alive f p j → Alive f q j → common (above f p) ≡ common (above f q) → p ≡ q
alive-apart f p q j h k a b e = ext p q h.rising k.rising (λ l. elim (decided (ltb l j)) [
  | inl t ↦ sym (a.alike l (ltb-true l j t)) ∙ ap (mem l) e ∙ b.alike l (ltb-true l j t)
  | inr t ↦ prefix-past p j h l (ltb-false l j t) ∙ sym (prefix-past q j k l (ltb-false l j t))
])

-- an open branch lists at least one co-kernel
pub opened_some : (k n : ℕ) (f : Cubes) (p : List ℕ) (j : ℕ) → n ≡ k + suc j → Held n f → Prefix p j → opens f j (insert j p) ≡ true
    → 0 < length (branch_cubes k f (insert j p) (suc j))
opened_some k n f p j e g h t =
    let a = alive-with f p j t in
    let w = prefix-with p j h in
    some-member (branch_in k f (insert j p) (suc j) w _ (above-asc f n (insert j p) g) (alive-cokernel f (insert j p) (suc j) a) a.alike
    (beyond-in k n f (insert j p) (suc j) e g w _))

-- what the cubes above p have in common is in each co-kernel beyond p: none is, where that has a literal below j that p lacks
pub beyond-none : (k : ℕ) (f : Cubes) (p : List ℕ) (j l : ℕ) → Prefix p j → l < j → mem l p ≡ false → mem l (common (above f p)) ≡ true → beyond k f p j ≡ []
beyond-none k f p j l h s m i = no_member (beyond k f p j) (λ c b.
    let r = beyond-out k f p j h c b in
    let q = cokernel-out f c r.closed in
    let inside : sub p c ≡ true = sub_in p c (λ x y. r.alike x (h.low x y) ∙ y) in
    let t : mem l c ≡ true = subst (λ z. mem l z ≡ true) q.1 (sub_out _ _ l (common-more f p c inside (omega (arith, q.0))) i) in
    clash (sym (r.alike l s) ∙ t) m)
