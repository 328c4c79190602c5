-- Cubes with the literals of known variables, all or those of value 1: what one variable more makes of them. Assumes nothing.
use Prim.Native.Nat.{ℕ, ◌+◌, ◌/◌, ◌%◌, ◌<◌, ◌*◌}
use mathlib.Core.Path.{◌≡◌, refl, sym, ap, ◌∙◌}
use mathlib.Core.Logic.{inl, inr}
use mathlib.Core.Bool.{Bool, true, false, cond, not, ◌&&◌, ◌||◌, or-true, or-false, or_assoc}
use mathlib.Core.List.{List, [], ◌∷◌, ◌++◌}
use native.Mathlib.Omega.{arith}
use lib.Dec.{ltb, eqb}
use borrow.Author.Tests.{lt-ltb, le-ltb, eq-eqb, ne_eqb, eqb-true, eqb-false}
use Rattle.sets.specs.Sets.{mem, insert}
use Rattle.sets.specs.Literal.{plain_of, negated_of}
use Rattle.sets.proofs.Truth.{both, iff, decided, clash, compared, below, equal, beyond}
use Rattle.sets.proofs.Sets.{insert-mem, mem-append}
use Rattle.cube.specs.Cube.{joined, width}
use Rattle.expression.specs.Value.{lit}
use Rattle.network_known.specs.Known.{known, BothWays, Truths, signed}

-- ---- one literal more

pub signed-small : (v : ℕ) (b : Bool) → v < width → signed v b < 2 * width
signed-small v true h = omega arith
signed-small v false h = omega arith

-- the literal of a variable is one of a cube's
pub joined-signed : (v : ℕ) (b : Bool) (c : List ℕ) → v < width → joined (signed v b) c ≡ insert (signed v b) c
joined-signed v b c h = rw (lt-ltb (signed v b) (2 * width) (signed-small v b h))

-- ---- known variables

-- a variable more is known
pub known-input : (n x : ℕ) → (eqb x n || known n [] x) ≡ known (n + 1) [] x
unfolding mem
known-input n x = elim (compared x n) [
  | below l _ _ ↦ rw (lt-ltb x n l, lt-ltb x (n + 1) (omega arith), or-true (eqb x n))
  | equal e _ _ ↦ rw (eq-eqb x n e, lt-ltb x (n + 1) (omega arith))
  | beyond l _ _ ↦ rw (ne_eqb x n (λ e. omega arith), le-ltb x n (omega arith), le-ltb x (n + 1) (omega arith))
]

pub known-listed : (n : ℕ) (listed : List ℕ) (v x : ℕ) → (eqb x v || known n listed x) ≡ known n (listed ++ (v ∷ [])) x
unfolding mem
known-listed n listed v x = rw (mem-append x listed (v ∷ [])) (move (eqb x v) (ltb x n) (mem x listed))
  where
    move : (a b c : Bool) → (a || (b || c)) ≡ (b || (c || (a || false)))
    move true true c = refl
    move true false true = refl
    move true false false = refl
    move false true c = refl
    move false false true = refl
    move false false false = refl

none-known : (x : ℕ) → known 0 [] x ≡ false
unfolding mem
none-known x = rw (le-ltb x 0 (omega arith))

self-unknown : (v : ℕ) → known v [] v ≡ false
unfolding mem
self-unknown v = rw (le-ltb v v (omega arith))

-- a literal is the one of v with value 1
signed-eq : (l v : ℕ) (b : Bool) → eqb l (signed v b) ≡ (eqb (l / 2) v && cond (eqb (l % 2) 0) b (not b))
signed-eq l v true = iff
    (λ h. let q = eqb-true l (plain_of v) h in rw (eq-eqb (l / 2) v (omega arith), eq-eqb (l % 2) 0 (omega arith)))
    (λ h. let p = both (eqb (l / 2) v) (cond (eqb (l % 2) 0) true false) h in elim (decided (eqb (l % 2) 0)) [
      | inl e ↦ eq-eqb l (plain_of v) (omega (arith, eqb-true (l / 2) v p.0, eqb-true (l % 2) 0 e))
      | inr e ↦ clash p.1 (rw e)
    ])
signed-eq l v false = iff
    (λ h. let q = eqb-true l (negated_of v) h in rw (eq-eqb (l / 2) v (omega arith), ne_eqb (l % 2) 0 (λ e. omega arith)))
    (λ h. let p = both (eqb (l / 2) v) (cond (eqb (l % 2) 0) false true) h in elim (decided (eqb (l % 2) 0)) [
      | inl e ↦ clash p.1 (rw e)
      | inr e ↦ let q = eqb-false (l % 2) 0 e in eq-eqb l (negated_of v) (omega (arith, eqb-true (l / 2) v p.0))
    ])

-- a literal of v is one of its two
of-variable : (l v : ℕ) → (eqb l (negated_of v) || eqb l (plain_of v)) ≡ eqb (l / 2) v
of-variable l v = rw (signed-eq l v false, signed-eq l v true) (one (eqb (l / 2) v) (eqb (l % 2) 0))
  where
    one : (x e : Bool) → ((x && cond e false true) || (x && cond e true false)) ≡ x
    one true true = refl
    one true false = refl
    one false e = refl

-- both literals of v more
both-mem : (l v : ℕ) (k : List ℕ) → mem l (insert (negated_of v) (insert (plain_of v) k)) ≡ (eqb (l / 2) v || mem l k)
both-mem l v k =
    rw (insert-mem l (negated_of v) (insert (plain_of v) k), insert-mem l (plain_of v) k)
    (sym (or_assoc (eqb l (negated_of v)) (eqb l (plain_of v)) (mem l k)) ∙ ap (λ t. t || mem l k) (of-variable l v))

pub spans-none : {k : List ℕ} → k ≡ [] → BothWays 0 [] k
unfolding mem
spans-none e = record { each = λ l. rw (e, none-known (l / 2)) }

module _ (v : ℕ) (k b : List ℕ) (q : b ≡ insert (signed v false) (insert (signed v true) k)) where
  more : (l : ℕ) → mem l b ≡ (eqb (l / 2) v || mem l k)
  more l = ap (mem l) q ∙ both-mem l v k

  pub spans-input : BothWays v [] k → BothWays (v + 1) [] b
  spans-input s = record { each = λ l. more l ∙ ap (λ t. eqb (l / 2) v || t) (s.each l) ∙ known-input v (l / 2) }

  pub spans-listed : (n : ℕ) (listed : List ℕ) → BothWays n listed k → BothWays n (listed ++ (v ∷ [])) b
  spans-listed n listed s = record { each = λ l. more l ∙ ap (λ t. eqb (l / 2) v || t) (s.each l) ∙ known-listed n listed v (l / 2) }

-- ---- true literals

-- one value more
pub signed-more : (kn : ℕ → Bool) (a d : ℕ → Bool) (v : ℕ) (t : List ℕ) (l : ℕ) → kn v ≡ false → ((u : ℕ) → (u ≡ v → ⊥) → d u ≡ a u)
    → mem l t ≡ (kn (l / 2) && lit a l) → mem l (insert (signed v (d v)) t) ≡ ((eqb (l / 2) v || kn (l / 2)) && lit d l)
unfolding lit
signed-more kn a d v t l k f e = rw (insert-mem l (signed v (d v)) t, signed-eq l v (d v), e) (go (eqb (l / 2) v) refl)
  where
    go : (b : Bool) → eqb (l / 2) v ≡ b
        → ((b && cond (eqb (l % 2) 0) (d v) (not (d v))) || (kn (l / 2) && cond (eqb (l % 2) 0) (a (l / 2)) (not (a (l / 2))))) ≡
        ((b || kn (l / 2)) && cond (eqb (l % 2) 0) (d (l / 2)) (not (d (l / 2))))
    go true q = let p = eqb-true (l / 2) v q in rw (p, k) (or-false (cond (eqb (l % 2) 0) (d v) (not (d v))))
    go false q = rw (f (l / 2) (eqb-false (l / 2) v q))

pub truths-none : (a : ℕ → Bool) {t : List ℕ} → t ≡ [] → Truths 0 [] a t
unfolding mem
truths-none a e = record { each = λ l. rw (e, none-known (l / 2)) }

pub truths-input : (v : ℕ) (a : ℕ → Bool) {t r : List ℕ} → r ≡ insert (signed v (a v)) t → Truths v [] a t → Truths (v + 1) [] a r
truths-input v a {t} p s = record {
  each = λ l. ap (mem l) p
      ∙ signed-more (known v []) a a v t l (self-unknown v) (λ u _. refl) (s.each l)
      ∙ ap (λ x. x && lit a l) (known-input v (l / 2));
}
