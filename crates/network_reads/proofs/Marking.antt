-- Cubes that mark sets of variables: none, one, gathered part by part; a set is marked by one cube. Assumes nothing.
use Prim.Native.Nat.{ℕ, ◌*◌, ◌/◌, ◌%◌, ◌<◌}
use mathlib.Core.Path.{◌≡◌, refl, sym, ap, ap₂, ◌∙◌}
use mathlib.Core.Bool.{Bool, true, false, ◌&&◌, ◌||◌, or-false, or-true, and-false}
use mathlib.Core.List.{List, [], ◌∷◌}
use native.Mathlib.Omega.{arith}
use lib.Dec.{eqb}
use borrow.Author.Tests.{eq-eqb, eqb-true, lt-ltb}
use Rattle.sets.{specs.Literal.plain_of, proofs.Sets.insert-mem, proofs.Sets.union-mem}
use Rattle.sets.specs.Sets.{mem, insert, union}
use Rattle.sets.proofs.Truth.{iff, both, together}
use Rattle.cube.specs.Cube.{width, lits, joined}
use Rattle.cube.specs.declared.Cube.{Cube}
use Rattle.cube.proofs.Lits.{lits-ext, fit_cube, cube-one}
use Rattle.network_reads.specs.Reading.{Marks}

-- ---- one cube for a set

pub marks-one : (a b : Cube) (l : List ℕ) → fit_cube a ≡ true → fit_cube b ≡ true → Marks (lits a) l → Marks (lits b) l → a ≡ b
marks-one a b l h k p q = cube-one a b h k (lits-ext a b (λ x. p.each x ∙ sym (q.each x)))

-- a variable is in the set exactly when its plain literal is in the cube
pub marks-plain : {c l : List ℕ} → Marks c l → (v : ℕ) → mem (plain_of v) c ≡ mem v l
marks-plain {c} {l} p v =
    let e : plain_of v % 2 ≡ 0 = omega arith in
    let q : plain_of v / 2 ≡ v = omega arith in
    p.each (plain_of v) ∙ ap₂ (λ (b : Bool) (u : ℕ). b && mem u l) (eq-eqb _ _ e) q

-- ---- none, and one

pub marks-none : {c : List ℕ} → c ≡ [] → Marks c []
unfolding mem
marks-none e = record { each = λ x. ap (mem x) e ∙ sym (and-false (eqb (x % 2) 0)) }

-- a variable's plain literal is joined
joined-plain : (v : ℕ) (c : List ℕ) → v < width → joined (plain_of v) c ≡ insert (plain_of v) c
joined-plain v c h = rw (lt-ltb (plain_of v) (2 * width) (omega arith))

-- which literal that is
plain-at : (v x : ℕ) → eqb x (plain_of v) ≡ (eqb (x % 2) 0 && eqb (x / 2) v)
plain-at v x = iff
    (λ t. let z = eqb-true x (plain_of v) t in together _ _ (eq-eqb (x % 2) 0 (omega arith)) (eq-eqb (x / 2) v (omega arith)))
    (λ t. let z = both (eqb (x % 2) 0) (eqb (x / 2) v) t in eq-eqb x (plain_of v) (omega (arith, eqb-true (x % 2) 0 z.0, eqb-true (x / 2) v z.1)))

pub marks-single : {c r : List ℕ} (v : ℕ) → v < width → c ≡ [] → r ≡ joined (plain_of v) c → Marks r (v ∷ [])
unfolding mem
marks-single {c} {r} v h e q = record {
  each = λ x. ap (mem x) (q ∙ joined-plain v c h) ∙ insert-mem x (plain_of v) c ∙ ap (λ d. eqb x (plain_of v) || mem x d) e ∙ one x;
}
  where
    one : (x : ℕ) → (eqb x (plain_of v) || false) ≡ (eqb (x % 2) 0 && (eqb (x / 2) v || false))
    one x = or-false (eqb x (plain_of v)) ∙ plain-at v x ∙ ap (eqb (x % 2) 0 &&◌) (sym (or-false (eqb (x / 2) v)))

-- ---- a set that is gathered part by part

-- what the cube marks, with the rest, is the whole
pub record Gathers (c : List ℕ) (rest whole : ℕ → Bool) : Type 0 where
  pub each : (x : ℕ) → (mem x c || (eqb (x % 2) 0 && rest (x / 2))) ≡ (eqb (x % 2) 0 && whole (x / 2))

-- nothing yet
pub gather-first : {c : List ℕ} (rest whole : ℕ → Bool) → ((v : ℕ) → rest v ≡ whole v) → c ≡ [] → Gathers c rest whole
unfolding mem
gather-first rest whole s e = record { each = λ x. ap₂ (λ (d : List ℕ) (b : Bool). mem x d || (eqb (x % 2) 0 && b)) e (s (x / 2)) }

-- a part of the rest is gathered
pub gather-more : {c d r : List ℕ} (l : List ℕ) (rest more whole : ℕ → Bool) → ((v : ℕ) → rest v ≡ (mem v l || more v)) → r ≡ union c d → Marks d l
    → Gathers c rest whole → Gathers r more whole
gather-more {c} {d} {r} l rest more whole e u p g = record {
  each = λ x.
      ap (λ z. mem x z || (eqb (x % 2) 0 && more (x / 2))) u
      ∙ ap (◌|| (eqb (x % 2) 0 && more (x / 2))) (union-mem x c d ∙ ap (mem x c ||◌) (p.each x))
      ∙ turn (mem x c) (eqb (x % 2) 0) (mem (x / 2) l) (more (x / 2))
      ∙ ap (λ b. mem x c || (eqb (x % 2) 0 && b)) (sym (e (x / 2)))
      ∙ g.each x;
}
  where
    turn : (a b y z : Bool) → ((a || (b && y)) || (b && z)) ≡ (a || (b && (y || z)))
    turn true b y z = refl
    turn false true y z = refl
    turn false false y z = refl

-- a variable of the rest is marked
pub gather-one : {c r : List ℕ} (v : ℕ) (rest more whole : ℕ → Bool) → ((u : ℕ) → rest u ≡ (eqb u v || more u)) → v < width → r ≡ joined (plain_of v) c
    → Gathers c rest whole → Gathers r more whole
gather-one {c} {r} v rest more whole e h u g = record {
  each = λ x.
      ap (λ z. mem x z || (eqb (x % 2) 0 && more (x / 2))) (u ∙ joined-plain v c h)
      ∙ ap (◌|| (eqb (x % 2) 0 && more (x / 2))) (insert-mem x (plain_of v) c ∙ ap (◌|| mem x c) (plain-at v x))
      ∙ turn (mem x c) (eqb (x % 2) 0) (eqb (x / 2) v) (more (x / 2))
      ∙ ap (λ b. mem x c || (eqb (x % 2) 0 && b)) (sym (e (x / 2)))
      ∙ g.each x;
}
  where
    turn : (a b y z : Bool) → (((b && y) || a) || (b && z)) ≡ (a || (b && (y || z)))
    turn a false y z = refl
    turn a true true z = sym (or-true a)
    turn a true false z = refl

-- nothing is left
pub gather-done : {c : List ℕ} (l : List ℕ) (rest : ℕ → Bool) → ((v : ℕ) → rest v ≡ false) → Gathers c rest (λ v. mem v l) → Marks c l
gather-done {c} l rest e g = record {
  each = λ x. sym (ap (λ b. mem x c || (eqb (x % 2) 0 && b)) (e (x / 2)) ∙ ap (mem x c ||◌) (and-false (eqb (x % 2) 0)) ∙ or-false (mem x c)) ∙ g.each x;
}
