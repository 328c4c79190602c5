-- Which divisions are refused, and with which number; what is known of the expressions where none is. Assumes nothing.
use Prim.Native.Nat.{ℕ, ◌<◌, ◌≤◌}
use mathlib.Core.Path.{◌≡◌, refl, sym, subst}
use mathlib.Core.Bool.{Bool, true, false, cond}
use mathlib.Core.List.{List}
use mathlib.Core.Option.{Option, none, some}
use native.Mathlib.Omega.{arith}
use lib.Dec.{ltb}
use lib.ListN.{length}
use borrow.Author.Tests.{lt-ltb, le-ltb}
use Rattle.sets.{specs.Lists.is_nil, specs.Lists.or_else, proofs.Truth.or_right, proofs.First.some-not-none}
use Rattle.sets.proofs.Rows.{nil-of, nil-some, some-nil}
use Rattle.expression.specs.{Words.cubes_of, Words.Written, Answers.refusal, Answers.refusal_of}
use Rattle.expression.specs.declared.{Verdict.Verdict, Verdict.TheVariants.Accepted, Verdict.TheVariants.Refused}
use Rattle.expression_accept.proofs.Accepting as accept
use Rattle.division.specs.{Division.quotient, Division.remainder, declared.Division.Division}
use Rattle.division.specs.Answers.{either, roomed, refused_by, Told}
use Rattle.division.specs.Parts.{no_cubes, admitted, cramped, Handed}
use Rattle.division.specs.declared.Division.TheVariants.{Done, Refused as Turned}

-- ---- the smaller of two refusals

module _ (a b : Verdict) (k : ℕ) (e : a ≡ Refused k) where
  pub lesser-one : b ≡ Accepted → some k ≡ either (refusal_of a) (refusal_of b)
  lesser-one h = rw (e, h)

  module _ (l : ℕ) (h : b ≡ Refused l) where
    pub lesser-second : l < k → some l ≡ either (refusal_of a) (refusal_of b)
    lesser-second s = rw (e, h, lt-ltb l k s)

    pub lesser-first : k ≤ l → some k ≡ either (refusal_of a) (refusal_of b)
    lesser-first s = rw (e, h, le-ltb l k s)

-- ---- 6, 7, then 8

module _ (d : List ℕ) where
  pub no-cubes : length (cubes_of d) ≡ 0 → some 8 ≡ no_cubes d
  unfolding no_cubes
  no-cubes z = rw (nil-of (cubes_of d) z)

  pub some-cubes : (length (cubes_of d) ≡ 0 → ⊥) → none ≡ no_cubes d
  unfolding no_cubes
  some-cubes z = rw (nil-some (cubes_of d) z)

-- the refusal of either, or else that of a divisor with no cubes
module _ (f d : List ℕ) (v : Verdict) (h : refusal_of v ≡ either (refusal f) (refusal d)) where
  pub admitted-early : (k : ℕ) → v ≡ Refused k → refusal_of v ≡ admitted f d
  unfolding admitted
  admitted-early k e = subst (λ o. refusal_of v ≡ or_else o (no_cubes d)) h (rw e refl)

  pub admitted-late : (w : Verdict) → v ≡ Accepted → refusal_of w ≡ no_cubes d → refusal_of w ≡ admitted f d
  unfolding admitted
  admitted-late w e n = subst (λ o. refusal_of w ≡ or_else o (no_cubes d)) h (rw e n)

-- ---- what is known where neither is refused

pub record Admissible (f d : List ℕ) : Type 0 where
  pub dividend : accept.Accepted f
  pub divisor : accept.Accepted d
  pub filled : 0 < length (cubes_of d)
  pub neither : either (refusal f) (refusal d) ≡ none

either-none : (a b : Option ℕ) → either a b ≡ none → (a ≡ none) × (b ≡ none)
either-none none b h = (refl, h)
either-none (some k) none h = some-not-none (some k) refl h
either-none (some k) (some l) h = elim (ltb l k) as (λ t. cond {A = Option ℕ} t (some l) (some k) ≡ none → (some k ≡ none) × (some l ≡ none)) [
  | true ↦ λ e. some-not-none (some l) refl e
  | false ↦ λ e. some-not-none (some k) refl e
] h

pub admitted-known : (f d : List ℕ) → admitted f d ≡ none → Admissible f d
unfolding admitted no_cubes
admitted-known f d h = go (either (refusal f) (refusal d)) refl (is_nil (cubes_of d)) refl h
  where
    go : (o : Option ℕ) → either (refusal f) (refusal d) ≡ o → (t : Bool) → is_nil (cubes_of d) ≡ t → or_else o (cond t (some 8) none) ≡ none
        → Admissible f d
    go (some k) e t n h = some-not-none (some k) refl h
    go none e true n h = some-not-none (some 8) refl h
    go none e false n h = let q = either-none (refusal f) (refusal d) e in
        record { dividend = accept.accepted-out f q.0; divisor = accept.accepted-out d q.1; filled = some-nil (cubes_of d) n; neither = e }

-- ---- too little room

module _ (a b : List (List ℕ)) (q r : List ℕ) where
  pub cramped-first : length (cubes_of q) < length a → cramped a b q r ≡ true
  unfolding cramped
  cramped-first h = rw (lt-ltb (length (cubes_of q)) (length a) h)

  pub cramped-second : length (cubes_of r) < length b → cramped a b q r ≡ true
  unfolding cramped
  cramped-second h =
      or_right (ltb (length (cubes_of q)) (length a)) (ltb (length (cubes_of r)) (length b)) (lt-ltb (length (cubes_of r)) (length b) h)

  pub cramped-none : length a ≤ length (cubes_of q) → length b ≤ length (cubes_of r) → cramped a b q r ≡ false
  unfolding cramped
  cramped-none h k = rw (le-ltb (length (cubes_of q)) (length a) h, le-ltb (length (cubes_of r)) (length b) k)

  -- a refusal leaves the rooms as they were
  pub handed-none : cramped a b q r ≡ true → Handed (cramped a b q r) a b q r q r (Turned 9)
  handed-none h = rw h (refl, refl, refl)

  pub handed-all : {q' r' : List ℕ} {t : Division} → cramped a b q r ≡ false → t ≡ Done (length a) (length b) → Written q q' a → Written r r' b
      → Handed (cramped a b q r) a b q r q' r' t
  handed-all h e u w = rw h (e, u, w)

-- ---- the whole refusal, and the answer

-- the first, or else the second
abbrev after : Option ℕ → Option ℕ → Option ℕ
after o p = elim o [ some k ↦ some k | none ↦ p ]

module _ (f d q r : List ℕ) where
  abbrev tight : Bool
  tight = cramped (quotient (cubes_of f) (cubes_of d)) (remainder (cubes_of f) (cubes_of d)) q r

  early : (k : ℕ) → admitted f d ≡ some k → refused_by f d q r ≡ some k
  unfolding admitted no_cubes refused_by roomed cramped
  early k h = go (either (refusal f) (refusal d)) (is_nil (cubes_of d)) h
    where
      go : (o : Option ℕ) (t : Bool) → or_else o (cond t (some 8) none) ≡ some k → after o (cond t (some 8) (cond tight (some 9) none)) ≡ some k
      go (some l) t h = h
      go none true h = h
      go none false h = some-not-none none h refl

  -- a refusal before the rooms are looked at
  pub told-early : (k : ℕ) → some k ≡ admitted f d → Told (refused_by f d q r) f d q r q r (Turned k)
  told-early k h = rw (early k (sym h)) (refl, refl, refl)

  late : Admissible f d → refused_by f d q r ≡ cond tight (some 9) none
  unfolding refused_by roomed cramped
  late m =
      subst (λ o. after o (roomed f d q r) ≡ cond tight (some 9) none) (sym m.neither) (rw (nil-some (cubes_of d) (λ z. omega (arith, m.filled))))

  -- what is handed over is the answer
  pub told-late : {a b : List (List ℕ)} (q' r' : List ℕ) (t : Division) → Admissible f d
      → a ≡ quotient (cubes_of f) (cubes_of d) → b ≡ remainder (cubes_of f) (cubes_of d)
      → Handed (cramped a b q r) a b q r q' r' t → Told (refused_by f d q r) f d q r q' r' t
  told-late {a} {b} q' r' t m e g h =
      rw (late m) (go tight (subst (λ x. Handed (cramped x (remainder (cubes_of f) (cubes_of d)) q r) x (remainder (cubes_of f) (cubes_of d)) q r q' r' t) e
      (subst (λ x. Handed (cramped a x q r) a x q r q' r' t) g h)))
    where
      go : (s : Bool) → Handed s (quotient (cubes_of f) (cubes_of d)) (remainder (cubes_of f) (cubes_of d)) q r q' r' t
          → Told (cond s (some 9) none) f d q r q' r' t
      go true h = h
      go false h = h
