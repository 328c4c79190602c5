-- How far a line goes, counted by the turns of a loop, and that it stays within the line. Assumes nothing.
use Prim.Native.Nat.{ℕ, zero, suc, ◌+◌, ◌-◌, ◌<◌, ◌≤◌, max}
use mathlib.Core.Path.{◌≡◌, refl, sym, ◌∙◌, ap, subst}
use mathlib.Core.Logic.{◌⊎◌, inl, inr}
use mathlib.Core.Bool.{Bool, true, false, cond, not}
use mathlib.Core.List.{List, [], ◌∷◌}
use mathlib.Core.Option.{Option, none, some}
use native.Mathlib.Omega.{arith}
use lib.Dec.{eqb, leb}
use lib.ListN.{length, get_or, take, drop, length-drop, drop_of_length-le}
use lib.Seq.{drop-drop}
use borrow.Author.Tests.{eq-eqb, ne_eqb, le-leb, lt-leb}
use Rattle.std.specs.List.{prefix_len}
use Rattle.sets.proofs.{Truth.below, Truth.equal, Truth.beyond, Truth.compared, Places.drop-next}
use Rattle.letters.specs.Meaning.{is_digit}
use Rattle.table_lines.specs.{Text.trim_front, Text.content, Text.content_span, declared.Span.Span}
use Rattle.table_lines.proofs.{Ends.front-le, Spans.span-inside, Spans.span-content}
use Rattle.table_kinds.specs.{Kinds.kind_of, declared.Kind.Kind}
use Rattle.table_kinds.specs.declared.Kind.TheVariants.{Empty, Inputs, Outputs, Products, End, Other}
use Rattle.table_columns.specs.Forms as good
use Rattle.table_columns.specs.Forms.{front, limit, reach, cube_forms, forms, farthest}
use Rattle.table_columns.specs.Columns.{unless_zero, or_zero, digit_place, one_place, row_place, kind_place, place_in, place_of}

-- ---- bytes at the front

pub front-none : (f : ℕ → Bool) (n : ℕ) (b : ℕ) (t : List ℕ) → (n ≡ 0) ⊎ (f b ≡ false) → front f n (b ∷ t) ≡ 0
unfolding front
front-none f zero b t h = refl
front-none f (suc n) b t (inl e) = absurd (omega arith)
front-none f (suc n) b t (inr e) = rw e

pub front_is : (f : ℕ → Bool) (n : ℕ) (t : List ℕ) → front f n t ≡ prefix_len f (take n t)
unfolding front
front_is f zero t = refl
front_is f (suc n) [] = refl
front_is f (suc n) (b ∷ t) = elim (f b) as (λ e. cond e (suc (front f n t)) 0 ≡ cond e (1 + prefix_len f (take n t)) 0)
    [ true ↦ omega (arith, front_is f n t) | false ↦ refl ]

pub front-bound : (f : ℕ → Bool) (k : ℕ) (t : List ℕ) → front f k t ≤ length t
unfolding front
front-bound f zero t = omega arith
front-bound f (suc k) [] = omega arith
front-bound f (suc k) (b ∷ t) =
    elim (f b) as (λ e. cond e (suc (front f k t)) 0 ≤ suc (length t)) [ true ↦ omega (arith, front-bound f k t) | false ↦ omega arith ]

-- ---- the parts of a form

-- the bytes of t that a part takes, enough or not
abbrev pub taken : good.Part → List ℕ → ℕ
taken p t = front p.test (limit p.most (length t)) t

module _ (p : good.Part) (ps : List good.Part) (t : List ℕ) where
  reach_few : taken p t < p.least → reach (p ∷ ps) t ≡ taken p t
  unfolding reach
  reach_few h = rw (lt-leb p.least (taken p t) h)

  pub reach-enough : p.least ≤ taken p t → reach (p ∷ ps) t ≡ taken p t + reach ps (drop (taken p t) t)
  unfolding reach
  reach-enough h = rw (le-leb p.least (taken p t) h)

-- part p begins at a place of c, where others follow it, and takes k
module _ (p : good.Part) (ps : List good.Part) (c : List ℕ) (at k : ℕ) (e : k ≡ front p.test (limit p.most (length c - at)) (drop at c)) where
  is-taken : k ≡ taken p (drop at c)
  is-taken = rw (length-drop at c) e

  -- the bytes that it has not
  pub reach-stop : k < p.least → at + reach (p ∷ ps) (drop at c) ≡ at + k
  reach-stop h = omega (arith, is-taken, reach_few p ps (drop at c) (omega (arith, is-taken)))

  -- it has enough
  pub reach-on : p.least ≤ k → at + reach (p ∷ ps) (drop at c) ≡ (at + k) + reach ps (drop (at + k) c)
  reach-on h = rw (is-taken, reach-enough p ps (drop at c) (omega (arith, is-taken)), drop-drop (taken p (drop at c)) at c) (omega arith)

  -- the place after it is inside
  pub reach-inside : at ≤ length c → at + k ≤ length c
  reach-inside h = omega (arith, front-bound p.test (limit p.most (length c - at)) (drop at c), length-drop at c)

-- no part follows
pub reach-done : (c : List ℕ) (at : ℕ) → at + reach [] (drop at c) ≡ at
unfolding reach
reach-done c at = omega arith

reach-bound : (ps : List good.Part) (t : List ℕ) → reach ps t ≤ length t
unfolding reach
reach-bound [] t = omega arith
reach-bound (p ∷ ps) t = let k = taken p t in let h = front-bound p.test (limit p.most (length t)) t in
    elim (leb p.least k) as (λ e. cond e (k + reach ps (drop k t)) k ≤ length t)
    [ true ↦ omega (arith, reach-bound ps (drop k t), length-drop k t) | false ↦ h ]

-- ---- the `1` before which k others stand

one-other : (k b : ℕ) (t : List ℕ) → (b ≡ 49 → ⊥) → one_place k (b ∷ t) ≡ suc (one_place k t)
unfolding one_place
one-other zero b t e = rw (ne_eqb b 49 e)
one-other (suc k) b t e = rw (ne_eqb b 49 e)

one_less : (k b : ℕ) (t : List ℕ) → b ≡ 49 → (k ≡ 0 → ⊥) → one_place k (b ∷ t) ≡ suc (one_place (k - 1) t)
unfolding one_place
one_less zero b t e z = absurd (z refl)
one_less (suc k) b t e z = let q : suc k - 1 ≡ k = omega arith in rw (eq-eqb b 49 e, q)

-- k others are left, and the next byte stands at i
module _ (o : List ℕ) (i k : ℕ) where
  pub one-stop : i < length o → get_or o i 0 ≡ 49 → k ≡ 0 → i + one_place k (drop i o) ≡ i
  unfolding one_place
  one-stop h e z = rw (drop-next o i 0 h, z, eq-eqb (get_or o i 0) 49 e) (omega arith)

  pub one-passed : i < length o → get_or o i 0 ≡ 49 → (k ≡ 0 → ⊥) → i + one_place k (drop i o) ≡ (i + 1) + one_place (k - 1) (drop (i + 1) o)
  one-passed h e z = rw (drop-next o i 0 h, one_less k (get_or o i 0) (drop (i + 1) o) e z) (omega arith)

  pub one_on : i < length o → (get_or o i 0 ≡ 49 → ⊥) → i + one_place k (drop i o) ≡ (i + 1) + one_place k (drop (i + 1) o)
  one_on h e = rw (drop-next o i 0 h, one-other k (get_or o i 0) (drop (i + 1) o) e) (omega arith)

  pub one-done : length o ≤ i → i + one_place k (drop i o) ≡ i
  unfolding one_place
  one-done h = rw (drop_of_length-le o h) (omega arith)

pub one-bound : (k : ℕ) (o : List ℕ) → one_place k o ≤ length o
unfolding one_place
one-bound k [] = omega arith
one-bound zero (b ∷ o) =
    elim (eqb b 49) as (λ e. cond e 0 (suc (one_place zero o)) ≤ suc (length o)) [ true ↦ omega arith | false ↦ omega (arith, one-bound zero o) ]
one-bound (suc k) (b ∷ o) = omega (arith, one-bound (cond (eqb b 49) k (suc k)) o)

-- ---- the farthest of some forms

-- the larger of two numbers is one of them
pub max_of : (P : ℕ → Type 0) (a b : ℕ) → P a → P b → P (max a b)
max_of P a b h k = elim (compared a b) [
  | below e s t ↦ let q : b ≡ max a b = omega arith in subst P q k
  | equal e s t ↦ let q : b ≡ max a b = omega arith in subst P q k
  | beyond e s t ↦ let q : a ≡ max a b = omega arith in subst P q h
]

pub far-bound : (fs : List (List good.Part)) (c : List ℕ) → farthest fs c ≤ length c
unfolding farthest
far-bound [] c = omega arith
far-bound (f ∷ fs) c = max_of (λ k. k ≤ length c) (reach f c) (farthest fs c) (reach-bound f c) (far-bound fs c)

-- ---- inputs and outputs, 0 while they are missing

pub known-one : (n k : ℕ) → unless_zero n ≡ some k → 1 ≤ k
known-one zero k e = let z : ◌≡◌ {A = ℕ} 0 1 = cc in absurd (omega arith)
known-one (suc n) k e = let q : suc n ≡ k = cc in omega arith

pub cubes-less : (w : Option ℕ) → cube_forms w none ≡ []
cubes-less none = refl
cubes-less (some n) = refl

-- ---- places

pub row-short : (n k : ℕ) (c : List ℕ) → length c ≤ n → row_place n k c ≡ length c
unfolding trim_front one_place
row-short n k c h = rw (drop_of_length-le c h) (omega arith)

kind-zero : (i : Kind) (w t : Option ℕ) (c : List ℕ) → (i ≡ Other) ⊎ (kind_place i w t c ≡ 0)
kind-zero Empty w t c = inr refl
kind-zero (Inputs n) w t c = inr refl
kind-zero (Outputs n) w t c = inr refl
kind-zero (Products n) w t c = inr refl
kind-zero End w t c = inr refl
kind-zero Other w t c = inl refl

pub kind-none : (i : Kind) (w t : Option ℕ) (c : List ℕ) → (i ≡ Other → ⊥) → kind_place i w t c ≡ 0
kind-none i w t c h = elim (kind-zero i w t c) [ inl e ↦ absurd (h e) | inr z ↦ z ]

pub in-bound : (r : ℕ) (w t : Option ℕ) (k : ℕ) (c : List ℕ) → place_in r w t k c ≤ length c
unfolding place_in
in-bound r w t k c = go (eqb r 3) (eqb r 6)
  where
    o : List ℕ
    o = trim_front (drop (or_zero w) c)

    go : (x y : Bool) → cond x (digit_place c) (cond y (row_place (or_zero w) k c) (kind_place (kind_of c) w t c)) ≤ length c
    go true y = front-bound (λ b. not (is_digit b)) (length c) c
    go false true = omega (arith, one-bound k o, front-le (drop (or_zero w) c), length-drop (or_zero w) c)
    go false false = elim (kind-zero (kind_of c) w t c) [ inl e ↦ rw e (far-bound (forms w t) c) | inr z ↦ omega arith ]

-- the place in the whole line, where what is left does not merely end too soon
pub place_inside : (r : ℕ) (w t : Option ℕ) (k : ℕ) (l : List ℕ) → (place_in r w t k (content l) ≡ length (content l) → ⊥)
    → place_of r w t k l ≡ (content_span l).start + place_in r w t k (content l)
unfolding place_of
place_inside r w t k l h = rw (ne_eqb (place_in r w t k (content l)) (length (content l)) h)

-- the span of what is left of a line
pub span-within : (l : List ℕ) (s : Span) → s ≡ content_span l → (s.start ≤ s.end) × (s.end ≤ length l)
span-within l s e = rw e (omega arith, span-inside l)

-- what is left of l stands at span s, and p is the place in it
module _ (r : ℕ) (w t : Option ℕ) (k : ℕ) (l : List ℕ) (s : Span) (e : s ≡ content_span l)
    (p : ℕ) (q : p ≡ place_in r w t k (take (s.end - s.start) (drop s.start l))) where
  size : s.end ≡ s.start + length (content l)
  size = rw e (omega arith)

  at_place : p ≡ place_in r w t k (content l)
  at_place = let whole : take (s.end - s.start) (drop s.start l) ≡ content l = rw e (span-content l) in q ∙ ap (place_in r w t k) whole

  past : p ≡ s.end - s.start → length l ≡ place_of r w t k l
  unfolding place_of
  past h = rw (← at_place, eq-eqb p (length (content l)) (omega (arith, size, h)))

  inside : (p ≡ s.end - s.start → ⊥) → s.start + p ≡ place_of r w t k l
  inside h = rw (at_place, e) (sym (place_inside r w t k l (λ z. h (omega (arith, size, at_place)))))

  -- the place in l is inside it, and past it where p is past what is left
  pub place_found : (s.start + p ≤ length l) × (p ≡ s.end - s.start → length l ≡ place_of r w t k l)
      × ((p ≡ s.end - s.start → ⊥) → s.start + p ≡ place_of r w t k l)
  place_found = (omega (arith, at_place, size, span-within l s e, in-bound r w t k (content l)), past, inside)
