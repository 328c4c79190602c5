-- The name of an input in the words of the manual: what is found is what is written, and what is written is found. Assumes nothing.
use Prim.Native.Nat.{ℕ, ◌+◌, ◌/◌, ◌%◌, ◌<◌, ◌≤◌}
use mathlib.Core.Path.{◌≡◌, refl, sym, ap, ◌∙◌, subst}
use mathlib.Core.Logic.{inl, inr, ◌↔◌}
use mathlib.Core.Bool.{Bool, true, false, cond, ◌||◌}
use mathlib.Core.List.Memᴰ
use mathlib.Core.List.{Memᴰ.head as here, Memᴰ.tail as there}
use mathlib.Core.List.{List, [], ◌∷◌, ◌++◌}
use native.Mathlib.Omega.{arith}
use lib.Dec.{eqb, ltb}
use lib.ListN.{length, length-append}
use borrow.Author.Tests.{eqb-true, eq-eqb, ltb-true}
use Rattle.sets.{specs.Lists.all, specs.Lists.is_nil, proofs.Lists.◌∈◌}
use Rattle.sets.proofs.Truth.{either, clash, refuted}
use Rattle.table_lines.specs.Text.{is_blank, starts_blank, Blanks, trim_front, trim_end, lines_of}
use Rattle.table_lines.specs.Meaning.{ends_blank}
use Rattle.table_lines.proofs.Blanks.{blank-shorter, shorter-blank, trimmed, gap-out, front-blanks, starts-gap}
use Rattle.table_lines.proofs.Parting.{front-starts, end-starts, end-ends, end-out, ends-in}
use Rattle.table_rows.specs.Lines.{is_place}
use Rattle.table_names.specs.Names.{after, after_number, name_after, named, starts_place, begins_cube, first_name, name_of, written}
use Rattle.table_names.specs.Meaning.{Gives, Begins, FirstGiven}
use Rattle.table_names.proofs.Naming.{name-there, name-found, name-later, name-few}

-- ---- the parts of a line

after-out : (b : ℕ) (t : List ℕ) → 1 ≤ length (after b t) → t ≡ b ∷ after b t
unfolding after
after-out b [] h = absurd (omega arith)
after-out b (x ∷ t) h = go (eqb x b) refl h
  where
    go : (e : Bool) → eqb x b ≡ e → 1 ≤ length (cond e t []) → x ∷ t ≡ b ∷ cond e t []
    go true q k = ap (◌∷ t) (eqb-true x b q)
    go false q k = absurd (omega arith)

number-out : (i : ℕ) (t : List ℕ) → 1 ≤ length (after_number i t) → t ≡ written i ++ after_number i t
unfolding after_number
number-out i t h = go (ltb i 10) h
  where
    u : List ℕ
    u = after (48 + i / 10) t

    go : (e : Bool) → 1 ≤ length (cond e (after (48 + i) t) (after (48 + i % 10) u))
        → t ≡ cond e ((48 + i) ∷ []) ((48 + i / 10) ∷ (48 + i % 10) ∷ []) ++ cond e (after (48 + i) t) (after (48 + i % 10) u)
    go true k = after-out (48 + i) t k
    go false k = let q = after-out (48 + i % 10) u k in
        after-out (48 + i / 10) t (omega (arith, ap length q)) ∙ ap (λ (r : List ℕ). (48 + i / 10) ∷ r) q

number_in : (i : ℕ) (r : List ℕ) → after_number i (written i ++ r) ≡ r
unfolding after_number after
number_in i r = go (ltb i 10)
  where
    go : (b : Bool) → let t = cond b ((48 + i) ∷ []) ((48 + i / 10) ∷ (48 + i % 10) ∷ []) ++ r in
        cond b (after (48 + i) t) (after (48 + i % 10) (after (48 + i / 10) t)) ≡ r
    go true = rw (eq-eqb (48 + i) (48 + i) refl)
    go false = rw (eq-eqb (48 + i / 10) (48 + i / 10) refl, eq-eqb (48 + i % 10) (48 + i % 10) refl)

name_out : (t : List ℕ) → 1 ≤ length (name_after t) → (length (trim_front t) < length t) × (name_after t ≡ trim_end (trim_front t))
unfolding name_after
name_out t h = go (ltb (length (trim_front t)) (length t)) refl h
  where
    go : (e : Bool) → ltb (length (trim_front t)) (length t) ≡ e → 1 ≤ length (cond e (trim_end (trim_front t)) [])
        → (length (trim_front t) < length t) × (cond e (trim_end (trim_front t)) [] ≡ trim_end (trim_front t))
    go true q k = (ltb-true (length (trim_front t)) (length t) q, refl)
    go false q k = absurd (omega arith)

name_in_lem : (gap w back : List ℕ) → Blanks gap → all is_blank back ≡ true → starts_blank w ≡ false → ends_blank w ≡ false
    → name_after (gap ++ (w ++ back)) ≡ w
name_in_lem gap w back g b s e =
    let t = gap ++ (w ++ back) in
    sym (name-there t (trim_front t) refl (shorter-blank t (starts-gap gap (w ++ back) g)))
    ∙ ap trim_end (front-blanks gap (w ++ back) g.each)
    ∙ ends-in w back s e b

-- ---- a line

joins : {l u a v x t r : List ℕ} (f m n : List ℕ) → l ≡ f ++ u → u ≡ 35 ∷ a → a ≡ m ++ v → v ≡ 120 ∷ x → x ≡ n ++ t → t ≡ r
    → l ≡ f ++ (35 ∷ (m ++ (120 ∷ (n ++ r))))
joins f m n el eu ea ev ex et = cc

named-out : (i : ℕ) (l : List ℕ) → 1 ≤ length (named i l) → Gives i l (named i l)
unfolding named
named-out i l h =
    let f = trimmed l in
    let a = after 35 (trim_front l) in
    let m = trimmed a in
    let x = after 120 (trim_front a) in
    let t = after_number i x in
    let n = name_out t h in
    let g = gap-out t (blank-shorter t n.0) in
    let b = end-out (trim_front t) in
    let et : t ≡ g.0 ++ (name_after t ++ b.0) = g.2 ∙ ap (g.0 ++◌) (b.2 ∙ ap (◌++ b.0) (sym n.1)) in
    let ht : 1 ≤ length t = omega (arith, n.0) in
    let ex : x ≡ written i ++ t = number-out i x ht in
    let hx : 1 ≤ length x = omega (arith, ap length ex, length-append (written i) t) in
    let ea : trim_front a ≡ 120 ∷ x = after-out 120 (trim_front a) hx in
    let ha : 1 ≤ length a = omega (arith, ap length m.2, length-append m.0 (trim_front a), ap length ea) in
    let el : trim_front l ≡ 35 ∷ a = after-out 35 (trim_front l) ha in
    record {
      front = f.0;
      between = m.0;
      gap = g.0;
      back = b.0;
      text = joins f.0 m.0 (written i) f.2 el m.2 ea ex et;
      front-blank = f.1;
      between-blank = m.1;
      apart = g.1;
      back-blank = b.1;
      one = h;
      starts = subst (λ (w : List ℕ). starts_blank w ≡ false) (sym n.1) (end-starts (trim_front t) (front-starts t));
      ends = subst (λ (w : List ℕ). ends_blank w ≡ false) (sym n.1) (end-ends (trim_front t));
    }

solid : (b : ℕ) (r : List ℕ) → is_blank b ≡ false → trim_front (b ∷ r) ≡ b ∷ r
unfolding trim_front
solid b r h = rw h

after-in : (b : ℕ) (r : List ℕ) → after b (b ∷ r) ≡ r
unfolding after
after-in b r = rw (eq-eqb b b refl)

named_in : {i : ℕ} {l w : List ℕ} → Gives i l w → named i l ≡ w
unfolding named
named_in {i} {l} {w} g =
    let t = g.gap ++ (w ++ g.back) in
    let x = written i ++ t in
    let a = g.between ++ (120 ∷ x) in
    let ea : trim_front a ≡ 120 ∷ x = front-blanks g.between (120 ∷ x) g.between-blank ∙ solid 120 x refl in
    let el : trim_front l ≡ 35 ∷ a = ap trim_front g.text ∙ front-blanks g.front (35 ∷ a) g.front-blank ∙ solid 35 a refl in
    ap (λ (z : List ℕ). name_after (after_number i (after 120 (trim_front z)))) (ap (after 35) el ∙ after-in 35 a)
    ∙ ap (λ (z : List ℕ). name_after (after_number i z)) (ap (after 120) ea ∙ after-in 120 x)
    ∙ ap name_after (number_in i t)
    ∙ name_in_lem g.gap w g.back g.apart g.back-blank g.starts g.ends

nothing : (n : List ℕ) → (1 ≤ length n → ⊥) → n ≡ []
nothing [] h = refl
nothing (b ∷ n) h = absurd (h (omega arith))

-- a line gives input i the name w exactly when it is written so
pub named-iff : (i : ℕ) (l w : List ℕ) → 1 ≤ length w → (named i l ≡ w) ↔ Gives i l w
named-iff i l w h = (λ e. subst (Gives i l) e (named-out i l (omega (arith, ap length e))), named_in)

-- and no name exactly when none is
pub named_none : (i : ℕ) (l : List ℕ) → (named i l ≡ []) ↔ ((w : List ℕ) → Gives i l w → ⊥)
named_none i l = (λ e w g. omega (arith, g.one, ap length (sym (named_in g) ∙ e)), λ f. nothing (named i l) (λ h. f (named i l) (named-out i l h)))

-- no place is a blank
place-solid : (x : ℕ) → is_place x ≡ true → is_blank x ≡ false
place-solid x h = elim (either (eqb x 48) (eqb x 49 || eqb x 45) h) [
  | inl e ↦ rw (eqb-true x 48 e)
  | inr k ↦ elim (either (eqb x 49) (eqb x 45) k) [ inl e ↦ rw (eqb-true x 49 e) | inr e ↦ rw (eqb-true x 45 e) ]
]

begins-out : (l f r : List ℕ) → all is_blank f ≡ true → l ≡ f ++ r → starts_place r ≡ true → Begins l
begins-out l f [] h e p = clash p refl
begins-out l f (x ∷ r) h e p = record { front = f; place = x; rest = r; text = e; blank = h; is = p }

-- it begins as a cube line does exactly when its first byte that is no blank is one of `0 1 -`
pub begins-iff : (l : List ℕ) → (begins_cube l ≡ true) ↔ Begins l
unfolding begins_cube
begins-iff l = (
  λ h. let f = trimmed l in begins-out l f.0 (trim_front l) f.1 f.2 h,
  λ b. ap (λ (z : List ℕ). starts_place (trim_front z)) b.text
      ∙ ap starts_place (front-blanks b.front (b.place ∷ b.rest) b.blank ∙ solid b.place b.rest (place-solid b.place b.is))
      ∙ b.is,
)

-- ---- the lines of a text

module _ (i : ℕ) where
  first_out : (ls : List (List ℕ)) → 1 ≤ length (first_name i ls) → FirstGiven i ls (first_name i ls)
  unfolding first_name
  first_out [] h = absurd (omega arith)
  first_out (l ∷ ls) h = go (named i l) refl (begins_cube l) refl h (first_out ls)
    where
      go : (n : List ℕ) → named i l ≡ n → (b : Bool) → begins_cube l ≡ b → 1 ≤ length (cond (is_nil n) (cond b [] (first_name i ls)) n)
          → (1 ≤ length (first_name i ls) → FirstGiven i ls (first_name i ls))
          → FirstGiven i (l ∷ ls) (cond (is_nil n) (cond b [] (first_name i ls)) n)
      go (x ∷ n) e b q k r = record {
        before = [];
        line = l;
        rest = ls;
        text = refl;
        given = (named-iff i l (x ∷ n) (omega arith)).0 e;
        nameless = λ m d. absurd (Memᴰ.not-nil d);
        cubeless = λ m d. absurd (Memᴰ.not-nil d);
      }
      go [] e true q k r = absurd (omega arith)
      go [] e false q k r = let f = r k in record {
        before = l ∷ f.before;
        line = f.line;
        rest = f.rest;
        text = ap (l ∷◌) f.text;
        given = f.given;
        nameless = λ m d. elim (Memᴰ.cases_cons d) [
          | inl g ↦ subst (λ (z : List ℕ). (v : List ℕ) → Gives i z v → ⊥) (sym g) ((named_none i l).0 e)
          | inr g ↦ f.nameless m g
        ];
        cubeless = λ m d. elim (Memᴰ.cases_cons d) [
          | inl g ↦ subst (λ (z : List ℕ). Begins z → ⊥) (sym g) (λ c. clash ((begins-iff l).1 c) q)
          | inr g ↦ f.cubeless m g
        ];
      }

  first-in : (before : List (List ℕ)) (l : List ℕ) (rest : List (List ℕ)) (w : List ℕ) → Gives i l w
      → ((m : List ℕ) → m ∈ before → (v : List ℕ) → Gives i m v → ⊥) → ((m : List ℕ) → m ∈ before → Begins m → ⊥)
      → first_name i (before ++ (l ∷ rest)) ≡ w
  first-in [] l rest w g n o = name-found i l rest (omega (arith, g.one, ap length (named_in g))) ∙ named_in g
  first-in (m ∷ before) l rest w g n o =
      name-later i m (before ++ (l ∷ rest)) ((named_none i m).1 (n m (here refl))) (refuted (λ b. o m (here refl) ((begins-iff m).0 b)))
      ∙ first-in before l rest w g (λ k d. n k (there d)) (λ k d. o k (there d))

  name-given : (t w : List ℕ) → (i < 100) × FirstGiven i (lines_of t) w → name_of i t ≡ w
  name-given t w (h, f) = name-few i t h ∙ ap (first_name i) f.text ∙ first-in f.before f.line f.rest w f.given f.nameless f.cubeless

  name-written : (t : List ℕ) → 1 ≤ length (name_of i t) → (i < 100) × FirstGiven i (lines_of t) (name_of i t)
  unfolding name_of
  name-written t h = go (ltb i 100) refl h
    where
      go : (b : Bool) → ltb i 100 ≡ b → 1 ≤ length (cond b (first_name i (lines_of t)) [])
          → (i < 100) × FirstGiven i (lines_of t) (cond b (first_name i (lines_of t)) [])
      go true q k = (ltb-true i 100 q, first_out (lines_of t) k)
      go false q k = absurd (omega arith)

  -- the name of input i in a text is w exactly when w is the first that its lines give it, before any that begins as a cube line does
  pub name-iff : (t w : List ℕ) → 1 ≤ length w → (name_of i t ≡ w) ↔ ((i < 100) × FirstGiven i (lines_of t) w)
  name-iff t w h =
      (λ e. subst (λ (z : List ℕ). (i < 100) × FirstGiven i (lines_of t) z) e (name-written t (omega (arith, ap length e))), name-given t w)

  -- and there is none exactly when they give none
  pub name-none : (t : List ℕ) → (name_of i t ≡ []) ↔ ((w : List ℕ) → (i < 100) × FirstGiven i (lines_of t) w → ⊥)
  name-none t =
      (λ e w g. omega (arith, g.1.given.one, ap length (sym (name-given t w g) ∙ e)), λ f. nothing (name_of i t) (λ h. f (name_of i t) (name-written t h)))
