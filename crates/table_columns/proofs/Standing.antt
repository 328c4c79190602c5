-- What is left of a line, as it stands in the line, and the one place that a column names. Assumes nothing.
use Prim.Native.Nat.{ℕ, ◌+◌, ◌-◌, ◌<◌, ◌≤◌}
use mathlib.Core.Path.{◌≡◌, sym, ap, ◌∙◌, subst}
use mathlib.Core.{Logic.◌↔◌, Option.Option}
use mathlib.Core.Bool.{Bool, true, false}
use mathlib.Core.List.{List, ◌++◌, append_assoc}
use native.Mathlib.Omega.{arith}
use lib.ListN.{length, take, drop, get_or, length-append}
use lib.Seq.{length-take-le, take_at, take-add, take-take, get_or-take, get_or-drop}
use Rattle.sets.specs.Lists.{any, all}
use Rattle.sets.proofs.{Truth.clash, Truth.below, Truth.equal, Truth.beyond, Truth.compared, Lists.any-in, Lists.none-join, Places.at_in}
use Rattle.table_lines.specs.Text.{is_blank, uncommented, trim_front, content, content_span}
use Rattle.table_lines.proofs.{Blanks.trimmed, Spans.commented, Spans.span-inside, Spans.span-content}
use Rattle.table_columns.specs.Columns.{place_in, place_of, column_of}
use Rattle.table_columns.{specs.Meaning.FirstOf, proofs.Counting.place_inside, proofs.Bytes.none-blank}

-- where what is left of a line starts
abbrev pub start : List ℕ → ℕ
start l = (content_span l).start

module _ (l : List ℕ) where
  -- blanks stand before it
  pub gap-blank : all is_blank (take (start l) l) ≡ true
  gap-blank =
      let u = uncommented l in
      let k = drop (length u) l in
      let f = trimmed u in
      let e = commented l ∙ ap (◌++ k) f.2 ∙ append_assoc f.0 (trim_front u) k in
      let n : length f.0 ≡ start l = omega (arith, ap length f.2, length-append f.0 (trim_front u)) in
      ap (λ (x : List ℕ). all is_blank (take (start l) x)) e ∙ ap (all is_blank) (take_at f.0 (trim_front u ++ k) (start l) n) ∙ f.1

  -- the bytes before a place of it, and the one there
  pub line-take : (p : ℕ) → p ≤ length (content l) → take (start l + p) l ≡ take (start l) l ++ take p (content l)
  line-take p h = let n = (content_span l).end - start l in
      take-add (start l) p l
      ∙ ap (take (start l) l ++◌) (sym (take-take p n (drop (start l) l) (omega arith)) ∙ ap (take p) (span-content l))

  pub line_at : (p : ℕ) → p < length (content l) → get_or l (start l + p) 0 ≡ get_or (content l) p 0
  line_at p h = let n = (content_span l).end - start l in
      sym (get_or-drop (start l) l p 0) ∙ sym (get_or-take n (drop (start l) l) p 0 (omega arith)) ∙ ap (λ (x : List ℕ). get_or x p 0) (span-content l)

-- ---- one place

-- where none is before another
pub only : (P : ℕ → Type 0) → ((p q : ℕ) → P p → P q → p < q → ⊥) → (p q : ℕ) → P p → P q → p ≡ q
only P f p q a b = elim (compared p q) [ below h s t ↦ absurd (f p q a b h) | equal h s t ↦ h | beyond h s t ↦ absurd (f q p b a h) ]

-- a column names it
pub pointed : (P : ℕ → Type 0) (a c : ℕ) → P a → ((p : ℕ) → P p → p ≡ a) → (a + 1 ≡ c) ↔ ((p : ℕ) × (c ≡ p + 1) × P p)
pointed P a c h u = (λ e. (a, sym e, h), λ w. let e = u w.0 w.2 in omega (arith, w.1))

-- ---- the first byte that passes a test

module _ (f : ℕ → Bool) (l : List ℕ) where
  -- no other
  before-none : (p q : ℕ) → FirstOf f l p → FirstOf f l q → p < q → ⊥
  before-none p q a b h =
      let i : p < length (take q l) = omega (arith, length-take-le q l (omega (arith, b.inside))) in
      clash (any-in f (at_in (take q l) p 0 i) (ap f (get_or-take q l p 0 h) ∙ a.there)) b.before

  -- no blank passes it: the first in what is left is the first in the line, and a column names it
  module _ (solid : (x : ℕ) → is_blank x ≡ true → f x ≡ false) where
    first-left : (p : ℕ) → FirstOf f (content l) p → FirstOf f l (start l + p)
    first-left p h = record {
      inside = omega (arith, h.inside, span-inside l);
      there = ap f (line_at l p h.inside) ∙ h.there;
      before = ap (any f) (line-take l p (omega (arith, h.inside)))
          ∙ none-join f (take (start l) l) (take p (content l)) (none-blank f solid (take (start l) l) (gap-blank l)) h.before;
    }

    pub first-pointed : (r : ℕ) (w t : Option ℕ) (k c : ℕ) → FirstOf f (content l) (place_in r w t k (content l))
        → (column_of r w t k l ≡ c) ↔ ((p : ℕ) × (c ≡ p + 1) × FirstOf f l p)
    first-pointed r w t k c h =
        let i = place_in r w t k (content l) in
        let g : FirstOf f l (place_of r w t k l) =
        subst (FirstOf f l) (sym (place_inside r w t k l (λ e. omega (arith, h.inside)))) (first-left i h) in
        pointed (FirstOf f l) (place_of r w t k l) c g (λ p q. only (FirstOf f l) before-none p (place_of r w t k l) q g)
