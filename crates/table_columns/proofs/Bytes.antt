-- The bytes of what is of a kind: but for blanks they stand past the blanks and `#`. Assumes nothing.
use Prim.Native.Nat.{ℕ}
use mathlib.Core.{Path.◌≡◌, Path.◌∙◌, Logic.inl, Logic.inr, List.List}
use mathlib.Core.Bool.{Bool, true, false, not, ◌||◌, or_assoc}
use native.Mathlib.Omega.{arith}
use lib.Dec.{eqb, leb}
use borrow.Author.Tests.{eqb-true, ne_eqb, leb-true, le-leb}
use Rattle.sets.specs.Lists.{any, all}
use Rattle.sets.proofs.Truth.{both, either, refuted, clash}
use Rattle.sets.proofs.Lists.{all-out, any_out, all-imp}
use Rattle.letters.specs.Meaning.{is_digit}
use Rattle.table_lines.specs.{Text.is_blank, Meaning.lacks}
use Rattle.table_rows.specs.Lines.{is_place, is_mark}

-- ---- sorts of bytes

-- one of `0 1 -` is a mark, or `-`
pub place-mark : (b : ℕ) → (is_mark b || eqb b 45) ≡ is_place b
place-mark b = or_assoc (eqb b 48) (eqb b 49) (eqb b 45)

-- past the blanks and `#`
abbrev pub high : ℕ → Bool
high b = leb 45 b

pub digit-high : (x : ℕ) → is_digit x ≡ true → high x ≡ true
digit-high x h = let l = leb-true 48 x (both (leb 48 x) (leb x 57) h).0 in le-leb 45 x (omega arith)

pub mark-high : (x : ℕ) → is_mark x ≡ true → high x ≡ true
mark-high x h = elim (either (eqb x 48) (eqb x 49) h) [ inl e ↦ rw (eqb-true x 48 e) | inr e ↦ rw (eqb-true x 49 e) ]

pub place-high : (x : ℕ) → is_place x ≡ true → high x ≡ true
place-high x h = elim (either (is_mark x) (eqb x 45) (place-mark x ∙ h)) [ inl e ↦ mark-high x e | inr e ↦ rw (eqb-true x 45 e) ]

pub high-solid : (x : ℕ) → high x ≡ true → is_blank x ≡ false
high-solid x h = let l = leb-true 45 x h in rw (ne_eqb x 32 (omega arith), ne_eqb x 9 (omega arith), ne_eqb x 13 (omega arith))

-- no `#`
abbrev pub plain : ℕ → Bool
plain x = not (eqb x 35)

high-plain : (x : ℕ) → high x ≡ true → plain x ≡ true
high-plain x h = let l = leb-true 45 x h in rw (ne_eqb x 35 (omega arith))

blank-plain : (x : ℕ) → is_blank x ≡ true → plain x ≡ true
blank-plain x h = rw (refuted {b = eqb x 35} (λ e. clash h (rw (eqb-true x 35 e))))

pub highs-plain : (l : List ℕ) → all high l ≡ true → lacks 35 l ≡ true
highs-plain = all-imp high plain high-plain

pub blanks-plain : (l : List ℕ) → all is_blank l ≡ true → lacks 35 l ≡ true
blanks-plain = all-imp is_blank plain blank-plain

-- a test that no blank passes
pub none-blank : (f : ℕ → Bool) → ((x : ℕ) → is_blank x ≡ true → f x ≡ false) → (l : List ℕ) → all is_blank l ≡ true → any f l ≡ false
none-blank f i l h = refuted (λ e. let w = any_out f l e in clash w.2 (i w.0 (all-out is_blank w.1 h)))
