-- Where a part of a text ends: up to the first b, without the blanks at either end, as the turns of a loop. Assumes nothing.
use Prim.Native.Nat.{ℕ, suc, ◌+◌, ◌-◌, ◌≤◌}
use mathlib.Core.Path.{◌≡◌, refl, sym, ◌∙◌, ap}
use mathlib.Core.Bool.{Bool, true, false, cond, not, ◌&&◌, and-false}
use mathlib.Core.List.{List, [], ◌∷◌, ◌++◌}
use native.Mathlib.Omega.{arith}
use lib.Dec.{eqb}
use lib.ListN.{length, take, drop, length-drop}
use lib.Seq.{take_all}
use Rattle.sets.{specs.Lists.is_nil}
use Rattle.table_lines.specs.Text.{is_blank, line_of, uncommented, trim_front, trim_end}
use Rattle.std.specs.List.{prefix_len, suffix_len, position_or_len, before_first}
use Rattle.std.proofs.lemmas.{List.Folds.length-prefix_len, Grind.reverse_onto, List.reverse-reverse, List.length-reverse}
use Rattle.std.proofs.{lemmas.List.Sums.take_while-cons, Common.reverse, Common.length-append}

-- what is left from a place on
pub rest-whole : (a : ℕ) (l : List ℕ) → take (length l - a) (drop a l) ≡ drop a l
rest-whole a l = take_all (length l - a) (drop a l) (simp length-drop (omega arith))

-- ---- up to the first b

module _ (F : List ℕ → List ℕ) (b : ℕ) (none : F [] ≡ []) (step : (x : ℕ) (t : List ℕ) → F (x ∷ t) ≡ cond (eqb x b) [] (x ∷ F t)) where
  upto : (t : List ℕ) → F t ≡ before_first (λ x. eqb x b) t
  upto [] = none
  upto (x ∷ t) = step x t ∙ go (eqb x b) (upto t) ∙ sym (take_while-cons (λ y. not (eqb y b)) x t)
    where
      go : (e : Bool) → F t ≡ before_first (λ y. eqb y b) t → cond e [] (x ∷ F t) ≡ cond (not e) (x ∷ before_first (λ y. eqb y b) t) []
      go true h = refl
      go false h = ap (λ (l : List ℕ). x ∷ l) h

pub line-upto : (t : List ℕ) → line_of t ≡ before_first (λ x. eqb x 10) t
unfolding line_of
line-upto t = upto line_of 10 refl (λ x l. refl) t

pub line-length : (t : List ℕ) → length (line_of t) ≡ position_or_len (λ x. eqb x 10) t
line-length t = ap length (line-upto t) ∙ length-prefix_len (λ x. not (eqb x 10)) t

pub uncommented-upto : (t : List ℕ) → uncommented t ≡ before_first (λ x. eqb x 35) t
unfolding uncommented
uncommented-upto t = upto uncommented 35 refl (λ x l. refl) t

pub uncommented-length : (t : List ℕ) → length (uncommented t) ≡ position_or_len (λ x. eqb x 35) t
uncommented-length t = ap length (uncommented-upto t) ∙ length-prefix_len (λ x. not (eqb x 35)) t

-- ---- without the blanks at the front

pub front_is : (l : List ℕ) → drop (prefix_len is_blank l) l ≡ trim_front l
unfolding trim_front
front_is [] = refl
front_is (b ∷ l) = go (is_blank b) (front_is l)
  where
    go : (e : Bool) → drop (prefix_len is_blank l) l ≡ trim_front l → drop (cond e (1 + prefix_len is_blank l) 0) (b ∷ l) ≡ cond e (trim_front l) (b ∷ l)
    go true h = let n : 1 + prefix_len is_blank l ≡ suc (prefix_len is_blank l) = omega arith in ap (λ (k : ℕ). drop k (b ∷ l)) n ∙ h
    go false h = refl

pub front-le : (l : List ℕ) → length (trim_front l) ≤ length l
unfolding trim_front
front-le [] = omega arith
front-le (b ∷ l) = elim (is_blank b) as (λ e. length (cond e (trim_front l) (b ∷ l)) ≤ suc (length l))
    [ true ↦ omega (arith, front-le l) | false ↦ omega arith ]

-- ---- without the blanks at the end

-- a blank more at the end
end-blank : (l : List ℕ) (b : ℕ) → is_blank b ≡ true → trim_end (l ++ (b ∷ [])) ≡ trim_end l
unfolding trim_end
end-blank [] b e = rw e
end-blank (x ∷ l) b e = rw (end-blank l b e)

solid-end : (l : List ℕ) (b : ℕ) → is_nil (l ++ (b ∷ [])) ≡ false
solid-end [] b = refl
solid-end (x ∷ l) b = refl

-- another byte more at the end
end-solid : (l : List ℕ) (b : ℕ) → is_blank b ≡ false → trim_end (l ++ (b ∷ [])) ≡ l ++ (b ∷ [])
unfolding trim_end
end-solid [] b e = rw e
end-solid (x ∷ l) b e = rw (end-solid l b e, solid-end l b, and-false (is_blank x))

pub end-le : (l : List ℕ) → length (trim_end l) ≤ length l
unfolding trim_end
end-le [] = omega arith
end-le (b ∷ l) = elim (is_blank b && is_nil (trim_end l)) as
    (λ e. length (cond e [] (b ∷ trim_end l)) ≤ suc (length l)) [ true ↦ omega arith | false ↦ omega (arith, end-le l) ]

pub end_take : (l : List ℕ) → take (length (trim_end l)) l ≡ trim_end l
unfolding trim_end
end_take [] = refl
end_take (b ∷ l) = elim (is_blank b && is_nil (trim_end l)) as (λ e. take (length (cond e [] (b ∷ trim_end l))) (b ∷ l) ≡ cond e [] (b ∷ trim_end l))
    [ true ↦ refl | false ↦ ap (λ (x : List ℕ). b ∷ x) (end_take l) ]

-- what is trimmed from the end of r backwards is the blanks at the front of r
back-blanks : (r : List ℕ) → length (trim_end (reverse r)) + prefix_len is_blank r ≡ length r
unfolding trim_end
back-blanks [] = refl
back-blanks (b ∷ r) = rw (reverse_onto r b []) (go (is_blank b) refl (back-blanks r))
  where
    go : (e : Bool) → is_blank b ≡ e → length (trim_end (reverse r)) + prefix_len is_blank r ≡ length r
        → length (trim_end (reverse r ++ (b ∷ []))) + cond e (1 + prefix_len is_blank r) 0 ≡ suc (length r)
    go true e h = rw (end-blank (reverse r) b e) (omega arith)
    go false e h = rw (end-solid (reverse r) b e) (omega (arith, length-append (reverse r) (b ∷ []), length-reverse r))

pub end_is : (l : List ℕ) → take (length l - suffix_len is_blank l) l ≡ trim_end l
end_is l = let n : length (trim_end l) ≡ length l - suffix_len is_blank l =
    omega (arith, rw (reverse-reverse l) at (back-blanks (reverse l)), length-reverse l) in rw (← n) (end_take l)
