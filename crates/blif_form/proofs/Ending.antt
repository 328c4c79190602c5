-- Texts of lines that are each ended by LF: lines after lines, and the last with or without its LF. Assumes nothing.
use Prim.Native.Nat.{ℕ}
use mathlib.Core.Path.{◌≡◌, refl, sym, ap, ◌∙◌, subst}
use mathlib.Core.Logic.{◌⊎◌, inl, inr}
use mathlib.Core.Bool.{true}
use mathlib.Core.List.{List, [], ◌∷◌, ◌++◌, map, map-append, append-nil, append_assoc, append_cancel_right}
use lib.Dec.{eqb}
use Rattle.sets.proofs.Truth.{clash}
use Rattle.network.{specs.Handed.flat, proofs.Handing.flat_append}
use Rattle.blif_laws.{specs.Text.ended, specs.Reading.pointed}

-- ---- lines, and what comes after them

pub ended-append : (ls ks : List (List ℕ)) → ended (ls ++ ks) ≡ ended ls ++ ended ks
unfolding ended
ended-append ls ks = ap flat (map-append (λ l. l ++ (10 ∷ [])) ls ks) ∙ flat_append (map (λ l. l ++ (10 ∷ [])) ls) (map (λ l. l ++ (10 ∷ [])) ks)

-- ---- the last line with or without its LF

abbrev pub Closes : List ℕ → List (List ℕ) → Type 0
Closes t ls = (t ≡ ended ls) ⊎ (t ++ (10 ∷ []) ≡ ended ls)

pub closes_in : (t u : List ℕ) (ls ks : List (List ℕ)) → t ≡ ended ls ++ u → Closes u ks → Closes t (ls ++ ks)
closes_in t u ls ks e (inl c) = inl (e ∙ ap (ended ls ++◌) c ∙ sym (ended-append ls ks))
closes_in t u ls ks e (inr c) =
    inr (ap (◌++ (10 ∷ [])) e ∙ append_assoc (ended ls) u (10 ∷ []) ∙ ap (ended ls ++◌) c ∙ sym (ended-append ls ks))

pub closes-out : (t : List ℕ) (ls ks : List (List ℕ)) (k : List ℕ) → Closes t (ls ++ (ks ++ (k ∷ [])))
    → (u : List ℕ) × (t ≡ ended ls ++ u) × Closes u (ks ++ (k ∷ []))
unfolding ended
closes-out t ls ks k (inl c) = (ended (ks ++ (k ∷ [])), c ∙ ended-append ls (ks ++ (k ∷ [])), inl refl)
closes-out t ls ks k (inr c) = (ended ks ++ k, append_cancel_right t (ended ls ++ (ended ks ++ k)) (10 ∷ []) whole, inr last)
  where
    last : (ended ks ++ k) ++ (10 ∷ []) ≡ ended (ks ++ (k ∷ []))
    last = append_assoc (ended ks) k (10 ∷ []) ∙ ap (ended ks ++◌) (sym (append-nil (k ++ (10 ∷ [])))) ∙ sym (ended-append ks (k ∷ []))

    whole : t ++ (10 ∷ []) ≡ (ended ls ++ (ended ks ++ k)) ++ (10 ∷ [])
    whole = c ∙ ended-append ls (ks ++ (k ∷ [])) ∙ ap (ended ls ++◌) (sym last) ∙ sym (append_assoc (ended ls) (ended ks ++ k) (10 ∷ []))

-- what begins with a line that begins with a point
pub closes-point : (t l : List ℕ) (ls : List (List ℕ)) → pointed l ≡ true → Closes t (l ∷ ls) → pointed t ≡ true
unfolding ended
closes-point t [] ls h c = clash h refl
closes-point t (b ∷ l) ls h (inl c) = ap pointed c ∙ h
closes-point [] (b ∷ l) ls h (inr c) = let e : 10 ≡ b = cc in clash (subst (λ x. eqb x 46 ≡ true) (sym e) h) refl
closes-point (x ∷ t) (b ∷ l) ls h (inr c) = let e : x ≡ b = cc in subst (λ y. eqb y 46 ≡ true) (sym e) h
