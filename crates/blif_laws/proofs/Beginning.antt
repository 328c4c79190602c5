-- The first word of a text, and that what is accepted begins with `.model`. Assumes nothing.
use Prim.Native.Nat.{ℕ}
use mathlib.Core.Path.{◌≡◌, refl, sym, ap, ap₂, ◌∙◌, subst}
use mathlib.Core.Logic.{inl, inr, ◌↔◌}
use mathlib.Core.Bool.{Bool, true, false, not, ◌&&◌}
use mathlib.Core.List.{List, [], ◌∷◌, ◌++◌}
use native.Mathlib.Omega.{arith}
use lib.Dec.{eqb}
use borrow.Author.Tests.{eqb-true, not-true}
use Rattle.sets.proofs.{Sets.same-eq, Sets.eq-same, Truth.both}
use Rattle.letters_products.specs.Spelled.{spelled}
use Rattle.network.specs.{Net.Net, Handed.gives}
use Rattle.blif_laws.specs.Text.{Model, model_text, model_lines, head_lines, ended, spaced}
use Rattle.blif_laws.specs.Reading.{joined, onto, cut_at, lines_in, words_in, first, is_blif, read_blif}
use Rattle.blif_laws.specs.Meaning.{is_clear, Starts, by_space, by_line, by_end, Writes}
use Rattle.blif_laws.proofs.Judging.{given-iff}

-- the first word of the first line
abbrev word : List ℕ → List ℕ
word t = first (words_in (first (lines_in t)))

-- one byte more at the front, where it is neither space nor LF
word_more : (b : ℕ) (t : List ℕ) → eqb b 32 ≡ false → eqb b 10 ≡ false → word (b ∷ t) ≡ b ∷ word t
unfolding cut_at
word_more b t p q = rw q (go (cut_at 10 t))
  where
    onto-first : (ws : List (List ℕ)) → first (onto b ws) ≡ b ∷ first ws
    onto-first [] = refl
    onto-first (w ∷ ws) = refl

    go : (ls : List (List ℕ)) → first (cut_at 32 (first (onto b ls))) ≡ b ∷ first (cut_at 32 (first ls))
    go [] = rw p (onto-first (cut_at 32 []))
    go (l ∷ ls) = rw p (onto-first (cut_at 32 l))

-- where one of them stands there, the word is at its end
word-space : (t : List ℕ) → word (32 ∷ t) ≡ []
unfolding cut_at
word-space t = go (cut_at 10 t)
  where
    go : (ls : List (List ℕ)) → first (cut_at 32 (first (onto 32 ls))) ≡ []
    go [] = refl
    go (l ∷ ls) = refl

word_line : (t : List ℕ) → word (10 ∷ t) ≡ []
unfolding cut_at
word_line t = refl

first_more : (b : ℕ) (w r : List ℕ) → is_clear (b ∷ w) ≡ true → word (b ∷ r) ≡ b ∷ word r
first_more b w r c =
    let h = both (not (eqb b 32) && not (eqb b 10)) (is_clear w) c in
    let k = both (not (eqb b 32)) (not (eqb b 10)) h.0 in
    word_more b r (not-true _ k.0) (not-true _ k.1)

rest-clear : (b : ℕ) (w : List ℕ) → is_clear (b ∷ w) ≡ true → is_clear w ≡ true
rest-clear b w c = (both (not (eqb b 32) && not (eqb b 10)) (is_clear w) c).1

-- one byte more at the front of both
starts_more : {x y : ℕ} {t w : List ℕ} → x ≡ y → Starts t w → Starts (x ∷ t) (y ∷ w)
starts_more h (by_space r e) = by_space r (ap₂ (λ (z : ℕ) (l : List ℕ). z ∷ l) h e)
starts_more h (by_line r e) = by_line r (ap₂ (λ (z : ℕ) (l : List ℕ). z ∷ l) h e)
starts_more h (by_end e) = by_end (ap₂ (λ (z : ℕ) (l : List ℕ). z ∷ l) h e)

-- and one less
starts-less : {b : ℕ} {w t : List ℕ} → Starts t (b ∷ w) → (r : List ℕ) × (t ≡ b ∷ r) × Starts r w
starts-less {w = w} (by_space r e) = (w ++ (32 ∷ r), e, by_space r refl)
starts-less {w = w} (by_line r e) = (w ++ (10 ∷ r), e, by_line r refl)
starts-less {w = w} (by_end e) = (w, e, by_end refl)

-- every text begins with its first word
word-starts : (t : List ℕ) → Starts t (word t)
unfolding cut_at
word-starts [] = by_end refl
word-starts (b ∷ t) = go (eqb b 32) refl (eqb b 10) refl (word-starts t)
  where
    go : (x : Bool) → eqb b 32 ≡ x → (y : Bool) → eqb b 10 ≡ y → Starts t (word t) → Starts (b ∷ t) (word (b ∷ t))
    go true p y q s =
        let e = eqb-true b 32 p in
        subst (λ (z : ℕ). Starts (z ∷ t) (word (z ∷ t))) (sym e) (subst (Starts (32 ∷ t)) (sym (word-space t)) (by_space t refl))
    go false p true q s = let e = eqb-true b 10 q in subst (λ (z : ℕ). Starts (z ∷ t) (word (z ∷ t))) (sym e) (by_line t refl)
    go false p false q s = subst (Starts (b ∷ t)) (sym (word_more b t p q)) (starts_more refl s)

-- a word without space and LF that a text begins with is its first
starts-word : (w t : List ℕ) → is_clear w ≡ true → Starts t w → word t ≡ w
unfolding cut_at
starts-word [] t c (by_space r e) = ap word e ∙ word-space r
starts-word [] t c (by_line r e) = ap word e ∙ word_line r
starts-word [] t c (by_end e) = ap word e
starts-word (b ∷ w) t c s =
    let q = starts-less s in
    ap word q.1 ∙ first_more b w q.0 c ∙ ap (λ (x : List ℕ). b ∷ x) (starts-word w q.0 (rest-clear b w c) q.2)

model-clear : is_clear (spelled ".model") ≡ true
unfolding spelled
model-clear = refl

-- the first word of the text is `.model` exactly when the joined text begins with it
pub blif-iff : (t : List ℕ) → (is_blif t ≡ true) ↔ Starts (joined t) (spelled ".model")
unfolding is_blif
blif-iff t = (
  λ h. subst (Starts (joined t)) (same-eq _ _ h) (word-starts (joined t)),
  λ s. eq-same _ _ (starts-word (spelled ".model") (joined t) model-clear s),
)

-- what is written begins so
text-begins : (name : List ℕ) (d : Model) → (r : List ℕ) × (model_text name d ≡ spelled ".model" ++ (32 ∷ r))
unfolding model_text model_lines head_lines ended spaced spelled
text-begins name d = (_, refl)

-- the last LF left out takes nothing from a word that a space ends
starts-short : (w t r : List ℕ) → t ++ (10 ∷ []) ≡ w ++ (32 ∷ r) → Starts t w
starts-short [] [] r e = let z : ◌≡◌ {A = ℕ} 10 32 = cc in absurd (omega arith)
starts-short [] (b ∷ t) r e = let h : b ≡ 32 = cc in by_space t (ap (λ (x : ℕ). x ∷ t) h)
starts-short (x ∷ w) [] r e = absurd (nil-more w (let h : [] ≡ w ++ (32 ∷ r) = cc in h))
  where
    nil-more : (w : List ℕ) → [] ≡ w ++ (32 ∷ r) → ⊥
    nil-more [] q = let z : ◌≡◌ {A = ℕ} 0 1 = cc in omega arith
    nil-more (y ∷ w) q = let z : ◌≡◌ {A = ℕ} 0 1 = cc in omega arith
starts-short (x ∷ w) (b ∷ t) r e =
    let h : b ≡ x = cc in
    let k : t ++ (10 ∷ []) ≡ w ++ (32 ∷ r) = cc in
    starts_more h (starts-short w t r k)

starts-text : {t : List ℕ} {d : Model} → Writes t d → Starts t (spelled ".model")
starts-text {t} {d} w = elim w.text [
  | inl e ↦ let b = text-begins w.name d in by_space b.0 (e ∙ b.1)
  | inr e ↦ let b = text-begins w.name d in starts-short (spelled ".model") t b.0 (e ∙ b.1)
]

-- what is accepted is told so
pub read_told : (t : List ℕ) (n : Net) → read_blif t ≡ gives n → is_blif t ≡ true
read_told t n e = let q = ((given-iff t n).0 e).2 in (blif-iff t).1 (starts-text q.1.writes)
