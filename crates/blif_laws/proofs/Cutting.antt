-- Cutting a text at a byte and putting its pieces together, each undoing the other, by induction on the text; lines and words follow. Assumes nothing.
use Prim.Native.Nat.{ℕ, ◌≤◌}
use mathlib.Core.Path.{◌≡◌, refl, sym, ap, ◌∙◌}
use mathlib.Core.Bool.{Bool, true, false, cond, not, ◌&&◌}
use mathlib.Core.List.{List, [], ◌∷◌, ◌++◌, map, append-nil, append_assoc, append_cancel_right}
use native.Mathlib.Omega.{arith}
use lib.Dec.{eqb}
use lib.ListN.{length}
use borrow.Author.Tests.{eqb-true, eq-eqb}
use Rattle.sets.{specs.Lists.all, proofs.Truth.both, proofs.Truth.together}
use Rattle.sets.proofs.Lists.{◌∈◌, all_in, all-out, all_append}
use Rattle.table_lines.{specs.Meaning.lacks, proofs.Parting.lacks-first}
use Rattle.network.specs.Handed.{flat}
use Rattle.blif_laws.specs.{Text.spaced, Text.ended, Meaning.is_clear}
use Rattle.blif_laws.specs.Reading.{onto, cut_at, lines_in, words_in}

-- ---- any byte

-- pieces, b between each and the next
abbrev pub glued : ℕ → List (List ℕ) → List ℕ
glued b [] = []
glued b (w ∷ ws) = w ++ flat (map (λ u. b ∷ u) ws)

-- a text without b is one piece
pub cut-one : (b : ℕ) (w : List ℕ) → lacks b w ≡ true → cut_at b w ≡ w ∷ []
unfolding cut_at
cut-one b [] h = refl
cut-one b (x ∷ w) h = let r = lacks-first b x w h in rw r.0 (ap (onto x) (cut-one b w r.1))

-- a piece ends at the first b
pub cut-more : (b : ℕ) (w t : List ℕ) → lacks b w ≡ true → cut_at b (w ++ (b ∷ t)) ≡ w ∷ cut_at b t
unfolding cut_at
cut-more b [] t h = rw (eq-eqb b b refl)
cut-more b (x ∷ w) t h = let r = lacks-first b x w h in rw r.0 (ap (onto x) (cut-more b w t r.1))

-- pieces without b that are put together are cut again
pub cut-glued : (b : ℕ) (w : List ℕ) (ws : List (List ℕ)) → all (lacks b) (w ∷ ws) ≡ true → cut_at b (glued b (w ∷ ws)) ≡ w ∷ ws
cut-glued b w [] h = rw append-nil (cut-one b w (both (lacks b w) true h).0)
cut-glued b w (u ∷ ws) h = let r = both (lacks b w) (all (lacks b) (u ∷ ws)) h in
    cut-more b w (glued b (u ∷ ws)) r.0 ∙ ap (w ∷◌) (cut-glued b u ws r.1)

-- what is cut: pieces, one or more, none of which has b, and put together they are the text
pub record Pieces (b : ℕ) (t : List ℕ) (ws : List (List ℕ)) : Type 0 where
  pub one : 1 ≤ length ws
  pub each : all (lacks b) ws ≡ true
  pub text : glued b ws ≡ t

pub cut_out : (b : ℕ) (t : List ℕ) → Pieces b t (cut_at b t)
unfolding cut_at
cut_out b [] = record { one = omega arith; each = refl; text = refl }
cut_out b (x ∷ t) = go (eqb x b) refl (cut_at b t) (cut_out b t)
  where
    go : (e : Bool) → eqb x b ≡ e → (ws : List (List ℕ)) → Pieces b t ws → Pieces b (x ∷ t) (cond e ([] ∷ ws) (onto x ws))
    go e q [] r = absurd (omega (arith, r.one))
    go true q (w ∷ ws) r = record { one = omega arith; each = r.each; text = rw (eqb-true x b q) (ap (b ∷◌) r.text) }
    go false q (w ∷ ws) r = record { one = omega arith; each = rw q r.each; text = ap (x ∷◌) r.text }

-- a last b begins one more piece, which is empty
pub cut-last : (b : ℕ) (t : List ℕ) → cut_at b (t ++ (b ∷ [])) ≡ cut_at b t ++ ([] ∷ [])
unfolding cut_at
cut-last b [] = rw (eq-eqb b b refl)
cut-last b (x ∷ t) = go (eqb x b) (cut_at b t) (cut_out b t) (cut-last b t)
  where
    go : (e : Bool) (ws : List (List ℕ)) → Pieces b t ws → cut_at b (t ++ (b ∷ [])) ≡ ws ++ ([] ∷ [])
        → cond e ([] ∷ cut_at b (t ++ (b ∷ []))) (onto x (cut_at b (t ++ (b ∷ [])))) ≡ cond e ([] ∷ ws) (onto x ws) ++ ([] ∷ [])
    go e [] r q = absurd (omega (arith, r.one))
    go true (w ∷ ws) r q = ap ([] ∷◌) q
    go false (w ∷ ws) r q = ap (onto x) q

-- ---- lines

glued-ended : (ls : List (List ℕ)) → glued 10 (ls ++ ([] ∷ [])) ≡ ended ls
unfolding ended
glued-ended [] = refl
glued-ended (l ∷ []) = sym (append-nil (l ++ (10 ∷ [])))
glued-ended (l ∷ m ∷ ls) = ap (λ (x : List ℕ). l ++ (10 ∷ x)) (glued-ended (m ∷ ls)) ∙ sym (append_assoc l (10 ∷ []) (ended (m ∷ ls)))

-- lines that are each ended by LF, and nothing after the last LF
pub lines-ended : (ls : List (List ℕ)) → all (lacks 10) ls ≡ true → lines_in (ended ls) ≡ ls ++ ([] ∷ [])
unfolding ended cut_at
lines-ended [] h = refl
lines-ended (l ∷ ls) h = let r = both (lacks 10 l) (all (lacks 10) ls) h in
    ap (cut_at 10) (append_assoc l (10 ∷ []) (ended ls)) ∙ cut-more 10 l (ended ls) r.0 ∙ ap (l ∷◌) (lines-ended ls r.1)

-- the last of them not ended
pub lines-short : (t : List ℕ) (ls : List (List ℕ)) → all (lacks 10) ls ≡ true → t ++ (10 ∷ []) ≡ ended ls → lines_in t ≡ ls
lines-short t ls h e = append_cancel_right (lines_in t) ls ([] ∷ []) (sym (cut-last 10 t) ∙ ap (cut_at 10) e ∙ lines-ended ls h)

-- no line has LF
pub lines-lack : (t : List ℕ) → all (lacks 10) (lines_in t) ≡ true
lines-lack t = (cut_out 10 t).each

-- and back
pub ended-lines : (t : List ℕ) (ls : List (List ℕ)) → lines_in t ≡ ls ++ ([] ∷ []) → t ≡ ended ls
ended-lines t ls e = sym (cut_out 10 t).text ∙ ap (glued 10) e ∙ glued-ended ls

pub short-lines : (t : List ℕ) (ls : List (List ℕ)) → lines_in t ≡ ls → t ++ (10 ∷ []) ≡ ended ls
short-lines t ls e = ended-lines (t ++ (10 ∷ [])) ls (cut-last 10 t ∙ ap (◌++ ([] ∷ [])) e)

-- ---- words

spaced-glued : (ws : List (List ℕ)) → spaced ws ≡ glued 32 ws
unfolding spaced
spaced-glued [] = refl
spaced-glued (w ∷ ws) = refl

-- words one space apart
pub words-spaced : (w : List ℕ) (ws : List (List ℕ)) → all (lacks 32) (w ∷ ws) ≡ true → words_in (spaced (w ∷ ws)) ≡ w ∷ ws
words-spaced w ws h = ap (cut_at 32) (spaced-glued (w ∷ ws)) ∙ cut-glued 32 w ws h

-- no word has a space
pub words-lack : (l : List ℕ) → all (lacks 32) (words_in l) ≡ true
words-lack l = (cut_out 32 l).each

-- and back
pub spaced-words : (l : List ℕ) → spaced (words_in l) ≡ l
spaced-words l = spaced-glued (words_in l) ∙ (cut_out 32 l).text

-- ---- words of lines: neither space nor LF is in them

pub clear_in : (w : List ℕ) → lacks 32 w ≡ true → lacks 10 w ≡ true → is_clear w ≡ true
clear_in w h k = all_in _ w (λ x m. together _ _ (all-out (λ y. not (eqb y 32)) m h) (all-out (λ y. not (eqb y 10)) m k))

pub clear-out : (w : List ℕ) → is_clear w ≡ true → (lacks 32 w ≡ true) × (lacks 10 w ≡ true)
clear-out w h = (all_in _ w (λ x m. (apart x m).0), all_in _ w (λ x m. (apart x m).1))
  where
    apart : (x : ℕ) → x ∈ w → (not (eqb x 32) ≡ true) × (not (eqb x 10) ≡ true)
    apart x m = both _ _ (all-out (λ y. not (eqb y 32) && not (eqb y 10)) m h)

-- LF is in a line where it is in a word
lacks-apart : (ws : List (List ℕ)) → lacks 10 (flat (map (λ u. 32 ∷ u) ws)) ≡ all (lacks 10) ws
lacks-apart [] = refl
lacks-apart (u ∷ ws) = all_append (λ y. not (eqb y 10)) u (flat (map (λ u. 32 ∷ u) ws)) ∙ ap (lacks 10 u &&◌) (lacks-apart ws)

pub lacks-spaced : (ws : List (List ℕ)) → lacks 10 (spaced ws) ≡ all (lacks 10) ws
unfolding spaced
lacks-spaced [] = refl
lacks-spaced (w ∷ ws) = all_append (λ y. not (eqb y 10)) w (flat (map (λ u. 32 ∷ u) ws)) ∙ ap (lacks 10 w &&◌) (lacks-apart ws)

module _ (ws : List (List ℕ)) (h : all is_clear ws ≡ true) where
  each-clear : (u : List ℕ) → u ∈ ws → (lacks 32 u ≡ true) × (lacks 10 u ≡ true)
  each-clear u m = clear-out u (all-out is_clear m h)

  pub clear-words : all (lacks 32) ws ≡ true
  clear-words = all_in (lacks 32) ws (λ u m. (each-clear u m).0)

  pub clear-line : lacks 10 (spaced ws) ≡ true
  clear-line = lacks-spaced ws ∙ all_in (lacks 10) ws (λ u m. (each-clear u m).1)
