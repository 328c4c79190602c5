-- A line read as it is written: words one blank apart are its words, and a lone `;` parts its groups. Assumes nothing.
use Prim.Native.Nat.{ℕ, ◌+◌, ◌-◌}
use mathlib.Core.Path.{◌≡◌, refl, sym, ap, ◌∙◌}
use mathlib.Core.Bool.{true, not}
use mathlib.Core.List.{List, [], ◌∷◌, ◌++◌, append_assoc}
use native.Mathlib.Omega.{arith}
use lib.Dec.{eqb}
use lib.ListN.{length, take, drop, length-append}
use lib.Seq.{take_at, drop-append-add}
use borrow.Author.Tests.{not-true}
use Rattle.sets.specs.Lists.{all, is_nil}
use Rattle.sets.proofs.Truth.{both, clash}
use Rattle.drive_request.specs.Words.{words_of, is_part, ahead, first_group, after_group}
use Rattle.drive_request.specs.Meaning.{spread, is_clear, is_word, mark, Unparted}

-- ---- words

word-then : (w t : List ℕ) → is_clear w ≡ true → words_of (w ++ (32 ∷ t)) ≡ w ∷ words_of t
unfolding words_of
word-then [] t h = refl
word-then (b ∷ w) t h = let k = both (not (eqb b 32)) (is_clear w) h in rw (not-true (eqb b 32) k.0, word-then w t k.1)

word-last : (w : List ℕ) → is_word w ≡ true → words_of w ≡ w ∷ []
unfolding words_of
word-last [] h = absurd (clash h refl)
word-last (b ∷ []) h = rw (not-true (eqb b 32) (both (not (eqb b 32)) (is_clear []) h).0)
word-last (b ∷ d ∷ w) h = let k = both (not (eqb b 32)) (is_clear (d ∷ w)) h in rw (not-true (eqb b 32) k.0, word-last (d ∷ w) k.1)

-- the words of words one blank apart are those
pub words_spread : (ws : List (List ℕ)) → all is_word ws ≡ true → words_of (spread ws) ≡ ws
unfolding words_of spread
words_spread [] h = refl
words_spread (w ∷ []) h = word-last w (both (is_word w) true h).0
words_spread (w ∷ v ∷ ws) h = let k = both (is_word w) (all is_word (v ∷ ws)) h in
    word-then w (spread (v ∷ ws)) (both (not (is_nil w)) (is_clear w) k.0).1 ∙ ap (λ l. w ∷ l) (words_spread (v ∷ ws) k.1)

-- ---- groups

-- a group, its blank, and what is written from its `;` on
spread-group : (w : List ℕ) (g h : List (List ℕ)) → spread (w ∷ g ++ (mark ∷ h)) ≡ spread (w ∷ g) ++ (32 ∷ spread (mark ∷ h))
unfolding spread
spread-group w [] h = refl
spread-group w (v ∷ g) h = ap (λ l. w ++ (32 ∷ l)) (spread-group v g h) ∙ sym (append_assoc w (32 ∷ spread (v ∷ g)) (32 ∷ spread (mark ∷ h)))

ahead-group : (w : List ℕ) (g h : List (List ℕ)) → Unparted (w ∷ g) → ahead (w ∷ g ++ (mark ∷ h)) ≡ length (spread (w ∷ g)) + 1
unfolding ahead spread
ahead-group w [] h n = rw (not-true (is_part w) (both (not (is_part w)) true n).0) (omega arith)
ahead-group w (v ∷ g) h n = let k = both (not (is_part w)) (all (λ v. not (is_part v)) (v ∷ g)) n in
    rw (not-true (is_part w) k.0) (omega (arith, ahead-group v g h k.1, length-append w (32 ∷ spread (v ∷ g))))

after-mark : (h : List (List ℕ)) → drop 3 (32 ∷ spread (mark ∷ h)) ≡ spread h
unfolding spread
after-mark [] = refl
after-mark (v ∷ h) = refl

ahead-head : (g h : List (List ℕ)) → Unparted g → take (ahead (g ++ (mark ∷ h)) - 1) (spread (g ++ (mark ∷ h))) ≡ spread g
unfolding ahead spread
ahead-head [] h n = refl
ahead-head (w ∷ g) h n =
    let e : ahead (w ∷ g ++ (mark ∷ h)) - 1 ≡ length (spread (w ∷ g)) = omega (arith, ahead-group w g h n) in
    rw (e, spread-group w g h) (take_at (spread (w ∷ g)) (32 ∷ spread (mark ∷ h)) (length (spread (w ∷ g))) refl)

ahead-tail : (g h : List (List ℕ)) → Unparted g → drop (ahead (g ++ (mark ∷ h)) + 2) (spread (g ++ (mark ∷ h))) ≡ spread h
unfolding ahead
ahead-tail [] h n = after-mark h
ahead-tail (w ∷ g) h n =
    let e : ahead (w ∷ g ++ (mark ∷ h)) + 2 ≡ length (spread (w ∷ g)) + 3 = omega (arith, ahead-group w g h n) in
    rw (e, spread-group w g h) (drop-append-add (spread (w ∷ g)) (32 ∷ spread (mark ∷ h)) 3 ∙ after-mark h)

module _ (g h : List (List ℕ)) (words : all is_word (g ++ (mark ∷ h)) ≡ true) (alone : Unparted g) where
  -- the words before the first lone `;` are the first group
  pub head-spread : first_group (spread (g ++ (mark ∷ h))) ≡ spread g
  head-spread = rw (words_spread (g ++ (mark ∷ h)) words) (ahead-head g h alone)

  -- and those after it the groups that follow
  pub tail-spread : after_group (spread (g ++ (mark ∷ h))) ≡ spread h
  tail-spread = rw (words_spread (g ++ (mark ∷ h)) words) (ahead-tail g h alone)
