-- The lines of a text: the first ends at the first LF, and the others are those of what follows it. Assumes nothing.
use Prim.Native.Nat.{ℕ, suc, ◌+◌, ◌-◌, ◌<◌, ◌≤◌}
use mathlib.Core.Path.{◌≡◌, refl, sym, ap, ◌∙◌}
use mathlib.Core.Bool.{Bool, true, false, cond, not}
use mathlib.Core.List.{List, [], ◌∷◌}
use native.Mathlib.Omega.{arith}
use lib.Dec.{eqb}
use lib.ListN.{length, take, drop, length-drop}
use lib.Seq.{drop-drop}
use Rattle.std.{proofs.lemmas.List.Sums.prefix_len-le-length, specs.List.slice_split, specs.List.onto_first}
use Rattle.table_lines.specs.Text.{line_of, onto, lines_of}
use Rattle.table_lines.proofs.Ends.{line-upto, line-length}

-- a line is what stands at the front
pub line-take : (t : List ℕ) → line_of t ≡ take (length (line_of t)) t
line-take t = line-upto t ∙ ap (λ (k : ℕ). take k t) (sym (line-length t))

pub line-le : (t : List ℕ) → length (line_of t) ≤ length t
line-le t = rw (line-length t) (prefix_len-le-length (λ x. not (eqb x 10)) t)

-- a line that ends before the text is followed by the lines of what stands after its LF
pub lines_next : (t : List ℕ) → length (line_of t) < length t → lines_of t ≡ line_of t ∷ lines_of (drop (suc (length (line_of t))) t)
unfolding line_of lines_of
lines_next [] h = absurd (omega arith)
lines_next (b ∷ t) h = go (eqb b 10) h (lines_next t)
  where
    go : (e : Bool) → length (cond e [] (b ∷ line_of t)) < suc (length t)
        → (length (line_of t) < length t → lines_of t ≡ line_of t ∷ lines_of (drop (suc (length (line_of t))) t))
        → cond e ([] ∷ lines_of t) (onto b (lines_of t)) ≡ cond e [] (b ∷ line_of t) ∷ lines_of (drop (suc (length (cond e [] (b ∷ line_of t)))) (b ∷ t))
    go true k f = refl
    go false k f = ap (onto b) (f (omega arith))

-- a line that ends with the text is the last
pub lines-last : (t : List ℕ) → length (line_of t) ≡ length t → lines_of t ≡ line_of t ∷ []
unfolding line_of lines_of
lines-last [] h = refl
lines-last (b ∷ t) h = go (eqb b 10) h (lines-last t)
  where
    go : (e : Bool) → length (cond e [] (b ∷ line_of t)) ≡ suc (length t) → (length (line_of t) ≡ length t → lines_of t ≡ line_of t ∷ [])
        → cond e ([] ∷ lines_of t) (onto b (lines_of t)) ≡ cond e [] (b ∷ line_of t) ∷ []
    go true k f = absurd (omega arith)
    go false k f = ap (onto b) (f (omega arith))

-- the lines are the parts between the LFs
onto-first : (b : ℕ) (ls : List (List ℕ)) → onto_first b ls ≡ onto b ls
onto-first b [] = refl
onto-first b (l ∷ ls) = refl

pub lines-split : (t : List ℕ) → slice_split (λ b. eqb b 10) t ≡ lines_of t
unfolding lines_of
lines-split [] = refl
lines-split (b ∷ t) = ap (λ (ls : List (List ℕ)). cond (eqb b 10) ([] ∷ ls) (onto_first b ls)) (lines-split t)
    ∙ ap (λ (ls : List (List ℕ)). cond (eqb b 10) ([] ∷ lines_of t) ls) (onto-first b (lines_of t))

-- ---- a line that begins at a byte of a text and ends at e

module _ (t : List ℕ) (at e : ℕ) (q : e ≡ at + length (line_of (drop at t))) where
  pub line-part : take (e - at) (drop at t) ≡ line_of (drop at t)
  line-part = let n : e - at ≡ length (line_of (drop at t)) = omega arith in rw n (sym (line-take (drop at t)))

  pub line-ends : at ≤ length t → (at ≤ e) × (e ≤ length t)
  line-ends h = (omega arith, omega (arith, line-le (drop at t), length-drop at t))

  -- what stands after its LF
  pub line_after : drop (suc (length (line_of (drop at t)))) (drop at t) ≡ drop (e + 1) t
  line_after = let n : at + suc (length (line_of (drop at t))) ≡ e + 1 = omega arith in
      drop-drop (suc (length (line_of (drop at t)))) at t ∙ ap (λ (k : ℕ). drop k t) n
