-- The names and the columns of the nodes, case by case. Assumes nothing.
use Rattle.std.proofs.Common.{◌≡◌, ℕ, zero, suc, ◌+◌, ◌-◌, ◌*◌, ◌<◌, ◌≤◌, min, max, Bool, true, false, cond, not, ◌&&◌, ltb, leb, ◌⊎◌, List, [], ◌∷◌, length, get_or, sym, refl, ap, ◌∙◌, ap₂, inl, inr, arith, le-ltb, lt-ltb, leb-false, leb-true}
use mathlib.Core.Option.{Option, none, some}
use Rattle.sets.{specs.Lists.is_nil, specs.Word.largest, proofs.Truth.decided, proofs.Truth.clash}
use Rattle.letters.specs.Told.{or_long, Answered, Told}
use Rattle.letters.specs.declared.{Wrote.Wrote, Wrote.TheVariants.Bytes, Wrote.TheVariants.Refused}
use Rattle.expression.specs.Words.{cube_words, cubes_of, spare_of}
use Rattle.expression.specs.{Expression.expression, Answers.most_handed, Answers.refusal}
use Rattle.expression.proofs.Words.{spare-length}
use Rattle.factor.specs.{Form.form_of, Text.form_text, Text.text_of}
use Rattle.network.specs.{Held.number_at, declared.Network.Network}
use Rattle.network_nodes.specs.Nodes.{cut}
use Rattle.spindle.specs.Node.{longest, name_of, length_of, length_in, length_at, widest_of}

-- ---- the names

module _ (n : Network) (i : ℕ) where
  pub name-output : i < n.outputs → record { letter = 121; number = i } ≡ name_of n i
  unfolding name_of
  name-output h = rw (lt-ltb i n.outputs h)

  pub name-divisor : (k : ℕ) → n.outputs ≤ i → k ≡ min (number_at n.inputs (i - n.outputs)) largest
      → record { letter = 120; number = k } ≡ name_of n i
  unfolding name_of
  name-divisor k h e = rw (le-ltb i n.outputs h, e)

-- ---- the columns

-- how many bytes were written
abbrev pub told : Wrote → ℕ
told (Bytes n) = n
told (Refused k) = 0

abbrev told_of : Option ℕ → List ℕ → ℕ
told_of (some k) t = 0
told_of none t = length t

answered : (q : Option ℕ) (t o o' : List ℕ) (a : Wrote) → Answered q t o o' a → told a ≡ told_of q t
answered (some k) t o o' a p = ap told p.0
answered none t o o' a p = ap told p.0

-- the tests of a writer as one
sift : (m e w : Bool) (t o : List ℕ) → ltb (length o) (length t) ≡ not w
    → told_of (or_long (cond (not m) (some 6) (cond e none (some 7))) t o) t ≡ cond (m && e && w) (length t) 0
unfolding or_long
sift false e w t o h = refl
sift true false w t o h = refl
sift true true true t o h = rw h
sift true true false t o h = rw h

spared : (m : Bool) (t o : List ℕ) → told_of (or_long (cond m (some 6) (some 7)) t o) t ≡ 0
unfolding or_long
spared true t o = refl
spared false t o = refl

past : (a b x y : ℕ) → (x ≤ y → b ≤ a) → (y < x → a < b) → ltb a b ≡ not (leb x y)
past a b x y f g = go (decided (leb x y))
  where
    go : (leb x y ≡ true) ⊎ (leb x y ≡ false) → ltb a b ≡ not (leb x y)
    go (inl p) = rw (p, le-ltb a b (f (leb-true x y p)))
    go (inr p) = rw (p, lt-ltb a b (g (leb-false x y p)))

none_left : (s : List ℕ) → is_nil s ≡ true → length s ≡ 0
none_left [] h = refl
none_left (x ∷ s) h = clash h refl

module _ (ws : List ℕ) where
  few : is_nil (spare_of ws) ≡ true → ltb (cube_words * most_handed) (length ws) ≡ not (leb (length (cubes_of ws)) most_handed)
  few s = past (cube_words * most_handed) (length ws) (length (cubes_of ws)) most_handed
      (λ h. omega (arith, spare-length ws, none_left (spare_of ws) s)) (λ h. omega (arith, spare-length ws, none_left (spare_of ws) s))

  column : (o : List ℕ) → length o ≡ longest → told_of (or_long (refusal ws) (text_of ws) o) (text_of ws) ≡ length_in ws
  unfolding refusal length_of text_of
  column o r = go (decided (is_nil (spare_of ws)))
    where
      go : (is_nil (spare_of ws) ≡ true) ⊎ (is_nil (spare_of ws) ≡ false) → told_of (or_long (refusal ws) (text_of ws) o) (text_of ws) ≡ length_in ws
      go (inl s) = rw (s, few s) (sift (leb (length (cubes_of ws)) most_handed) (expression (cubes_of ws)) (leb (length (text_of ws)) longest) (text_of ws) o
          (past (length o) (length (text_of ws)) (length (text_of ws)) longest (λ h. omega arith) (λ h. omega arith)))
      go (inr s) = rw s (spared (ltb (cube_words * most_handed) (length ws)) (text_of ws) o)

  pub length-told : (o o' : List ℕ) (a : Wrote) → length o ≡ longest → Told (refusal ws) (text_of ws) o o' a → told a ≡ length_in ws
  length-told o o' a r p = answered (or_long (refusal ws) (text_of ws) o) (text_of ws) o o' a p ∙ column o r

-- words with none left over
pub length_whole : (ws : List ℕ) (f : List (List ℕ)) → cubes_of ws ≡ f → spare_of ws ≡ [] → length_in ws ≡ length_of f
length_whole ws f e s = ap₂ (λ g l. cond (is_nil l) (length_of g) 0) e s

within : (a w : Bool) (k : ℕ) → (w ≡ true → k ≤ longest) → cond (a && w) k 0 ≤ longest
within true true k h = h refl
within true false k h = omega arith
within false w k h = omega arith

length_most : (f : List (List ℕ)) → length_of f ≤ longest
unfolding length_of
length_most f =
    let k = length (form_text (form_of f)) in
    within (leb (length f) most_handed && expression f) (leb k longest) k (leb-true k longest)

-- no text that was written is longer
pub length-past : (ws : List ℕ) (k : ℕ) → k ≡ length_in ws → longest < k → 0 ≡ length_in ws
length-past ws k e l = absurd (omega (arith, e, l, go (is_nil (spare_of ws))))
  where
    go : (b : Bool) → cond b (length_of (cubes_of ws)) 0 ≤ longest
    go true = length_most (cubes_of ws)
    go false = omega arith

-- ---- the widest

module _ (n : Network) where
  pub widest-none : 0 ≡ widest_of n 0
  unfolding widest_of
  widest-none = refl

  next : (i : ℕ) → widest_of n (suc i) ≡ max (widest_of n i) (length_at n i)
  unfolding widest_of
  next i = refl

  pub widest-next : (i m r : ℕ) → m ≡ widest_of n i → r ≡ max m (length_at n i) → r ≡ widest_of n (i + 1)
  widest-next i m r e f = let s : i + 1 ≡ suc i = omega arith in rw s (f ∙ ap (λ k. max k (length_at n i)) e ∙ sym (next i))

  widest-most : (i : ℕ) → widest_of n i ≤ longest
  widest-most zero = omega (arith, widest-none)
  widest-most (suc i) = omega (arith, next i, widest-most i, length_most (get_or (cut n.counts (cubes_of n.words)) i []))

  pub widest-whole : (i nodes k m : ℕ) → i ≤ nodes → nodes ≤ i → nodes ≡ k → m ≡ widest_of n i → (m ≡ widest_of n k) × (m ≤ longest)
  widest-whole i nodes k m a b w e = let s : i ≡ k = omega arith in (e ∙ ap (widest_of n) s, omega (arith, e, widest-most i))
