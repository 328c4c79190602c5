-- The words of a text from a place on: the first ends at the first blank, and the others are those of what follows it. Assumes nothing.
use Prim.Native.Nat.{ℕ, suc, ◌+◌, ◌<◌, ◌≤◌}
use mathlib.Core.Path.{◌≡◌, refl, sym, ap, ◌∙◌}
use mathlib.Core.Bool.{Bool, true, false, cond, not, ◌&&◌}
use Rattle.std.proofs.lemmas.Grind.{common_steps}
use Rattle.std.specs.Prelude.{Some, None, ◌==◌, if◌then◌else◌, unwrap_or}
use Rattle.std.specs.{List.position_or_len, List.position, List.ends_with, List.filter}
use mathlib.Core.List.{List, [], ◌∷◌}
use mathlib.Core.Logic.{inl, inr}
use native.Mathlib.Omega.{arith}
use lib.Dec.{eqb, ltb}
use lib.ListN.{length, get_or, take, drop, drop_of_length-le}
use borrow.Author.Tests.{ltb-false, eq-eqb, ne_eqb, not-true, not-false}
use Rattle.sets.{specs.Lists.is_nil, specs.Lists.total, proofs.Truth.decided, proofs.Places.drop-next, proofs.Rows.nil-of}
use Rattle.drive_request.specs.Words.{index_of, index_after, onto, words_of, is_part, ahead, ends_blank, filled, parts_in, groups_of}

pub index-le : (b : ℕ) (t : List ℕ) → index_of b t ≤ length t
unfolding index_of
index-le b [] = omega arith
index-le b (x ∷ t) = elim (eqb x b) as (λ e. index_after e (index_of b t) ≤ suc (length t))
    [ true ↦ omega arith | false ↦ omega (arith, index-le b t) ]

-- where the byte stands, one place further on, and past the end
module _ (b : ℕ) (t : List ℕ) (i : ℕ) where
  pub index-stop : i < length t → get_or t i 0 ≡ b → index_of b (drop i t) ≡ 0
  unfolding index_of
  index-stop h e = rw (drop-next t i 0 h, eq-eqb (get_or t i 0) b e)

  pub index_on : i < length t → (get_or t i 0 ≡ b → ⊥) → index_of b (drop i t) ≡ suc (index_of b (drop (i + 1) t))
  unfolding index_of
  index_on h e = rw (drop-next t i 0 h, ne_eqb (get_or t i 0) b e)

  pub index-done : length t ≤ i → index_of b (drop i t) ≡ 0
  unfolding index_of
  index-done h = rw (drop_of_length-le t h)

prefix-index : (b : ℕ) (t : List ℕ) → position_or_len (λ x. eqb x b) t ≡ index_of b t
unfolding index_of
prefix-index b [] = refl
prefix-index b (x ∷ t) = elim (eqb x b) as (λ e. cond (not e) (1 + position_or_len (λ x. eqb x b) t) 0 ≡ index_after e (index_of b t))
    [ true ↦ refl | false ↦ omega (arith, prefix-index b t) ]

-- where a search finds it, or else the length
pub index-position : (b : ℕ) (t : List ℕ) → unwrap_or (position (λ x. eqb x b) t) (length t) ≡ index_of b t
index-position b t = rw (prefix-index b t) (elim (decided (ltb (index_of b t) (length t))) [
  | inl k ↦ rw k
  | inr k ↦ rw k (omega (arith, index-le b t, ltb-false (index_of b t) (length t) k))
])

pub words-none : (t : List ℕ) → length t < 1 → words_of t ≡ []
unfolding words_of
words-none [] h = refl
words-none (b ∷ t) h = absurd (omega arith)

pub words-first : (t : List ℕ) → 1 ≤ length t → words_of t ≡ take (index_of 32 t) t ∷ words_of (drop (suc (index_of 32 t)) t)
unfolding words_of index_of
words-first [] h = absurd (omega arith)
words-first (b ∷ []) h = elim (eqb b 32)
    as (λ e. cond e ([] ∷ []) ((b ∷ []) ∷ []) ≡ take (index_after e 0) (b ∷ []) ∷ words_of (drop (suc (index_after e 0)) (b ∷ [])))
    [ true ↦ refl | false ↦ refl ]
words-first (b ∷ d ∷ t) h = go (eqb b 32) (words-first (d ∷ t) (omega arith))
  where
    r : List ℕ
    r = d ∷ t

    go : (e : Bool) → words_of (d ∷ t) ≡ take (index_of 32 (d ∷ t)) (d ∷ t) ∷ words_of (drop (suc (index_of 32 (d ∷ t))) (d ∷ t))
        → cond e ([] ∷ words_of (d ∷ t)) (onto b (words_of (d ∷ t)))
        ≡ take (index_after e (index_of 32 (d ∷ t))) (b ∷ d ∷ t) ∷ words_of (drop (suc (index_after e (index_of 32 (d ∷ t)))) (b ∷ d ∷ t))
    go true k = refl
    go false k = ap (onto b) k

-- ---- words and the bytes that they take

-- the words take no more bytes, a blank after each, than the text and a blank
pub words-span : (t : List ℕ) → total (λ w. length w + 1) (words_of t) ≤ length t + 1
unfolding words_of
words-span [] = omega arith
words-span (b ∷ t) = elim (eqb b 32) as (λ e. total (λ w. length w + 1) (cond e ([] ∷ words_of t) (onto b (words_of t))) ≤ length (b ∷ t) + 1)
    [ true ↦ omega (arith, words-span t) | false ↦ onto-span (words_of t) (words-span t) ]
  where
    onto-span : (ws : List (List ℕ)) → total (λ w. length w + 1) ws ≤ length t + 1 → total (λ w. length w + 1) (onto b ws) ≤ length (b ∷ t) + 1
    onto-span [] h = omega arith
    onto-span (w ∷ ws) h = omega (arith, h)

-- no more of them than bytes
pub words-few : (t : List ℕ) → length (words_of t) ≤ length t
unfolding words_of
words-few [] = omega arith
words-few (b ∷ t) = elim (eqb b 32) as (λ e. length (cond e ([] ∷ words_of t) (onto b (words_of t))) ≤ length (b ∷ t))
    [ true ↦ omega (arith, words-few t) | false ↦ onto-few (words_of t) (words-few t) ]
  where
    onto-few : (ws : List (List ℕ)) → length ws ≤ length t → length (onto b ws) ≤ length (b ∷ t)
    onto-few [] h = omega arith
    onto-few (w ∷ ws) h = omega (arith, h)

-- a word at the front, and none
module _ {ws : List (List ℕ)} {w : List ℕ} {vs : List (List ℕ)} (e : ws ≡ w ∷ vs) where
  pub ahead-stop : is_part w ≡ true → ahead ws ≡ 0
  unfolding ahead
  ahead-stop p = rw (e, p)

  pub ahead-on : is_part w ≡ false → ahead ws ≡ length w + 1 + ahead vs
  unfolding ahead
  ahead-on p = rw (e, p)

pub ahead-done : {ws : List (List ℕ)} → ws ≡ [] → ahead ws ≡ 0
unfolding ahead
ahead-done e = rw e

-- ---- how many groups a line has

-- a blank at the end is the last byte
pub ends-last : (l : List ℕ) → ends_with eqb l (32 ∷ []) ≡ ends_blank l
ends-last [] = refl
ends-last (b ∷ l) = grind (arith, common_steps)

-- no word more is empty, and each lone `;` is counted
module _ {ws : List (List ℕ)} {w : List ℕ} {vs : List (List ℕ)} (e : ws ≡ w ∷ vs) where
  pub filled-stop : length w ≡ 0 → filled ws ≡ false
  filled-stop n = rw (e, nil-of w n)

  pub filled_on : (length w ≡ 0 → ⊥) → filled ws ≡ filled vs
  filled_on n = rw e (kept w n)
    where
      kept : (v : List ℕ) → (length v ≡ 0 → ⊥) → (not (is_nil v) && filled vs) ≡ filled vs
      kept [] h = absurd (h refl)
      kept (b ∷ v) h = refl

  pub parts_next : parts_in ws ≡ cond (is_part w) 1 0 + parts_in vs
  parts_next = rw e

-- no more of these than words
pub parts-few : (ws : List (List ℕ)) → parts_in ws ≤ length ws
parts-few [] = omega arith
parts-few (w ∷ ws) = elim (is_part w) as (λ e. cond e 1 0 + parts_in ws ≤ suc (length ws))
    [ true ↦ omega (arith, parts-few ws) | false ↦ omega (arith, parts-few ws) ]

module _ (line : List ℕ) where
  pub groups-blank : ends_blank line ≡ true → groups_of line ≡ 0
  unfolding groups_of
  groups-blank b = rw b

  pub groups-empty : filled (words_of line) ≡ false → groups_of line ≡ 0
  unfolding groups_of
  groups-empty a = rw a (elim (not (ends_blank line)) as (λ e. cond (e && false) (parts_in (words_of line) + 1) 0 ≡ 0) [ true ↦ refl | false ↦ refl ])

  pub groups-spaced : ends_blank line ≡ false → filled (words_of line) ≡ true
      → Some (parts_in (words_of line) + 1) ≡ (if groups_of line == 0 then None else Some (groups_of line))
  unfolding groups_of
  groups-spaced b a = rw (b, a, ne_eqb (parts_in (words_of line) + 1) 0 (λ e. absurd (omega arith)))
