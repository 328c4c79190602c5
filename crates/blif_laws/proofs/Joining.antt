-- No byte of a model's text is a backslash where its name has none, so joining lines leaves the text as it is: words are letters, digits
-- and signs, and what stands between them is space or LF. Assumes nothing.
use Prim.Native.Nat.{ℕ}
use mathlib.Core.Path.{◌≡◌, refl, ap}
use mathlib.Core.Bool.{Bool, true, false, cond, not}
use mathlib.Core.List.Memᴰ.{head as here}
use mathlib.Core.List.Memᴰ.{tail as there}
use mathlib.Core.List.{List, [], ◌∷◌, ◌++◌, map}
use native.Mathlib.Omega.{arith}
use lib.Dec.{leb, eqb}
use borrow.Author.Tests.{leb-true, ne_eqb, not-true}
use Rattle.sets.{specs.Lists.all, specs.Lists.from, specs.Literal.plain_of, specs.Literal.negated_of, specs.Sets.mem}
use Rattle.sets.proofs.Truth.{both, together}
use Rattle.sets.proofs.Lists.{◌∈◌, all_in, all-out, all_join, map-out}
use Rattle.letters.{specs.Letters.decimal, specs.Letters.name_text, specs.Meaning.is_digit, proofs.Numbers.decimal-digits}
use Rattle.letters_products.specs.Spelled.{spelled}
use Rattle.network.specs.Handed.{flat}
use Rattle.network_reads.specs.Reading.{reads_of}
use Rattle.blif_laws.specs.Text.{spaced, ended, Name, variable, output, name_word, first_names, sign_of, row_words, Block, names_words, block_lines}
use Rattle.blif_laws.specs.Text.{Model, head_lines, model_lines, model_text}
use Rattle.blif_laws.specs.Reading.{joined}

-- no byte is a backslash
abbrev free : ℕ → Bool
free b = not (eqb b 92)

abbrev pub unslashed : List ℕ → Bool
unslashed t = all free t

pub joined_same : (t : List ℕ) → unslashed t ≡ true → joined t ≡ t
unfolding joined
joined_same [] h = refl
joined_same (b ∷ []) h = refl
joined_same (b ∷ d ∷ t) h =
    let q = both (free b) (unslashed (d ∷ t)) h in rw (not-true (eqb b 92) q.0) (ap (b ∷◌) (joined_same (d ∷ t) q.1))

-- ---- lines of words

module _ {B : Type 0} (p : B → Bool) where
  flat-all : {A : Type 0} (g : A → List B) (l : List A) → ((x : A) → x ∈ l → all p (g x) ≡ true) → all p (flat (map g l)) ≡ true
  flat-all g [] h = refl
  flat-all g (x ∷ l) h = all_join p (g x) (flat (map g l)) (h x (here refl)) (flat-all g l (λ y m. h y (there m)))

spaced-clean : (ws : List (List ℕ)) → all unslashed ws ≡ true → unslashed (spaced ws) ≡ true
unfolding spaced
spaced-clean [] h = refl
spaced-clean (w ∷ ws) h =
    let q = both (unslashed w) (all unslashed ws) h in
    all_join free w (flat (map (λ u. 32 ∷ u) ws)) q.0 (flat-all free (λ u. 32 ∷ u) ws (λ u m. all-out unslashed m q.1))

ended-clean : (ls : List (List ℕ)) → all unslashed ls ≡ true → unslashed (ended ls) ≡ true
unfolding ended
ended-clean ls h = flat-all free (λ l. l ++ (10 ∷ [])) ls (λ l m. all_join free l (10 ∷ []) (all-out unslashed m h) refl)

-- ---- words

decimal-clean : (n : ℕ) → unslashed (decimal n) ≡ true
decimal-clean n = all_in free (decimal n) (λ b m.
    let q = both (leb 48 b) (leb b 57) (all-out is_digit m (decimal-digits n)) in
    ap not (ne_eqb b 92 (λ e. omega (arith, leb-true b 57 q.1))))

names-clean : (b : ℕ) → not (eqb b 92) ≡ true → (l : List ℕ) → all unslashed (map (name_text b) l) ≡ true
names-clean b h l = all_in unslashed (map (name_text b) l) (λ w m.
    let q = map-out (name_text b) l m in rw q.2 (together (free b) (unslashed (decimal q.0)) h (decimal-clean q.0)))

name-clean : (a : Name) → unslashed (name_word a) ≡ true
unfolding name_word
name-clean (variable v) = decimal-clean v
name-clean (output j) = decimal-clean j

sign-clean : (c : List ℕ) (v : ℕ) → not (eqb (sign_of c v) 92) ≡ true
unfolding sign_of
sign-clean c v = go (mem (plain_of v) c) (mem (negated_of v) c)
  where
    go : (a b : Bool) → not (eqb (cond a 49 (cond b 48 45)) 92) ≡ true
    go true b = refl
    go false true = refl
    go false false = refl

row-clean : (vs c : List ℕ) → all unslashed (row_words vs c) ≡ true
unfolding row_words spelled
row-clean [] c = refl
row-clean (v ∷ vs) c =
    together (unslashed (map (sign_of c) (v ∷ vs))) true
    (all_in free (map (sign_of c) (v ∷ vs)) (λ b m. let q = map-out (sign_of c) (v ∷ vs) m in rw q.2 (sign-clean c q.0))) refl

-- ---- lines

block-clean : (b : Block) → all unslashed (block_lines b) ≡ true
unfolding block_lines names_words spelled
block-clean b = together (unslashed (spaced (names_words b))) _
    (spaced-clean (names_words b) (all_join unslashed (map (name_text 120) (reads_of b.cubes)) _ (names-clean 120 refl (reads_of b.cubes))
    (together (unslashed (name_word b.name)) true (name-clean b.name) refl)))
    (all_in unslashed _ (λ l m. let q = map-out (λ c. spaced (row_words (reads_of b.cubes) c)) b.cubes m in
    rw q.2 (spaced-clean (row_words (reads_of b.cubes) q.0) (row-clean (reads_of b.cubes) q.0))))

-- a keyword and words
keyed-clean : (k : List ℕ) (ws : List (List ℕ)) → unslashed k ≡ true → all unslashed ws ≡ true → unslashed (spaced (k ∷ ws)) ≡ true
keyed-clean k ws h i = spaced-clean (k ∷ ws) (together (unslashed k) (all unslashed ws) h i)

module _ (name : List ℕ) (h : unslashed name ≡ true) where
  head-clean : (n m : ℕ) → all unslashed (head_lines name n m) ≡ true
  unfolding head_lines spelled
  head-clean n m =
      together _ _ (keyed-clean (spelled ".model") (name ∷ []) refl (together (unslashed name) true h refl))
      (together _ _ (keyed-clean (spelled ".inputs") (first_names 120 n) refl (names-clean 120 refl (from 0 n)))
      (together _ true (keyed-clean (spelled ".outputs") (first_names 121 m) refl (names-clean 121 refl (from 0 m))) refl))

  lines-clean : (d : Model) → all unslashed (model_lines name d) ≡ true
  unfolding model_lines spelled
  lines-clean d =
      all_join unslashed (head_lines name d.inputs d.outputs) _ (head-clean d.inputs d.outputs)
      (all_join unslashed (flat (map block_lines d.blocks)) _ (flat-all unslashed block_lines d.blocks (λ b m. block-clean b)) refl)

  -- the text of a model is joined as it is
  pub joined-text : (d : Model) → joined (model_text name d) ≡ model_text name d
  unfolding model_text
  joined-text d = joined_same (model_text name d) (ended-clean (model_lines name d) (lines-clean d))
