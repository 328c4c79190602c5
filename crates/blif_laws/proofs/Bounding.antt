-- Each name that stands takes a byte of the text, and below v without a gap stand v names; so numbers are below its length. Assumes nothing.
use Prim.Native.Nat.{ℕ, zero, suc, ◌+◌, ◌<◌, ◌≤◌}
use mathlib.Core.Path.{◌≡◌, refl, ap, ◌∙◌, subst}
use mathlib.Core.Logic.{◌⊎◌, inl, inr}
use mathlib.Core.{Bool.true, Bool.not, Option.some}
use mathlib.Core.List.{List, [], ◌∷◌, ◌++◌, map}
use native.Mathlib.Omega.{arith}
use lib.Dec.{eqb, leb, ltb}
use lib.ListN.{length, length-append, length-map}
use borrow.Author.Tests.{eq-eqb, ne_eqb, le-leb, lt-ltb}
use Rattle.sets.specs.Lists.{all, keep, total, from}
use Rattle.sets.{specs.Sets.mem, proofs.Rows.from-length}
use Rattle.sets.proofs.Truth.{together, compared, below, equal, beyond}
use Rattle.sets.proofs.Lists.{◌∈◌, keep_all, keep-fewer, all_in, total-append}
use Rattle.sets.proofs.Sets.{of_mem, keep-mem, from-mem, mem-all}
use Rattle.letters.specs.Letters.{name_text}
use Rattle.letters_products.specs.Spelled.{spelled}
use Rattle.network.{specs.Handed.flat}
use Rattle.network_reads.specs.Reading.{reads_of}
use Rattle.blif_laws.specs.Text.{spaced, ended, name_word, Name, variable, output, first_names, Block, names_words, block_lines, Model, head_lines, model_lines}
use Rattle.blif_laws.specs.Text.{model_text}
use Rattle.blif_laws.specs.Reading.{model_in, named_in, standing, gapless}
use Rattle.blif_laws.proofs.{Naming.names-length, Forming.model-iff}

-- ---- the numbers below n, each in a list

-- all but n
abbrev others : ℕ → List ℕ → List ℕ
others n l = keep (λ x. not (eqb x n)) l

fewer : (n : ℕ) (l : List ℕ) → n ∈ l → length (others n l) < length l
fewer n l m = subst (λ k. length (others n l) < length k) (keep_all (λ x. true) l (all_in (λ x. true) l (λ x i. refl)))
    (keep-fewer (λ x. not (eqb x n)) (λ x. true) l m (λ x i e. refl) (ap not (eq-eqb n n refl)) refl)

pub pigeons : (n : ℕ) (l : List ℕ) → ((u : ℕ) → u < n → mem u l ≡ true) → n ≤ length l
pigeons zero l h = omega arith
pigeons (suc n) l h =
    let r = pigeons n (others n l) (λ u i. keep-mem (λ x. not (eqb x n)) u l ∙ rw (h u (omega arith), ne_eqb u n (λ e. omega arith))) in
    omega (arith, fewer n l (of_mem n l (h n (omega arith))))

-- ---- lengths of lines

-- a line with its LF
abbrev line_size : List ℕ → ℕ
line_size l = suc (length l)

ended-length : (ls : List (List ℕ)) → length (ended ls) ≡ total line_size ls
unfolding ended
ended-length [] = refl
ended-length (l ∷ ls) =
    length-append (l ++ (10 ∷ [])) (ended ls) ∙ omega (arith, length-append l (10 ∷ []), ended-length ls)

-- each word takes a byte
apart-length : (ws : List (List ℕ)) → length ws ≤ length (flat (map (λ u. 32 ∷ u) ws))
apart-length [] = omega arith
apart-length (u ∷ ws) = omega (arith, length-append u (flat (map (λ u. 32 ∷ u) ws)), apart-length ws)

spaced-length : (w : List ℕ) (ws : List (List ℕ)) → length w + length ws ≤ length (spaced (w ∷ ws))
unfolding spaced
spaced-length w ws = omega (arith, length-append w (flat (map (λ u. 32 ∷ u) ws)), apart-length ws)

-- each name that stands takes one
named-length : (b : Block) → length (named_in b) ≤ suc (length (reads_of b.cubes))
named-length b = go b.name
  where
    go : (a : Name) → length (named_in (record { name = a; cubes = b.cubes })) ≤ suc (length (reads_of b.cubes))
    go (variable v) = omega (arith, length-append (reads_of b.cubes) (v ∷ []))
    go (output j) = omega arith

block-length : (b : Block) → length (named_in b) ≤ total line_size (block_lines b)
unfolding block_lines names_words
block-length b =
    let names = map (name_text 120) (reads_of b.cubes) in
    omega (
      arith,
      named-length b,
      spaced-length (spelled ".names") (names ++ (name_word b.name ∷ [])),
      length-append names (name_word b.name ∷ []),
      length-map (reads_of b.cubes) (name_text 120),
    )

blocks-length : (bs : List Block) → length (flat (map named_in bs)) ≤ total line_size (flat (map block_lines bs))
blocks-length [] = omega arith
blocks-length (b ∷ bs) = omega (
  arith,
  length-append (named_in b) (flat (map named_in bs)),
  total-append line_size (block_lines b) (flat (map block_lines bs)),
  block-length b,
  blocks-length bs,
)

model-length : (name : List ℕ) (d : Model) → length (standing d) + d.outputs + 2 ≤ length (model_text name d)
unfolding model_text model_lines head_lines
model-length name d =
    let bs = flat (map block_lines d.blocks) in
    omega (
      arith,
      length-append (from 0 d.inputs) (flat (map named_in d.blocks)),
      from-length 0 d.inputs,
      blocks-length d.blocks,
      ended-length (head_lines name d.inputs d.outputs ++ (bs ++ (spelled ".end" ∷ []))),
      total-append line_size bs (spelled ".end" ∷ []),
      spaced-length (spelled ".inputs") (first_names 120 d.inputs),
      names-length 120 d.inputs,
      spaced-length (spelled ".outputs") (first_names 121 d.outputs),
      names-length 121 d.outputs,
    )

-- ---- of a text that is read

module _ (t : List ℕ) (d : Model) (e : model_in t ≡ some d) where
  pub standing-short : length (standing d) + d.outputs < length t
  standing-short = let w = (model-iff t d).0 e in go w.writes.name w.writes.text
    where
      go : (name : List ℕ) → (t ≡ model_text name d) ⊎ (t ++ (10 ∷ []) ≡ model_text name d) → length (standing d) + d.outputs < length t
      go name (inl q) = omega (arith, model-length name d, ap length q)
      go name (inr q) = omega (arith, model-length name d, ap length q, length-append t (10 ∷ []))

-- where no number is left out, every number that stands is below the length
below_in : (d : Model) (v : ℕ) → gapless d ≡ true → mem v (standing d) ≡ true → (u : ℕ) → u < suc v → mem u (standing d) ≡ true
unfolding gapless
below_in d v g h u i = elim (compared u v) [
  | below k _ _ ↦ mem-all (λ x. mem x (standing d)) (from 0 v) u (mem-all (λ x. all (λ y. mem y (standing d)) (from 0 x)) (standing d) v g h)
      (from-mem 0 v u ∙ together (leb 0 u) (ltb u (0 + v)) (le-leb 0 u (omega arith)) (lt-ltb u (0 + v) (omega arith)))
  | equal k _ _ ↦ rw k h
  | beyond k _ _ ↦ absurd (omega arith)
]

pub standing-below : (t : List ℕ) (d : Model) (v : ℕ) → model_in t ≡ some d → gapless d ≡ true → mem v (standing d) ≡ true → v < length t
standing-below t d v e g h = omega (arith, pigeons (suc v) (standing d) (below_in d v g h), standing-short t d e)
