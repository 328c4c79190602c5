-- Rows, blocks and the whole text in the order in which they are written. Assumes nothing.
use Prim.Native.Nat.{ℕ, suc, ◌+◌, ◌<◌, ◌≤◌}
use mathlib.Core.Path.{◌≡◌, refl, sym, ap, ap₂, ◌∙◌}
use mathlib.Core.Bool.{cond}
use mathlib.Core.List.{List, [], ◌∷◌, ◌++◌, map, map-append, append_assoc, append-nil}
use native.Mathlib.Omega.{arith}
use lib.ListN.{length, get_or, take, drop, drop_of_length-le, length-drop}
use lib.Seq.{take-take, length-take-le, get_or-take, get_or-drop}
use Rattle.sets.{specs.Lists.is_nil, proofs.Places.drop-next, proofs.Rows.drop-take}
use Rattle.cube.specs.{Cube.lits, declared.Cube.Cube}
use Rattle.letters.specs.Letters.{name_text}
use Rattle.letters_products.specs.Spelled.{spelled}
use Rattle.expression.specs.Words.{cubes_of}
use Rattle.network_nodes.{specs.Nodes.cut, proofs.Cutting.cut-take, proofs.Cutting.cut-length}
use Rattle.network_reads.{specs.Reading.reads_of, specs.Reading.Marks, proofs.Reading.reads-asc}
use Rattle.network.specs.{Held.net_of, Held.numbered, Handed.flat, Parts.Limited, declared.Network.Network}
use Rattle.network.proofs.Handing.{flat_append}
use Rattle.blif_laws.specs.Text.{spaced, ended, name_word, first_names, sign_of, row_words, Block, names_words, block_lines, head_lines, model_lines, model_text}
use Rattle.blif_laws.specs.Text.{output_blocks, divisor_block, model_of}
use Rattle.blif_write.specs.Parts.{led, plains_of, AllPlain, rows_text, block_text, blocks_text, nodes_at}
use Rattle.blif_write.proofs.Walking.{plains-marked, plain-nil}

-- ---- lines

-- texts of two lists, one after the other
spread-append : {A : Type 0} (g : A → List ℕ) (l m : List A) → flat (map g (l ++ m)) ≡ flat (map g l) ++ flat (map g m)
spread-append g l m = ap flat (map-append g l m) ∙ flat_append (map g l) (map g m)

ended-append : (l m : List (List ℕ)) → ended (l ++ m) ≡ ended l ++ ended m
unfolding ended
ended-append l m = spread-append (λ x. x ++ (10 ∷ [])) l m

-- one line, and then the others
ended-first : (x : List ℕ) (l : List (List ℕ)) → ended (x ∷ l) ≡ x ++ (10 ∷ ended l)
unfolding ended
ended-first x l = append_assoc x (10 ∷ []) (ended l)

ended-none : ended [] ≡ []
unfolding ended
ended-none = refl

-- ---- rows

-- the signs, a space where there are any, `1`
pub row-start : (c d : List ℕ) → AllPlain c
    → ended (spaced (row_words (plains_of c) d) ∷ []) ≡ map (sign_of d) (plains_of c) ++ (cond (is_nil c) [] (32 ∷ []) ++ spelled "1\n")
unfolding row_words spaced spelled ended
row-start c d p = rw (plain-nil c (plains_of c) p) (go (plains_of c))
  where
    go : (vs : List ℕ) → ended (spaced (row_words vs d) ∷ []) ≡ map (sign_of d) vs ++ (cond (is_nil vs) [] (32 ∷ []) ++ (49 ∷ 10 ∷ []))
    go [] = refl
    go (v ∷ vs) = ended-first (spaced (row_words (v ∷ vs) d)) [] ∙ append_assoc (map (sign_of d) (v ∷ vs)) (32 ∷ 49 ∷ []) (10 ∷ [])

module _ (vs : List ℕ) (f : List (List ℕ)) (i : ℕ) where
  pub rows_next : (c : List ℕ) → i < length f → c ≡ get_or f i c
      → rows_text vs (drop i f) ≡ ended (spaced (row_words vs c) ∷ []) ++ rows_text vs (drop (i + 1) f)
  rows_next c h e =
      ap (rows_text vs) (drop-next f i c h ∙ ap (◌∷ drop (i + 1) f) (sym e))
      ∙ ended-append (spaced (row_words vs c) ∷ []) (map (λ d. spaced (row_words vs d)) (drop (i + 1) f))

  pub rows_none : length f ≤ i → rows_text vs (drop i f) ≡ []
  rows_none h = ap (rows_text vs) (drop_of_length-le f h) ∙ ended-none

-- ---- blocks

-- `.names`, the variables vs, the name, the rows
abbrev written : List ℕ → List (List ℕ) → List ℕ → List ℕ
written w f vs = spelled ".names" ++ (led (map (name_text 120) vs) ++ ((32 ∷ w) ++ ((10 ∷ []) ++ rows_text vs f)))

block_start : (w : List ℕ) (f : List (List ℕ)) → block_text w f ≡ written w f (reads_of f)
unfolding block_text spaced spelled
block_start w f =
    let names = map (name_text 120) (reads_of f) in
    let rows = rows_text (reads_of f) f in
    ended-first _ _ ∙ ap (λ t. (spelled ".names" ++ t) ++ (10 ∷ rows)) (spread-append (λ u. 32 ∷ u) names (w ∷ []))
    ∙ ap (spelled ".names" ++◌) (append_assoc (led names) (led (w ∷ [])) (10 ∷ rows) ∙ ap (λ t. led names ++ (t ++ (10 ∷ rows))) (append-nil (32 ∷ w)))

-- the variables are those of the cube that marks what is read
pub block-marked : (w : List ℕ) (f : List (List ℕ)) (c : Cube) → Marks (lits c) (reads_of f) → block_text w f ≡ written w f (plains_of (lits c))
block-marked w f c p = block_start w f ∙ ap (written w f) (sym (plains-marked c (reads_of f) (reads-asc f) p))

pub blocks-all : (b v : ℕ) (fs : List (List (List ℕ))) → blocks_text b v fs ≡ blocks_text b (v + 0) fs
blocks-all b v fs = let e : v ≡ v + 0 = omega arith in ap (λ (u : ℕ). blocks_text b u fs) e

module _ (b v : ℕ) (fs : List (List (List ℕ))) (i : ℕ) where
  pub blocks-next : (f : List (List ℕ)) → i < length fs → f ≡ get_or fs i []
      → blocks_text b (v + i) (drop i fs) ≡ block_text (name_text b (v + i)) f ++ blocks_text b (v + (i + 1)) (drop (i + 1) fs)
  unfolding blocks_text
  blocks-next f h e =
      let n : suc (v + i) ≡ v + (i + 1) = omega arith in
      ap (blocks_text b (v + i)) (drop-next fs i [] h ∙ ap (◌∷ drop (i + 1) fs) (sym e))
      ∙ ap (λ (u : ℕ). block_text (name_text b (v + i)) f ++ blocks_text b u (drop (i + 1) fs)) n

  pub blocks-none : length fs ≤ i → blocks_text b (v + i) (drop i fs) ≡ []
  unfolding blocks_text
  blocks-none h = ap (blocks_text b (v + i)) (drop_of_length-le fs h)

-- the nodes of words and counts
module _ (words counts : List ℕ) (a n : ℕ) where
  pub nodes-length : a + n ≤ length counts → length (nodes_at a n words counts) ≡ n
  nodes-length h =
      length-take-le n (drop a (cut counts (cubes_of words))) (rw length-drop (omega (arith, cut-length counts (cubes_of words))))

  pub node_at : (i : ℕ) → i < n → get_or (nodes_at a n words counts) i [] ≡ get_or (cut counts (cubes_of words)) (a + i) []
  node_at i h = get_or-take n (drop a (cut counts (cubes_of words))) i [] h ∙ get_or-drop a (cut counts (cubes_of words)) i []

-- the text of a block's lines
abbrev block_of : Block → List ℕ
block_of d = ended (block_lines d)

block-is : (d : Block) → block_of d ≡ block_text (name_word d.name) d.cubes
unfolding block_lines names_words block_text
block-is d = refl

blocks-divisors : (v : ℕ) (fs : List (List (List ℕ))) → flat (map block_of (map divisor_block (numbered v fs))) ≡ blocks_text 120 v fs
unfolding numbered blocks_text name_word
blocks-divisors v [] = refl
blocks-divisors v (f ∷ fs) = ap₂ ◌++◌ (block-is _) (blocks-divisors (suc v) fs)

blocks-outputs : (v : ℕ) (fs : List (List (List ℕ))) → flat (map block_of (output_blocks v fs)) ≡ blocks_text 121 v fs
unfolding output_blocks blocks_text name_word
blocks-outputs v [] = refl
blocks-outputs v (f ∷ fs) = ap₂ ◌++◌ (block-is _) (blocks-outputs (suc v) fs)

-- ---- the whole text

pub head-start : (n m : ℕ) → ended (head_lines (spelled "net") n m) ≡ spelled ".model net\n.inputs" ++
    (led (first_names 120 n) ++ (spelled "\n.outputs" ++ (led (first_names 121 m) ++ (10 ∷ []))))
unfolding head_lines spaced ended spelled
head-start n m =
    let outputs = led (first_names 121 m) ++ (10 ∷ []) in
    ap (spelled ".model net\n.inputs" ++◌) (append_assoc (led (first_names 120 n)) (10 ∷ []) (spelled ".outputs" ++ (outputs ++ []))
    ∙ ap (λ t. led (first_names 120 n) ++ (spelled "\n.outputs" ++ t)) (append-nil outputs))

ended_flat : (l : List Block) → ended (flat (map block_lines l)) ≡ flat (map block_of l)
ended_flat [] = ended-none
ended_flat (d ∷ l) = ended-append (block_lines d) (flat (map block_lines l)) ∙ ap (block_of d ++◌) (ended_flat l)

-- the head, the divisors' blocks, the outputs' blocks, `.end`
module _ (n : Network) (z : Limited n) where
  abbrev words : List ℕ
  words = n.words

  abbrev nodes : List (List (List ℕ))
  nodes = cut n.counts (cubes_of words)

  front : cut (take (n.outputs + n.divisors) n.counts) (cubes_of words) ≡ take (n.outputs + n.divisors) nodes
  front = cut-take (n.outputs + n.divisors) n.counts (cubes_of words)

  outputs-are : (net_of n).outputs ≡ nodes_at 0 n.outputs words n.counts
  outputs-are = ap (take n.outputs) front ∙ take-take n.outputs (n.outputs + n.divisors) nodes (omega arith)

  divisors-are : (net_of n).divisors ≡ numbered n.inputs (nodes_at n.outputs n.divisors words n.counts)
  divisors-are = ap (λ l. numbered n.inputs (drop n.outputs l)) front ∙ ap (numbered n.inputs) (drop-take n.outputs n.divisors nodes)

  outputs-length : length (net_of n).outputs ≡ n.outputs
  outputs-length = ap length outputs-are ∙ length-take-le n.outputs nodes (omega (arith, cut-length n.counts (cubes_of words), z.counted))

  pub model-start : model_text (spelled "net") (model_of (net_of n)) ≡ ended (head_lines (spelled "net") n.inputs n.outputs) ++
      (blocks_text 120 n.inputs (nodes_at n.outputs n.divisors words n.counts) ++
      (blocks_text 121 0 (nodes_at 0 n.outputs words n.counts) ++ spelled ".end\n"))
  unfolding model_text model_lines model_of ended spelled
  model-start =
      let first = blocks_text 120 n.inputs (nodes_at n.outputs n.divisors words n.counts) in
      let d = map divisor_block (net_of n).divisors in
      let o = output_blocks 0 (net_of n).outputs in
      let divisors = ap (λ l. flat (map block_of (map divisor_block l))) divisors-are ∙ blocks-divisors n.inputs _ in
      let outputs = blocks-outputs 0 (net_of n).outputs ∙ ap (blocks_text 121 0) outputs-are in
      ended-append (head_lines (spelled "net") n.inputs (length (net_of n).outputs)) _
      ∙ ap₂ (λ (m : ℕ) (t : List ℕ). ended (head_lines (spelled "net") n.inputs m) ++ t) outputs-length
      (ended-append (flat (map block_lines (d ++ o))) (spelled ".end" ∷ [])
      ∙ ap (◌++ spelled ".end\n") (ended_flat (d ++ o) ∙ spread-append block_of d o ∙ ap₂ ◌++◌ divisors outputs) ∙ append_assoc first _ (spelled ".end\n"))
