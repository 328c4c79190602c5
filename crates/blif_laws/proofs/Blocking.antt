-- Blocks: a formed block is read as it is written, and what is read is formed and written so, row by row and name by name. Assumes nothing.
use Prim.Native.Nat.{ℕ, ◌/◌, ◌<◌}
use mathlib.Core.Path.{◌≡◌, refl, sym, ap, ap₂, ◌∙◌, subst}
use mathlib.Core.Bool.{true, not, ◌&&◌}
use mathlib.Core.List.{List, [], ◌∷◌, ◌++◌, map}
use mathlib.Core.Option.{some}
use native.Mathlib.Omega.{arith}
use lib.Dec.{ltb}
use lib.ListN.{length}
use borrow.Author.Tests.{lt-ltb, ltb-true}
use Rattle.sets.{specs.Lists.all, specs.Literal.variable_of, specs.Sets.mem, specs.Sets.same, proofs.Truth.both, proofs.Truth.together}
use Rattle.sets.proofs.Lists.{◌∈◌, all_in, all-out, all_append, map-out, map-map, map-fixed}
use Rattle.sets.proofs.Sets.{mem-of, of_mem, same-eq, same_self}
use Rattle.letters.specs.Letters.{name_text}
use Rattle.letters_products.specs.Spelled.{spelled}
use Rattle.table_lines.specs.Meaning.{lacks}
use Rattle.expression.specs.Expression.{is_cube, reach}
use Rattle.network.proofs.Numbering.{read-passes, passes-read}
use Rattle.network_reads.{specs.Reading.reads_of, proofs.Reading.reads_in, proofs.Reading.reads-out, proofs.Reading.reads-asc}
use Rattle.blif_laws.specs.Text.{spaced, Name, variable, output, name_word, row_words, Block, names_words, block_lines}
use Rattle.blif_laws.specs.Reading.{and_then, words_in, Part, pointed, Named, names_in, is_row, cube_in, cubes_in, among, block_from, after, block_in}
use Rattle.blif_laws.specs.Meaning.{NamesLine, is_clear, FormedBlock}
use Rattle.blif_laws.proofs.Cutting.{words-spaced, spaced-words, clear-words, clear-line}
use Rattle.blif_laws.proofs.Naming.{then-out, then-in, passed, passes, name-clear, text-clear, names-iff}
use Rattle.blif_laws.proofs.Rowing.{cube-read, row-clear, row_plain, row_in, row-cube, row_out}
use Rattle.blif_laws.proofs.Parting.{is_part}

-- ---- the variables that are read

-- every literal of a cube is of one of them
pub reads-cover : (f : List (List ℕ)) {c : List ℕ} → c ∈ f → all (λ l. mem (variable_of l) (reads_of f)) c ≡ true
reads-cover f {c} m = all_in (λ l. mem (variable_of l) (reads_of f)) c (λ l i. reads_in f (l / 2) (c, m, (l, i, refl)))

-- all are below v exactly where the cubes reach no further
pub reads-below : (v : ℕ) (f : List (List ℕ)) → reach v f ≡ true → all (λ u. ltb u v) (reads_of f) ≡ true
reads-below v f h = all_in (λ u. ltb u v) (reads_of f) (λ u m. read-passes (λ x. ltb x v) f h u (reads-out f u (mem-of m)))

pub below-reads : (v : ℕ) (f : List (List ℕ)) → all (λ u. ltb u v) (reads_of f) ≡ true → reach v f ≡ true
below-reads v f h = passes-read (λ x. ltb x v) f (λ u r. all-out (λ u. ltb u v) (of_mem u (reads_of f) (reads_in f u r)) h)

-- ---- a block as a part

abbrev pub row_line : List ℕ → List ℕ → List ℕ
row_line vs c = spaced (row_words vs c)

abbrev pub block_part : Block → Part
block_part b = record { head = spaced (names_words b); rows = map (row_line (reads_of b.cubes)) b.cubes }

pub block-lines : (b : Block) → block_lines b ≡ (block_part b).head ∷ (block_part b).rows
unfolding block_lines
block-lines b = refl

pub names-words : (b : Block) → all is_clear (names_words b) ≡ true
unfolding names_words spelled
names-words b = all_append is_clear (map (name_text 120) (reads_of b.cubes)) (name_word b.name ∷ [])
    ∙ together (all is_clear (map (name_text 120) (reads_of b.cubes))) (is_clear (name_word b.name) && true)
    (all_in is_clear _ (λ w m. let r = map-out (name_text 120) (reads_of b.cubes) m in ap is_clear r.2 ∙ text-clear 120 r.0 refl))
    (together (is_clear (name_word b.name)) true (name-clear b.name) refl)

pub block-part : (b : Block) → is_part (block_part b) ≡ true
unfolding names_words spelled spaced
block-part b = all_in (λ l. not (pointed l)) _ (λ l m. let r = map-out (row_line (reads_of b.cubes)) b.cubes m in
    ap (λ x. not (pointed x)) r.2 ∙ ap not (row_plain (reads_of b.cubes) r.0))

-- no line of it has LF
pub block-lack : (b : Block) → all (lacks 10) (block_lines b) ≡ true
block-lack b = ap (all (lacks 10)) (block-lines b)
    ∙ together (lacks 10 (spaced (names_words b))) _ (clear-line (names_words b) (names-words b))
    (all_in (lacks 10) _ (λ l m. let r = map-out (row_line (reads_of b.cubes)) b.cubes m in
    ap (lacks 10) r.2 ∙ clear-line (row_words (reads_of b.cubes) r.0) (row-clear (reads_of b.cubes) r.0)))

-- ---- a block that is read

abbrev named_of : Block → Named
named_of b = record { reads = reads_of b.cubes; name = b.name }

pub among_in : (m : ℕ) (a : Name) → ((j : ℕ) → a ≡ output j → j < m) → among m a ≡ true
among_in m (variable v) h = refl
among_in m (output j) h = lt-ltb j m (h j refl)

pub among-out : (m : ℕ) (a : Name) → among m a ≡ true → (j : ℕ) → a ≡ output j → j < m
among-out m a h j e = ltb-true j m (ap (among m) (sym e) ∙ h)

pub after-in : (k : List ℕ) (ws : List (List ℕ)) → after k (k ∷ ws) ≡ some ws
after-in k ws = rw (same_self k)

pub after-out : (k : List ℕ) (ws us : List (List ℕ)) → after k ws ≡ some us → ws ≡ k ∷ us
after-out k [] us e = let z : ◌≡◌ {A = ℕ} 0 1 = cc in absurd (omega arith)
after-out k (w ∷ ws) us e =
    let r = passed (same w k) (some ws) us e in
    let q : ws ≡ us = cc r.1 in
    ap₂ ◌∷◌ (same-eq w k r.0) q

module _ (m : ℕ) (b : Block) (h : FormedBlock m b) where
  cubes-in : cubes_in (reads_of b.cubes) (map (row_line (reads_of b.cubes)) b.cubes) ≡ b.cubes
  cubes-in = map-map (cube_in (reads_of b.cubes)) (row_line (reads_of b.cubes)) b.cubes
      ∙ map-fixed (λ c. cube_in (reads_of b.cubes) (row_line (reads_of b.cubes) c)) b.cubes
      (λ c i. row-cube (reads_of b.cubes) c (reads-asc b.cubes) (h.cubes c i) (reads-cover b.cubes i))

  named_in : names_in 0 (map (name_text 120) (reads_of b.cubes) ++ (name_word b.name ∷ [])) ≡ some (named_of b)
  named_in = (names-iff _ (named_of b)).1 (record {
    words = refl;
    ascend = reads-asc b.cubes;
    below = λ v e. reads-below v b.cubes (h.earlier v e);
  })

  rows_in_lem : all (λ l. is_row (length (reads_of b.cubes)) (words_in l)) (map (row_line (reads_of b.cubes)) b.cubes) ≡ true
  rows_in_lem = all_in (λ l. is_row (length (reads_of b.cubes)) (words_in l)) _ (λ l i.
      let r = map-out (row_line (reads_of b.cubes)) b.cubes i in
      ap (λ x. is_row (length (reads_of b.cubes)) (words_in x)) r.2 ∙ row_in (reads_of b.cubes) r.0)

  from_in : block_from m (map (row_line (reads_of b.cubes)) b.cubes) (named_of b) ≡ some b
  unfolding block_from
  from_in = rw cubes-in (passes (some b)
      (together (all (λ l. is_row (length (reads_of b.cubes)) (words_in l)) (map (row_line (reads_of b.cubes)) b.cubes)) _ rows_in_lem
      (together (same (reads_of b.cubes) (reads_of b.cubes)) _ (same_self (reads_of b.cubes)) (among_in m b.name h.among)))
      refl)

  -- a formed block is read as it is written
  pub block_in_lem : block_in m (block_part b) ≡ some b
  unfolding block_in names_words
  block_in_lem =
      let ws = map (name_text 120) (reads_of b.cubes) ++ (name_word b.name ∷ []) in
      then-in (after (spelled ".names") (words_in (spaced (names_words b)))) _
      (ap (after (spelled ".names")) (words-spaced (spelled ".names") ws (clear-words (names_words b) (names-words b))) ∙ after-in (spelled ".names") ws)
      (then-in (names_in 0 ws) _ named_in from_in)

-- and back: what is read is formed, and written so
module _ (m : ℕ) (p : Part) (d : Named) (ws : List (List ℕ)) (ls : NamesLine ws d) where
  abbrev block_read : Block
  block_read = record { name = d.name; cubes = cubes_in d.reads p.rows }

  formed-read : reads_of block_read.cubes ≡ d.reads → among m d.name ≡ true → FormedBlock m block_read
  formed-read e a = record {
    cubes = λ c i. let r = map-out (cube_in d.reads) p.rows i in ap is_cube r.2 ∙ cube-read d.reads r.0 ls.ascend;
    earlier = λ v q. below-reads v block_read.cubes (ap (all (λ u. ltb u v)) e ∙ ls.below v q);
    among = among-out m d.name a;
  }

  part-read : words_in p.head ≡ spelled ".names" ∷ ws → reads_of block_read.cubes ≡ d.reads
      → all (λ l. is_row (length d.reads) (words_in l)) p.rows ≡ true → p ≡ block_part block_read
  unfolding names_words
  part-read w e a = ap₂ (λ (h : List ℕ) (r : List (List ℕ)). record { head = h; rows = r }) head rows
    where
      head : p.head ≡ spaced (names_words block_read)
      head = sym (spaced-words p.head) ∙ ap spaced (w ∙ ap (spelled ".names" ∷◌)
          (ls.words ∙ ap (λ x. map (name_text 120) x ++ (name_word d.name ∷ [])) (sym e)))

      rows : p.rows ≡ map (row_line (reads_of block_read.cubes)) (cubes_in d.reads p.rows)
      rows = sym (map-fixed (λ l. row_line d.reads (cube_in d.reads l)) p.rows
          (λ l i. sym (row_out d.reads l ls.ascend (all-out (λ x. is_row (length d.reads) (words_in x)) i a))))
          ∙ sym (map-map (row_line d.reads) (cube_in d.reads) p.rows)
          ∙ ap (λ x. map (row_line x) (cubes_in d.reads p.rows)) (sym e)

  from_out : (b : Block) → words_in p.head ≡ spelled ".names" ∷ ws → block_from m p.rows d ≡ some b → (p ≡ block_part b) × FormedBlock m b
  unfolding block_from
  from_out b w e =
      let r = passed (all (λ l. is_row (length d.reads) (words_in l)) p.rows && (same (reads_of block_read.cubes) d.reads && among m d.name))
      (some block_read) b e in
      let s = both (all (λ l. is_row (length d.reads) (words_in l)) p.rows) _ r.0 in
      let t = both (same (reads_of block_read.cubes) d.reads) (among m d.name) s.1 in
      let q = same-eq (reads_of block_read.cubes) d.reads t.0 in
      let f : block_read ≡ b = cc r.1 in
      subst (λ x. (p ≡ block_part x) × FormedBlock m x) f (part-read w q s.0, formed-read q t.1)

pub block_out : (m : ℕ) (p : Part) (b : Block) → block_in m p ≡ some b → (p ≡ block_part b) × FormedBlock m b
unfolding block_in
block_out m p b e =
    let r = then-out (after (spelled ".names") (words_in p.head)) (λ ws. and_then (names_in 0 ws) (block_from m p.rows)) b e in
    let s = then-out (names_in 0 r.0) (block_from m p.rows) b r.2 in
    from_out m p s.0 r.0 ((names-iff r.0 s.0).0 s.1) b (after-out (spelled ".names") (words_in p.head) r.0 r.1) s.2
