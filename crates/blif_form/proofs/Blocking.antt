-- Blocks in a text: a block is a line of names and rows of signs, a text has one block at its beginning, and blocks come one after the other before
-- `.end`. Assumes nothing.
use Prim.Native.Nat.{ℕ, ◌<◌, ◌≤◌}
use mathlib.Core.Path.{◌≡◌, refl, sym, ap, ap₂, ◌∙◌, subst}
use mathlib.Core.{Logic.inl, Logic.inr, Bool.true}
use mathlib.Core.List.Memᴰ.{head as here}
use mathlib.Core.List.Memᴰ.{tail as there}
use mathlib.Core.List.{List, [], ◌∷◌, ◌++◌, map, append-nil, append_assoc, append_cancel_left}
use mathlib.Core.List.Memᴰ
use native.Mathlib.Omega.{arith}
use lib.Dec.{ltb}
use lib.ListN.{length, length-map}
use Rattle.sets.specs.{Sets.asc, Word.largest}
use Rattle.sets.proofs.Lists.{◌∈◌, all-out, pairwise_append, map-out, map-map, map-fixed, map-cong}
use Rattle.letters.specs.Letters.{name_text}
use Rattle.letters_products.specs.Spelled.{spelled}
use Rattle.expression.specs.Expression.{reach}
use Rattle.network.specs.Handed.{flat}
use Rattle.network_reads.{specs.Reading.reads_of, proofs.Reading.reads-asc}
use Rattle.blif_laws.specs.Text.{Name, variable, output, name_word, spaced, ended, sign_of, row_words, Block, names_words, block_lines}
use Rattle.blif_laws.specs.Reading.{pointed, Named, cube_in, named_in}
use Rattle.blif_laws.{specs.Meaning.FormedBlock, proofs.Rowing.signs-place, proofs.Rowing.signs-cube}
use Rattle.blif_laws.proofs.Blocking.{reads-cover, reads-below, block-lines}
use Rattle.blif_scan.{specs.Scanning.Small, proofs.Heading.ended-apart}
use Rattle.blif_lines.specs.Lining.{words_of, variable_in, numbers_in, Ascends, Signs, row_line, RowsOf}
use Rattle.blif_form.specs.Surveying.{BlockOf, SmallBlock, BlocksOf, named_by, SmallBlocks}
use Rattle.blif_lines.proofs.{Lining.names-one, Rowing.rows-one}
use Rattle.blif_form.proofs.Ending.{Closes, closes_in, closes-out, closes-point}

-- ---- the lines of a block

-- the names of its first line
abbrev pub named_for : Block → Named
named_for b = record { reads = reads_of b.cubes; name = b.name }

-- the signs of its rows
abbrev pub signs_for : List ℕ → List (List ℕ) → List (List ℕ)
signs_for vs f = map (λ c. map (sign_of c) vs) f

pub names-line : (b : Block) → spaced (names_words b) ≡ spelled ".names " ++ spaced (words_of (named_for b))
unfolding spaced names_words spelled
names-line b = go (reads_of b.cubes)
  where
    go : (vs : List ℕ) → let ws = map (name_text 120) vs ++ (name_word b.name ∷ []) in spaced (spelled ".names" ∷ ws) ≡ spelled ".names " ++ spaced ws
    go [] = refl
    go (v ∷ vs) = refl

pub row-line : (vs c : List ℕ) → spaced (row_words vs c) ≡ row_line (map (sign_of c) vs)
unfolding spaced row_words row_line spelled
row-line [] c = refl
row-line (v ∷ vs) c = refl

rows-line : (vs : List ℕ) (f : List (List ℕ)) → map (λ c. spaced (row_words vs c)) f ≡ map row_line (signs_for vs f)
rows-line vs f = map-cong _ _ f (λ c m. row-line vs c) ∙ sym (map-map row_line (λ c. map (sign_of c) vs) f)

block-text : (b : Block) (more : List ℕ) → ended (block_lines b) ++ more
    ≡ spelled ".names " ++ (spaced (words_of (named_for b)) ++ (10 ∷ (ended (map row_line (signs_for (reads_of b.cubes) b.cubes)) ++ more)))
block-text b more =
    ap (λ ls. ended ls ++ more) (block-lines b ∙ ap₂ ◌∷◌ (names-line b) (rows-line (reads_of b.cubes) b.cubes))
    ∙ ended-apart (spelled ".names " ++ spaced (words_of (named_for b))) (map row_line (signs_for (reads_of b.cubes) b.cubes)) more
    ∙ append_assoc (spelled ".names ") (spaced (words_of (named_for b))) _

signs-each : (vs : List ℕ) (f : List (List ℕ)) (w : List ℕ) → w ∈ signs_for vs f → Signs (length vs) w
signs-each vs f w m = let r = map-out (λ c. map (sign_of c) vs) f m in
    subst (Signs (length vs)) (sym r.2) (record { number = length-map vs (sign_of r.0); each = signs-place r.0 vs })

-- a text that begins with the names and the rows of a block
pub record Blocked (t : List ℕ) (b : Block) (more : List ℕ) : Type 0 where
  pub rest : List ℕ
  pub names : t ≡ spaced (words_of (named_for b)) ++ (10 ∷ rest)
  pub rows : RowsOf rest (length (reads_of b.cubes)) (signs_for (reads_of b.cubes) b.cubes) more

pub block-blocked : {t : List ℕ} {m : ℕ} {b : Block} {more : List ℕ} → BlockOf (spelled ".names " ++ t) m b more → Blocked t b more
block-blocked {t} {m} {b} {more} h =
    let vs = reads_of b.cubes in
    let u = ended (map row_line (signs_for vs b.cubes)) ++ more in
    record {
      rest = u;
      names = append_cancel_left (spelled ".names ") t (spaced (words_of (named_for b)) ++ (10 ∷ u)) (h.text ∙ block-text b more);
      rows = record { each = signs-each vs b.cubes; text = refl; point = h.point };
    }

pub blocked-block : {t : List ℕ} {m : ℕ} {b : Block} {more : List ℕ} → FormedBlock m b → Blocked t b more → BlockOf (spelled ".names " ++ t) m b more
blocked-block {t} {m} {b} {more} f h = record {
  formed = f;
  text = ap (spelled ".names " ++◌) (h.names ∙ ap (λ u. spaced (words_of (named_for b)) ++ (10 ∷ u)) h.rows.text) ∙ sym (block-text b more);
  point = h.rows.point;
}

-- a block begins with its keyword
pub block-begins : {t : List ℕ} {m : ℕ} {b : Block} {more : List ℕ} → BlockOf t m b more → (u : List ℕ) × (t ≡ spelled ".names " ++ u)
block-begins {b = b} {more} h = (_, h.text ∙ block-text b more)

-- ---- one block at the beginning of a text

-- the cubes are read off the signs
pub signs-cubes : {m : ℕ} (b : Block) → FormedBlock m b → map (cube_in (reads_of b.cubes)) (signs_for (reads_of b.cubes) b.cubes) ≡ b.cubes
signs-cubes b h =
    let vs = reads_of b.cubes in
    map-map (cube_in vs) (λ c. map (sign_of c) vs) b.cubes
    ∙ map-fixed (λ c. cube_in vs (map (sign_of c) vs)) b.cubes
    (λ c i. signs-cube vs c (reads-asc b.cubes) (h.cubes c i) (reads-cover b.cubes i))

blocked-one : {t : List ℕ} {m k : ℕ} (b c : Block) {more less : List ℕ} → FormedBlock m b → FormedBlock k c → Blocked t b more → Blocked t c less
    → (b ≡ c) × (more ≡ less)
blocked-one b c {more} {less} f g p q =
    let n = names-one (named_for b) (named_for c) p.rest q.rest (sym p.names ∙ q.names) in
    let e : reads_of b.cubes ≡ reads_of c.cubes = ap (λ (d : Named). d.reads) n.0 in
    let r = rows-one p.rows (subst (λ vs. RowsOf p.rest (length vs) (signs_for (reads_of c.cubes) c.cubes) less) (sym e)
    (subst (λ u. RowsOf u (length (reads_of c.cubes)) (signs_for (reads_of c.cubes) c.cubes) less) (sym n.1) q.rows)) in
    let i : b.cubes ≡ c.cubes = sym (signs-cubes b f) ∙ ap₂ (λ (vs : List ℕ) (ws : List (List ℕ)). map (cube_in vs) ws) e r.0 ∙ signs-cubes c g in
    (ap₂ (λ (a : Name) (f : List (List ℕ)). record { name = a; cubes = f }) (ap (λ (d : Named). d.name) n.0) i, r.1)

pub block_one : {t : List ℕ} {m k : ℕ} {b c : Block} {more less : List ℕ} → BlockOf t m b more → BlockOf t k c less → (b ≡ c) × (more ≡ less)
block_one {t} {m} {k} {b} {c} {more} {less} p q =
    let u = block-begins p in
    blocked-one b c p.formed q.formed (block-blocked (subst (λ x. BlockOf x m b more) u.1 p))
    (block-blocked (subst (λ x. BlockOf x k c less) u.1 q))

-- ---- names that ascend

-- the variables of the line are those that the block names
pub numbers-named : (b : Block) → numbers_in (named_for b) ≡ named_in b
numbers-named b = go b.name
  where
    go : (a : Name) → reads_of b.cubes ++ variable_in a ≡ named_in (record { name = a; cubes = b.cubes })
    go (variable v) = refl
    go (output j) = append-nil (reads_of b.cubes)

block-order : {m : ℕ} (b : Block) → FormedBlock m b → asc (numbers_in (named_for b)) ≡ true
block-order b f = go b.name f.earlier
  where
    go : (a : Name) → ((v : ℕ) → a ≡ variable v → reach v b.cubes ≡ true) → asc (reads_of b.cubes ++ variable_in a) ≡ true
    go (variable v) h = pairwise_append ltb (reads_of b.cubes) (v ∷ []) (reads-asc b.cubes) refl (λ x y i j.
        subst (λ z. ltb x z ≡ true) (sym (Memᴰ.eq_of_singleton j)) (all-out (λ u. ltb u v) i (reads-below v b.cubes (h v refl))))
    go (output j) h = ap asc (append-nil (reads_of b.cubes)) ∙ reads-asc b.cubes

-- the name itself is small, where an output is one of m and a machine word holds m
block_last : {m : ℕ} (b : Block) → FormedBlock m b → SmallBlock b → m ≤ largest → Small b.name
block_last {m} b f s h = go b.name f.among (λ v i. s v (subst (v ∈◌) (numbers-named b) (Memᴰ.append_right (reads_of b.cubes) i)))
  where
    go : (a : Name) → ((j : ℕ) → a ≡ output j → j < m) → ((v : ℕ) → v ∈ variable_in a → v < largest) → Small a
    go (variable v) o k = omega (arith, k v (here refl))
    go (output j) o k = omega (arith, o j refl)

pub block-ascends : {m : ℕ} {b : Block} → FormedBlock m b → SmallBlock b → m ≤ largest → Ascends (named_for b)
block-ascends {m} {b} f s h = record {
  order = block-order b f;
  small = λ v i. omega (arith, s v (subst (v ∈◌) (numbers-named b) i));
  last = block_last b f s h;
}

-- ---- blocks, and `.end`

block-point : (b : Block) (ls : List (List ℕ)) (t : List ℕ) → Closes t (block_lines b ++ ls) → pointed t ≡ true
unfolding spelled
block-point b ls t c = closes-point t (spaced (names_words b)) _ (ap pointed (names-line b)) (subst (λ ks. Closes t (ks ++ ls)) (block-lines b) c)

blocks-point : (bs : List Block) (t : List ℕ) → Closes t (flat (map block_lines bs) ++ (spelled ".end" ∷ [])) → pointed t ≡ true
unfolding spelled
blocks-point [] t c = closes-point t (spelled ".end") [] refl c
blocks-point (b ∷ bs) t c = block-point b (flat (map block_lines bs) ++ (spelled ".end" ∷ [])) t
    (subst (Closes t) (append_assoc (block_lines b) (flat (map block_lines bs)) (spelled ".end" ∷ [])) c)

-- the first block, and the others
pub blocks-first : {t : List ℕ} {m : ℕ} (b : Block) (bs : List Block) → BlocksOf t m (b ∷ bs)
    → (more : List ℕ) × BlockOf t m b more × BlocksOf more m bs
blocks-first {t} {m} b bs h =
    let r = closes-out t (block_lines b) (flat (map block_lines bs)) (spelled ".end")
    (subst (Closes t) (append_assoc (block_lines b) (flat (map block_lines bs)) (spelled ".end" ∷ [])) h.text) in (
      r.0,
      record { formed = h.each b (here refl); text = r.1; point = blocks-point bs r.0 r.2 },
      record { each = λ c i. h.each c (there i); text = r.2 },
    )

pub blocks_more : {t : List ℕ} {m : ℕ} {b : Block} {bs : List Block} {more : List ℕ} → BlockOf t m b more → BlocksOf more m bs → BlocksOf t m (b ∷ bs)
blocks_more {t} {m} {b} {bs} {more} p q = record {
  each = λ c i. elim (Memᴰ.cases_cons i) [ inl e ↦ subst (FormedBlock m) (sym e) p.formed | inr k ↦ q.each c k ];
  text = subst (Closes t) (sym (append_assoc (block_lines b) (flat (map block_lines bs)) (spelled ".end" ∷ [])))
      (closes_in t more (block_lines b) (flat (map block_lines bs) ++ (spelled ".end" ∷ [])) p.text q.text);
}

-- what the first block names, and what the others do
pub small-first : (b : Block) (bs : List Block) → SmallBlocks (b ∷ bs) → SmallBlock b
small-first b bs h v i = h v (Memᴰ.append_left (named_by bs) i)

pub small-others : (b : Block) (bs : List Block) → SmallBlocks (b ∷ bs) → SmallBlocks bs
small-others b bs h v i = h v (Memᴰ.append_right (named_in b) i)
