-- One block passed: the names and the rows that are found after `.names` and its space are those of the first block, since a text has one, and what
-- comes after them are the others; `.end` is no block. Assumes nothing.
use Rattle.std.specs.Prelude.{Some, None}
use Prim.Native.Nat.{ℕ, ◌≤◌}
use mathlib.Core.Path.{◌≡◌, refl, sym, ap, ◌∙◌, subst}
use mathlib.Core.{Logic.inl, Logic.inr}
use mathlib.Core.List.{List, [], ◌∷◌, ◌++◌}
use native.Mathlib.Omega.{arith}
use lib.ListN.{length}
use Rattle.sets.specs.Word.{largest}
use Rattle.letters_products.specs.Spelled.{spelled}
use Rattle.network_reads.specs.Reading.{reads_of}
use Rattle.blif_laws.specs.{Text.Block, Text.ended, Reading.Named, Reading.named_in}
use Rattle.blif_scan.specs.Scanning.{left, Forth, EndedIs, by_space, label_of}
use Rattle.blif_lines.specs.Lining.{numbers_in, NamesGot, NamesNot, RowsOf, RowsGot, RowsNot}
use Rattle.blif_form.specs.Surveying.{BeginsAt, BlockOf, BlocksOf, SmallBlocks}
use Rattle.blif_scan.specs.declared.Ended.{Ended}
use Rattle.blif_lines.{specs.declared.Names.Names, specs.declared.Rows.Rows, proofs.Lining.names-one, proofs.Rowing.rows-one}
use Rattle.blif_form.proofs.Ending.{Closes}
use Rattle.blif_form.proofs.Blocking.{named_for, signs_for, numbers-named, Blocked, block-blocked, block-begins, block-ascends, blocks-first, small-first}

-- ---- the word that begins a block

-- the keyword, its space and what comes after them
pub names-begin : (u : List ℕ) → spelled ".names" ++ (32 ∷ u) ≡ spelled ".names " ++ u
unfolding spelled
names-begin u = refl

-- `.end` is no block
pub end-names : (t u : List ℕ) → Closes t (spelled ".end" ∷ []) → t ≡ spelled ".names " ++ u → ⊥
unfolding spelled ended
end-names t u (inl c) e = let f = sym e ∙ c in let z : ◌≡◌ {A = ℕ} 101 110 = cc in omega arith
end-names t u (inr c) e = let f = sym (ap (◌++ (10 ∷ [])) e) ∙ c in let z : ◌≡◌ {A = ℕ} 101 110 = cc in omega arith

-- a block begins with the word and a space, and no other word begins one
pub begin-here : (s : List ℕ) (at q : ℕ) → EndedIs s at (spelled ".names") (Some (Ended.Space q)) → BeginsAt s at (Some q)
begin-here s at q h = (h.0 ∙ names-begin (left s q), h.1)

pub begin-none : (s : List ℕ) (at : ℕ) → EndedIs s at (spelled ".names") None → BeginsAt s at None
begin-none s at h u e = h (by_space u (e ∙ sym (names-begin u)))

pub begin-other : (s : List ℕ) (at : ℕ) (e : Ended) → EndedIs s at (spelled ".names") (Some e) → ((q : ℕ) → e ≡ Ended.Space q → ⊥) → BeginsAt s at None
unfolding spelled
begin-other s at (Ended.Space q) h n u e = n q refl
begin-other s at (Ended.Line q) h n u e = let f = sym h.0 ∙ e in let z : ◌≡◌ {A = ℕ} 10 32 = cc in omega arith
begin-other s at Ended.Finish h n u e = omega (arith, ap length (sym h ∙ e))

-- where it is not, no block is left
pub pass-none : (s : List ℕ) (at : ℕ) → BeginsAt s at None → (m : ℕ) (bs : List Block) → BlocksOf (left s at) m bs → bs ≡ []
pass-none s at n m [] k = refl
pass-none s at n m (b ∷ bs) k = let u = block-begins (blocks-first b bs k).1 in absurd (n u.0 u.1)

-- ---- the names and the rows of the block that stands there

module _ {s : List ℕ} {p base : ℕ} {old new : List ℕ} {r : Names} (g : NamesGot s p base old new r) {b : Block} {more : List ℕ}
    (k : Blocked (left s p) b more) where
  names-own : (g.named ≡ named_for b) × (left s r.next ≡ k.rest)
  names-own = names-one g.named (named_for b) (left s r.next) k.rest (sym g.text ∙ k.names)

  pub name-own : label_of r.name ≡ b.name
  name-own = g.name ∙ ap (λ (d : Named). d.name) names-own.0

  pub numbers-own : numbers_in g.named ≡ named_in b
  numbers-own = ap numbers_in names-own.0 ∙ numbers-named b

  pub reads-own : g.named.reads ≡ reads_of b.cubes
  reads-own = ap (λ (d : Named). d.reads) names-own.0

  pub count-own : r.reads ≡ length (reads_of b.cubes)
  count-own = g.reads ∙ ap length reads-own

  pub rows-own : RowsOf (left s r.next) r.reads (signs_for (reads_of b.cubes) b.cubes) more
  rows-own = subst (λ n. RowsOf (left s r.next) n (signs_for (reads_of b.cubes) b.cubes) more) (sym count-own)
      (subst (λ t. RowsOf t (length (reads_of b.cubes)) (signs_for (reads_of b.cubes) b.cubes) more) (sym names-own.1) k.rows)

-- ---- the first of the blocks that are left

module _ (s : List ℕ) (at p : ℕ) (e : left s at ≡ spelled ".names " ++ left s p) where
  block_here : {m : ℕ} {b : Block} {more : List ℕ} → BlockOf (left s at) m b more → Blocked (left s p) b more
  block_here {m} {b} {more} h = block-blocked (subst (λ t. BlockOf t m b more) (e) h)

  -- there is one
  pub pass-some : {m : ℕ} → BlocksOf (left s at) m [] → ⊥
  pass-some k = end-names (left s at) (left s p) k.text (e)

  -- it has names
  pub pass-unnamed : {old new : List ℕ} → NamesNot s p old new → (m : ℕ) (bs : List Block) → m ≤ largest → BlocksOf (left s at) m bs → SmallBlocks bs → ⊥
  pass-unnamed n m [] l k h = pass-some k
  pass-unnamed n m (b ∷ bs) l k h =
      let f = blocks-first b bs k in
      let q = block_here f.1 in
      n.none (named_for b) q.rest (block-ascends f.1.formed (small-first b bs h) l) q.names

  module _ {base : ℕ} {old new : List ℕ} {r : Names} (g : NamesGot s p base old new r) where
    -- and rows
    pub pass-rowless : {o w : List ℕ} → RowsNot s r.next r.reads o w → (m : ℕ) (bs : List Block) → BlocksOf (left s at) m bs → ⊥
    pass-rowless n m [] k = pass-some k
    pass-rowless n m (b ∷ bs) k = let f = blocks-first b bs k in n.none _ f.0 (rows-own g (block_here f.1))

    module _ {low : ℕ} {o w : List ℕ} {a : Rows} (x : RowsGot s r.next r.reads low o w a) where
      pub pass-forth : Forth s at p → Forth s at a.next
      pass-forth h = record { on = omega (arith, h.on, g.forth.on, x.after); within = x.within g.forth.within }

      module _ {m : ℕ} (b : Block) (bs : List Block) (k : BlocksOf (left s at) m (b ∷ bs)) where
        pub pass-name : label_of r.name ≡ b.name
        pass-name = name-own g (block_here (blocks-first b bs k).1)

        pub pass-numbers : numbers_in g.named ≡ named_in b
        pass-numbers = numbers-own g (block_here (blocks-first b bs k).1)

        -- after its rows come the others
        pub pass-rest : BlocksOf (left s a.next) m bs
        pass-rest = let f = blocks-first b bs k in
            subst (λ t. BlocksOf t m bs) (rows-one (rows-own g (block_here f.1)) x.rows).1 f.2
