-- One more cube line: what stands for it, and what the parts of its reading say. Assumes nothing.
use Prim.Native.Nat.{ℕ, ◌+◌, ◌-◌, ◌<◌, ◌≤◌}
use mathlib.Core.Path.{◌≡◌, refl, sym, ap, ap₂, ◌∙◌}
use mathlib.Core.List.{List, [], ◌∷◌, ◌++◌, map, map-append, append-nil}
use mathlib.Core.Option.{Option, none, some}
use native.Mathlib.Numerals.{add-one}
use native.Mathlib.Omega.{arith}
use lib.Dec.{ltb}
use lib.ListN.{length, take, set, length-append}
use lib.Seq.{take-suc-set}
use borrow.Author.Tests.{lt-ltb, le-ltb, le-leb, lt-leb}
use Rattle.sets.{specs.Lists.total, specs.Masks.packed, proofs.Lists.keep_append, proofs.Lists.total-append}
use Rattle.expression.specs.Words.{cubes_of, Put}
use Rattle.table_rows.specs.Lines.{most_places, CubeLine, cube_line_of, cube_of, rows_in}
use Rattle.table_rows.specs.Answers.{Entry, parsed_of, entry_of, parsing}
use Rattle.table_rows.specs.declared.{Parsed.Parsed, Parsed.TheVariants.Line, Parsed.TheVariants.Nothing}
use Rattle.cube.specs.{Cube.lits, declared.Cube.Cube}
use Rattle.std.specs.Prelude.{Some}
use Rattle.table.specs.Table as table
use Rattle.table.specs.{Meaning.Bounded, Parts.held, Parts.marked, Parts.Stands, declared.State.State}
use Rattle.table.proofs.Standing.{inputs-few, outputs-few}

-- ---- one more cube line

module _ {t : table.State} {s : State} {words marks : List ℕ} (h : Stands t s words marks) (l : CubeLine) where
  plain : rows_in l ≡ 0 → marked (t.lines ++ (l ∷ [])) ≡ marked t.lines
  plain e = keep_append (λ (c : CubeLine). ltb 0 (rows_in c)) t.lines (l ∷ []) ∙ rw (le-ltb 0 (rows_in l) (omega arith)) (append-nil (marked t.lines))

  more : (rows_in l ≡ 0 → ⊥) → marked (t.lines ++ (l ∷ [])) ≡ marked t.lines ++ (l ∷ [])
  more f = keep_append (λ (c : CubeLine). ltb 0 (rows_in c)) t.lines (l ∷ []) ∙ rw (lt-ltb 0 (rows_in l) (omega arith))

  -- what stands for one line more, of so many rows, with so many cubes and masks kept
  abbrev grown : ℕ → ℕ → State
  grown rows kept = record { inputs = s.inputs; outputs = s.outputs; stated = s.stated; lines = s.lines + 1; rows = s.rows + rows; kept = kept }

  grow : {words' marks' : List ℕ} (rows kept : ℕ) → rows ≡ rows_in l → kept ≡ length (marked (t.lines ++ (l ∷ [])))
      → take kept (cubes_of words') ≡ map cube_of (marked (t.lines ++ (l ∷ [])))
      → take kept marks' ≡ map (λ (c : CubeLine). packed c.marks) (marked (t.lines ++ (l ∷ [])))
      → Stands (table.with_line t l) (grown rows kept) words' marks'
  grow rows kept e n c m = record {
    wide = h.wide;
    tall = h.tall;
    stated = h.stated;
    lines = ap (◌+ 1) h.lines ∙ sym (length-append t.lines (l ∷ []));
    rows = sym (total-append rows_in t.lines (l ∷ []) ∙ omega (arith, h.rows));
    kept = n;
    cubes = c;
    masks = m;
  }

  -- a line that makes no row
  pub stands_plain : (rows : ℕ) → rows ≡ rows_in l → rows ≡ 0 → Stands (table.with_line t l) (grown rows s.kept) words marks
  stands_plain rows e z = grow rows s.kept e (rw (plain (sym e ∙ z)) h.kept) (rw (plain (sym e ∙ z)) h.cubes) (rw (plain (sym e ∙ z)) h.masks)

  -- one that makes some
  pub stands-kept : {words' : List ℕ} {cube : List ℕ} (rows mask : ℕ) → rows ≡ rows_in l → (rows ≡ 0 → ⊥) → s.kept < length (cubes_of words)
      → s.kept < length marks
      → cube ≡ cube_of l → mask ≡ packed l.marks → Put words words' s.kept cube
      → Stands (table.with_line t l) (grown rows (s.kept + 1)) words' (set marks s.kept mask)
  stands-kept {words'} {cube} rows mask e f a b c k p =
      let m = more (λ z. f (e ∙ z)) in
      grow rows (s.kept + 1) e (ap (◌+ 1) h.kept ∙ sym (ap length m ∙ length-append (marked t.lines) (l ∷ [])))
      (ap₂ take (add-one s.kept) p.cubes
      ∙ take-suc-set (cubes_of words) s.kept cube a
      ∙ ap₂ (λ (x : List (List ℕ)) (y : List ℕ). x ++ (y ∷ [])) h.cubes c
      ∙ sym (ap (map cube_of) m ∙ map-append cube_of (marked t.lines) (l ∷ [])))
      (ap (λ (n : ℕ). take n (set marks s.kept mask)) (add-one s.kept)
      ∙ take-suc-set marks s.kept mask b
      ∙ ap₂ (λ (x : List ℕ) (y : ℕ). x ++ (y ∷ [])) h.masks k
      ∙ sym (ap (map (λ (d : CubeLine). packed d.marks)) m ∙ map-append (λ (d : CubeLine). packed d.marks) (marked t.lines) (l ∷ [])))

-- ---- what the reading of a cube line says

told_none : (o : Option CubeLine) → none ≡ entry_of o → o ≡ none
told_none none e = refl
told_none (some l) e = let z : ◌≡◌ {A = ℕ} 0 1 = cc in absurd (omega arith)

-- the line behind a cube, a mask and a number of rows
pub record Behind (o : Option CubeLine) (k : List ℕ) (m r : ℕ) : Type 0 where
  pub line : CubeLine
  pub is : o ≡ some line
  pub cube : k ≡ cube_of line
  pub mask : m ≡ packed line.marks
  pub rows : r ≡ rows_in line

told-some : (o : Option CubeLine) (k : List ℕ) (m r : ℕ) → some (record { cube = k; marks = m; rows = r }) ≡ entry_of o → Behind o k m r
told-some none k m r e = let z : ◌≡◌ {A = ℕ} 0 1 = cc in absurd (omega arith)
told-some (some l) k m r e =
    let q : ◌≡◌ {A = Entry} (record { cube = k; marks = m; rows = r }) (record { cube = cube_of l; marks = packed l.marks; rows = rows_in l }) = cc in
    record { line = l; is = refl; cube = ap (λ (x : Entry). x.cube) q; mask = ap (λ (x : Entry). x.marks) q; rows = ap (λ (x : Entry). x.rows) q }

module _ {t : table.State} {s : State} {words marks : List ℕ} (g : Bounded t) (h : Stands t s words marks) (c : List ℕ) where
  abbrev result : table.Turn
  result = table.cube_line t.wide t.tall c t

  module _ {n m : ℕ} (i : s.inputs ≡ Some n) (o : s.outputs ≡ Some m) where
    cube-there : result ≡ table.add_line (cube_line_of n m c) t
    cube-there = ap₂ (λ (a b : Option ℕ). table.cube_line a b c t) (sym h.wide ∙ ap held i) (sym h.tall ∙ ap held o)

    parsing-there : parsing n m c ≡ entry_of (cube_line_of n m c)
    unfolding parsing
    parsing-there = rw (le-leb n most_places (inputs-few g h n i), le-leb m most_places (outputs-few g h m o))

    module _ {p : Parsed} (e : parsed_of p ≡ parsing n m c) where
      pub cube-other : p ≡ Nothing → result ≡ table.refuse 2
      cube-other q = cube-there ∙ ap (λ (x : Option CubeLine). table.add_line x t)
          (told_none (cube_line_of n m c) (ap parsed_of (sym q) ∙ e ∙ parsing-there))

      pub cube-behind : (k : Cube) (x r : ℕ) → p ≡ Line k x r → Behind (cube_line_of n m c) (lits k) x r
      cube-behind k x r q = told-some (cube_line_of n m c) (lits k) x r (ap parsed_of (sym q) ∙ e ∙ parsing-there)

    module _ {k : List ℕ} {x r : ℕ} (b : Behind (cube_line_of n m c) k x r) where
      added : result ≡ table.add_line (some b.line) t
      added = cube-there ∙ ap (λ (y : Option CubeLine). table.add_line y t) b.is

      pub cube-over : table.most_rows - s.rows < r → result ≡ table.refuse 6
      cube-over l = added ∙ rw (lt-leb (total rows_in t.lines + rows_in b.line) table.most_rows (omega (arith, h.rows, b.rows)))

      pub cube-within : r ≤ table.most_rows - s.rows → s.rows ≤ table.most_rows → result ≡ table.next (table.with_line t b.line)
      cube-within l w = added ∙ rw (le-leb (total rows_in t.lines + rows_in b.line) table.most_rows (omega (arith, h.rows, b.rows)))
