-- The rows of a table, line by line and output by output: the cubes kept are those of the rows, and there are as many. Assumes nothing.
use Prim.Native.Nat.{ℕ, zero, suc, ◌+◌, ◌<◌, ◌≤◌}
use mathlib.Core.Path.{◌≡◌, refl, sym, ap, ap₂, ◌∙◌}
use mathlib.Core.Bool.{Bool, true, false, cond}
use mathlib.Core.List.{Memᴰ.head as here, Memᴰ.tail as there}
use mathlib.Core.List.{List, [], ◌∷◌, map}
use native.Mathlib.Omega.{arith}
use lib.Dec.{ltb}
use lib.ListN.{length, get_or, take}
use lib.Seq.{length-take-le, take_all}
use borrow.Author.Tests.{lt-ltb, ltb-true}
use Rattle.sets.specs.Lists.{keep, total, from}
use Rattle.sets.{specs.Masks.bit, specs.Masks.packed, proofs.Truth.clash, proofs.Packing.packed-bit}
use Rattle.sets.proofs.Lists.{◌∈◌, keep-keep, total-cong, total-sum, total-times, total-map, map-cong}
use Rattle.expression.specs.{Words.cubes_of, Expression.sort, Expression.absorbed}
use Rattle.table_rows.specs.Lines.{CubeLine, rows_in, cube_of}
use Rattle.std.specs.Prelude.{unwrap_or}
use Rattle.table.{proofs.Standing.held-zero, specs.Meaning.Complete, specs.declared.State.State}
use Rattle.table_columns.specs.Columns.{or_zero}
use Rattle.table.specs.Table as table
use Rattle.table.specs.Table.{most_rows, cubes_for, output_for, table_net}
use Rattle.table.specs.Parts.{picked, pick, marked, Stands, formed, Buildable, net_from}

-- the line has a `1` at output j
abbrev has : ℕ → CubeLine → Bool
has j l = get_or l.marks j false

-- ---- the cubes kept

-- a `1` makes a row
mark-row : (l : List Bool) (j : ℕ) → get_or l j false ≡ true → 0 < length (keep (λ b. b) l)
mark-row [] j h = clash h refl
mark-row (true ∷ l) j h = omega arith
mark-row (false ∷ l) zero h = clash h refl
mark-row (false ∷ l) (suc j) h = mark-row l j h

picked-lines : (j : ℕ) (l : List CubeLine) → picked j (map cube_of l) (map (λ (c : CubeLine). packed c.marks) l) ≡ cubes_for j l
unfolding picked
picked-lines j [] = refl
picked-lines j (c ∷ l) = go (bit (packed c.marks) j) (has j c) (packed-bit c.marks j) (picked-lines j l)
  where
    go : (a b : Bool) → a ≡ b → picked j (map cube_of l) (map (λ (d : CubeLine). packed d.marks) l) ≡ cubes_for j l
        → cond a (cube_of c ∷ picked j (map cube_of l) (map (λ (d : CubeLine). packed d.marks) l))
        (picked j (map cube_of l) (map (λ (d : CubeLine). packed d.marks) l)) ≡ map cube_of (cond b (c ∷ keep (has j) l) (keep (has j) l))
    go true true e r = ap (cube_of c ∷◌) r
    go true false e r = clash refl e
    go false true e r = clash refl (sym e)
    go false false e r = r

module _ {t : table.State} {s : State} {words marks : List ℕ} (h : Stands t s words marks) where
  -- the cubes picked for an output are those of its rows
  pub pick-cubes : (j : ℕ) → pick j words marks s.kept ≡ cubes_for j t.lines
  pick-cubes j =
      ap₂ (picked j) h.cubes h.masks
      ∙ picked-lines j (marked t.lines)
      ∙ ap (map cube_of) (keep-keep (has j) (λ (c : CubeLine). ltb 0 (rows_in c)) t.lines (λ c e. lt-ltb 0 (rows_in c) (mark-row c.marks j e)))

  -- the network built is the table's
  pub net-same : net_from (unwrap_or s.inputs 0) (unwrap_or s.outputs 0) words marks s.kept ≡ table_net t
  unfolding table_net
  net-same = λ i. record {
    inputs = (held-zero s.inputs ∙ ap or_zero h.wide) i;
    outputs = (ap (λ (m : ℕ). map (formed words marks s.kept) (from 0 m)) (held-zero s.outputs ∙ ap or_zero h.tall)
        ∙ map-cong (formed words marks s.kept) (output_for t.lines) (from 0 (or_zero t.tall))
        (λ j m. ap (λ (f : List (List ℕ)). sort (absorbed f)) (pick-cubes j))) i;
    divisors = [];
  }

-- ---- as many rows by output as by line

from_suc : (k m : ℕ) → from (suc k) m ≡ map suc (from k m)
unfolding from
from_suc k zero = refl
from_suc k (suc m) = ap (suc k ∷◌) (from_suc (suc k) m)

abbrev one : Bool → ℕ
one b = cond b 1 0

marks-total : (l : List Bool) → total (λ j. one (get_or l j false)) (from 0 (length l)) ≡ length (keep (λ b. b) l)
unfolding from
marks-total [] = refl
marks-total (b ∷ l) =
    ap (λ (z : List ℕ). one b + total (λ j. one (get_or (b ∷ l) j false)) z) (from_suc 0 (length l))
    ∙ ap (one b +◌) (total-map (λ j. one (get_or (b ∷ l) j false)) suc (from 0 (length l)) ∙ marks-total l)
    ∙ go b
  where
    go : (c : Bool) → one c + length (keep (λ d. d) l) ≡ length (keep (λ d. d) (c ∷ l))
    go true = omega arith
    go false = omega arith

pub rows-exchange : (m : ℕ) (l : List CubeLine) → ((c : CubeLine) → c ∈ l → length c.marks ≡ m)
    → total (λ j. length (cubes_for j l)) (from 0 m) ≡ total rows_in l
rows-exchange m [] h = omega (arith, total-times (λ j. 0) 0 (from 0 m))
rows-exchange m (c ∷ l) h =
    total-sum (λ j. length (cubes_for j (c ∷ l))) (λ j. one (has j c)) (λ j. length (cubes_for j l)) (from 0 m) (λ j i. go j (has j c))
    ∙ ap₂ ◌+◌ (ap (λ (k : ℕ). total (λ j. one (has j c)) (from 0 k)) (sym (h c (here refl))) ∙ marks-total c.marks)
    (rows-exchange m l (λ d i. h d (there i)))
  where
    go : (j : ℕ) (b : Bool) → length (map cube_of (cond b (c ∷ keep (has j) l) (keep (has j) l))) ≡ one b + length (cubes_for j l)
    go j true = omega arith
    go j false = omega arith

-- as many lines make a row as there are rows, or fewer
pub marked-few : (l : List CubeLine) → length (marked l) ≤ total rows_in l
marked-few [] = omega arith
marked-few (c ∷ l) = go (ltb 0 (rows_in c)) refl (marked-few l)
  where
    go : (b : Bool) → ltb 0 (rows_in c) ≡ b → length (marked l) ≤ total rows_in l → length (cond b (c ∷ marked l) (marked l)) ≤ rows_in c + total rows_in l
    go true e h = omega (arith, ltb-true 0 (rows_in c) e)
    go false e h = omega arith

-- the cubes kept of a table that is accepted can be built from
pub kept-buildable : {t : table.State} {n m : ℕ} {s : State} {words marks : List ℕ} → Complete t n m → Stands t s words marks
    → length (cubes_of words) ≡ most_rows → length marks ≡ most_rows → Buildable words marks s.kept (unwrap_or s.outputs 0)
kept-buildable {t} {n} {m} {s} {words} {marks} c h p q =
    let k : s.kept ≤ s.rows = omega (arith, h.kept, h.rows, marked-few t.lines) in
    let e : unwrap_or s.outputs 0 ≡ m = held-zero s.outputs ∙ ap or_zero (h.tall ∙ c.tall) in
    record {
      source = record { cubes = omega (arith, h.rows, c.rows); masks = omega (arith, h.rows, c.rows) };
      outputs = omega (arith, c.outputs);
      few = omega (
        arith,
        c.rows,
        rows-exchange m t.lines (λ l i. (c.shaped l i).marks),
        ap (λ (z : ℕ). total (λ j. length (cubes_for j t.lines)) (from 0 z)) e,
        total-cong (λ j. length (pick j words marks s.kept)) (λ j. length (cubes_for j t.lines)) (from 0 (unwrap_or s.outputs 0))
            (λ j i. ap length (pick-cubes h j)),
      );
    }

-- ---- the marks, no more than those kept

module _ {words marks : List ℕ} {k m : ℕ} (b : Buildable words marks k m) where
  cut : length (take k marks) ≡ k
  cut = length-take-le k marks b.source.masks

  pick-cut : (j : ℕ) → pick j words (take k marks) (length (take k marks)) ≡ pick j words marks k
  pick-cut j = rw cut (ap (picked j (take k (cubes_of words))) (take_all k (take k marks) (omega (arith, cut))))

  pub net-cut : (n : ℕ) → net_from n m words (take k marks) (length (take k marks)) ≡ net_from n m words marks k
  net-cut n = ap (λ (f : List (List (List ℕ))). record { inputs = n; outputs = f; divisors = [] })
      (map-cong (formed words (take k marks) (length (take k marks))) (formed words marks k) (from 0 m)
      (λ j i. ap (λ (f : List (List ℕ)). sort (absorbed f)) (pick-cut j)))

  pub cut-buildable : Buildable words (take k marks) (length (take k marks)) m
  cut-buildable = record {
    source = record { cubes = omega (arith, cut, b.source.cubes); masks = omega arith };
    outputs = b.outputs;
    few = omega (
      arith,
      b.few,
      total-cong (λ j. length (pick j words (take k marks) (length (take k marks)))) (λ j. length (pick j words marks k)) (from 0 m)
          (λ j i. ap length (pick-cut j)),
    );
  }
