-- The lines in turn: what was read, and what is left, give the outcome of the whole text. Assumes nothing.
use Prim.Native.Nat.{ℕ, zero, suc, ◌+◌, ◌<◌, ◌≤◌}
use mathlib.Core.Path.{◌≡◌, refl, sym, ap, ap₂, ◌∙◌, subst}
use mathlib.Core.Bool.{Bool, true, false, cond}
use mathlib.Core.List.{List, [], ◌∷◌}
use native.Mathlib.Numerals.{add-one}
use native.Mathlib.Omega.{arith}
use lib.Dec.{eqb}
use lib.ListN.{length, drop, get_or, drop_of_length-le}
use Rattle.std.{proofs.lemmas.List.Splits.length-slice_split, proofs.lemmas.List.Sums.count_by-le-length, specs.Prelude.None}
use Rattle.sets.proofs.Places.{drop-next}
use Rattle.expression.specs.Words.{cubes_of}
use Rattle.network.specs.Handed.{AllZero}
use Rattle.table_lines.specs.Text.{onto, lines_of, content}
use Rattle.table_lines.proofs.Lining.{lines-split}
use Rattle.table_kinds.specs.Kinds.{kind_of}
use Rattle.table.specs.Table as table
use Rattle.table.specs.Table.{most_bytes, most_rows, start, by_kind, read_line, read_lines, read_text, column_at}
use Rattle.table.specs.{Meaning.Bounded, declared.State.State, declared.Turn.Turn, declared.Refusal.Refusal}
use Rattle.table.specs.Parts.{Stands, LineTurned, Leaves, Roomy, column_by, stopped_at, Scans}
use Rattle.table.specs.declared.Turn.TheVariants.{Next, Done, Refused}
use Rattle.table.specs.declared.Answer.TheVariants as answer
use Rattle.table.specs.{declared.Scanned.Scanned, declared.Table.Table, Answers.Told}
use Rattle.table.proofs.{Marking.marked-few, Reasons.next-iff, Standing.column-same}
use Rattle.table.proofs.Going.{start-bounded, goes-bounded, goes-more}
use Rattle.table.proofs.Refusals.{lines-turn, lines_end, text-lines}

-- ---- the lines of a text

-- there are no more than bytes, and one
pub lines-few : (t : List ℕ) → length (lines_of t) ≤ length t + 1
lines-few t = omega (arith, ap length (lines-split t), length-slice_split (λ b. eqb b 10) t, count_by-le-length (λ b. eqb b 10) t)

-- none is longer than the text
pub line-short : (t : List ℕ) (k : ℕ) (d : List ℕ) → k < length (lines_of t) → length (get_or (lines_of t) k d) ≤ length t
unfolding lines_of
line-short [] zero d h = omega arith
line-short [] (suc k) d h = absurd (omega arith)
line-short (b ∷ t) k d h = go (eqb b 10) (lines_of t) (line-short t) k h
  where
    go : (e : Bool) (ls : List (List ℕ)) → ((i : ℕ) (z : List ℕ) → i < length ls → length (get_or ls i z) ≤ length t)
        → (i : ℕ) → i < length (cond e ([] ∷ ls) (onto b ls)) → length (get_or (cond e ([] ∷ ls) (onto b ls)) i d) ≤ suc (length t)
    go true ls f zero g = omega arith
    go true ls f (suc i) g = omega (arith, f i d (omega arith))
    go false [] f zero g = omega arith
    go false [] f (suc i) g = absurd (omega arith)
    go false (l ∷ ls) f zero g = omega (arith, f 0 d (omega arith))
    go false (l ∷ ls) f (suc i) g = omega (arith, f (suc i) d (omega arith))

-- ---- what was read of the first k lines, and what is left

pub record Reading (text words marks : List ℕ) (s : State) (k : ℕ) : Type 0 where
  pub now : table.State
  pub good : Bounded now
  pub stands : Stands now s words marks
  pub few : length now.lines ≤ k
  pub left : read_lines (suc k) (drop k (lines_of text)) now ≡ read_lines 1 (lines_of text) start

pub reading-first : (text words marks : List ℕ) → Reading text words marks
    (record { inputs = None; outputs = None; stated = None; lines = 0; rows = 0; kept = 0 }) 0
reading-first text words marks = record {
  now = start;
  good = start-bounded;
  stands = record { wide = refl; tall = refl; stated = refl; lines = refl; rows = refl; kept = refl; cubes = refl; masks = refl };
  few = omega arith;
  left = refl;
}

module _ {text words marks : List ℕ} {s : State} {k : ℕ} (r : Reading text words marks s k) where
  pub reading-rows : s.rows ≤ most_rows
  reading-rows = omega (arith, r.stands.rows, r.good.rows)

  pub reading-roomy : k ≤ most_bytes → length (cubes_of words) ≡ most_rows → length marks ≡ most_rows → Roomy s words marks
  reading-roomy h p q = record {
    kept = omega (arith, r.stands.kept, r.stands.rows, marked-few r.now.lines);
    rows = reading-rows;
    lines = omega (arith, r.stands.lines, r.few);
    places = p;
    masks = q;
  }

  -- no line is left
  pub reading-over : length (lines_of text) ≤ k → Scans (read_lines 1 (lines_of text) start)
      (record { answer = answer.Refused (record { number = 5; line = 0; column = 0 }); state = s }) words marks
  reading-over h =
      let e : read_lines 1 (lines_of text) start ≡ table.refused_at 5 0 0 =
      sym r.left ∙ ap (λ (l : List (List ℕ)). read_lines (suc k) l r.now) (drop_of_length-le (lines_of text) h) ∙ lines_end (suc k) r.now in
      rw e

  -- the next line
  module _ {l c : List ℕ} (words' marks' : List ℕ) (p : Turn) (h : k < length (lines_of text)) (q : l ≡ get_or (lines_of text) k l) (e : c ≡ content l)
      (f : Leaves (by_kind (kind_of c) c) s p words marks words' marks') where
    abbrev others : List (List ℕ)
    others = drop (k + 1) (lines_of text)

    turned : LineTurned (read_line l r.now) p words' marks'
    unfolding read_line
    turned = subst (λ (x : List ℕ). LineTurned (by_kind (kind_of x) x r.now) p words' marks') e (f r.now r.good r.stands)

    whole : read_lines (suc k) (l ∷ others) r.now ≡ read_lines 1 (lines_of text) start
    whole = let d : l ∷ others ≡ drop k (lines_of text) = ap (λ (x : List ℕ). x ∷ others) q ∙ sym (drop-next (lines_of text) k l h) in
        ap (λ (ls : List (List ℕ)). read_lines (suc k) ls r.now) d ∙ r.left

    pub reading-next : (s' : State) → p ≡ Next s' → Reading text words' marks' s' (k + 1)
    reading-next s' i = go (read_line l r.now) refl (rw i at turned)
      where
        go : (x : table.Turn) → read_line l r.now ≡ x → LineTurned x (Next s') words' marks' → Reading text words' marks' s' (k + 1)
        go (table.next t) y z = let g = (next-iff l r.now t).0 y in record {
          now = t;
          good = goes-bounded r.good g;
          stands = z;
          few = omega (arith, r.few, goes-more g);
          left = ap (λ (n : ℕ). read_lines (suc n) others t) (add-one k) ∙ sym (lines-turn (suc k) l others r.now y) ∙ whole;
        }
        go (table.done t) y z = absurd z
        go (table.refuse n) y z = absurd z

    -- a line that does not go on gives the outcome
    pub reading-stop : ((s' : State) → p ≡ Next s' → ⊥)
        → Scans (read_lines 1 (lines_of text) start) (stopped_at p l (k + 1) s) words' marks'
    reading-stop f = go (read_line l r.now) refl p refl turned
      where
        came : {x : table.Turn} → read_line l r.now ≡ x → read_lines 1 (lines_of text) start
            ≡ elim x [
              | table.next t ↦ read_lines (suc (suc k)) others t
              | table.done t ↦ table.accepted t
              | table.refuse n ↦ table.refused_at n (suc k) (column_at r.now l n)
            ]
        came y = sym whole ∙ lines-turn (suc k) l others r.now y

        columns : {n m : ℕ} → n ≡ m → column_by s l n ≡ column_at r.now l m
        columns {n} {m} d = ap (column_by s l) d ∙ column-same r.good r.stands l m

        go : (x : table.Turn) → read_line l r.now ≡ x → (z : Turn) → p ≡ z → LineTurned x z words' marks'
            → Scans (read_lines 1 (lines_of text) start) (stopped_at z l (k + 1) s) words' marks'
        go x y (Next s') i d = absurd (f s' i)
        go (table.next t) y (Done s') i d = absurd d
        go (table.next t) y (Refused n) i d = absurd d
        go (table.done t) y (Done s') i d = rw (came y) (refl, d)
        go (table.done t) y (Refused n) i d = absurd d
        go (table.refuse m) y (Done s') i d = absurd d
        go (table.refuse m) y (Refused n) i d =
            rw (came y, add-one k) (ap₂ (λ (v w : ℕ). answer.Refused (record { number = v; line = suc k; column = w })) d (columns d))

-- ---- the answer to a whole text

module _ (words marks : List ℕ) where
  -- what was read, where nothing is refused
  scans-read : (o : table.Outcome) (x : Scanned) → Scans o x words marks → x.answer ≡ answer.Read
      → (t : table.State) × (o ≡ table.accepted t) × Stands t x.state words marks
  scans-read (table.accepted t) x h e = (t, refl, h.1)
  scans-read (table.refused q) x h e = let z : ◌≡◌ {A = ℕ} 0 1 = cc in absurd (omega arith)

  -- a refusal is handed on
  scans-refused : (o : table.Outcome) (x : Scanned) (r : Table) → Scans o x words marks → (q : Refusal) → x.answer ≡ answer.Refused q
      → (r.answer ≡ x.answer) × AllZero r.network → Told o r
  scans-refused (table.accepted t) x r h q e b = let a = h.0 in let z : ◌≡◌ {A = ℕ} 0 1 = cc in absurd (omega arith)
  scans-refused (table.refused p) x r h q e b = (b.0 ∙ h, b.1)

  -- a text that is not too long
  module _ (text : List ℕ) (short : length text ≤ most_bytes) (x : Scanned) (h : Scans (read_lines 1 (lines_of text) start) x words marks) where
    pub text-read : x.answer ≡ answer.Read → (t : table.State) × (read_text text ≡ table.accepted t) × Stands t x.state words marks
    text-read e = let r = scans-read (read_lines 1 (lines_of text) start) x h e in (r.0, text-lines text short ∙ r.1, r.2)

    pub text-refused : (r : Table) (q : Refusal) → x.answer ≡ answer.Refused q → (r.answer ≡ x.answer) × AllZero r.network → Told (read_text text) r
    text-refused r q e b = rw (text-lines text short) (scans-refused (read_lines 1 (lines_of text) start) x r h q e b)
