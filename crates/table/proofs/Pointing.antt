-- The column of the refusal of a line, in the paper's words. Assumes nothing.
use Prim.Native.Nat.{ℕ, ◌+◌, ◌-◌, ◌<◌, ◌≤◌}
use mathlib.Core.Path.{◌≡◌, refl, sym, ap, ◌∙◌, subst}
use mathlib.Core.Logic.Iff
use mathlib.Core.{Logic.◌↔◌, List.List, Option.some}
use mathlib.Core.Bool.{Bool, true, false, not}
use native.Mathlib.Omega.{arith}
use lib.Dec.{eqb}
use Rattle.sets.{specs.Lists.total, proofs.Truth.clash}
use Rattle.letters.specs.Meaning.{is_digit}
use Rattle.network.specs.Held.{most_inputs, most_outputs}
use Rattle.table_lines.specs.Text.{is_blank, content}
use Rattle.table_kinds.{specs.Kinds.kind_of, specs.declared.Kind.Kind, proofs.Kinding.kind-iff}
use Rattle.table_kinds.specs.Meaning.{Names, OfKind, known, dot_i, dot_o, dot_p}
use Rattle.table_kinds.specs.declared.Kind.TheVariants.{Empty, Inputs, Outputs, Products, End, Other}
use Rattle.table_rows.specs.Lines.{CubeLine, cube_line_of, rows_in}
use Rattle.table_columns.specs.{Columns.or_zero, Meaning.Fault, Meaning.soon, Meaning.byte, Meaning.FirstOf, Meaning.RowMore}
use Rattle.table.specs.Table.{State, column_at, most_rows}
use Rattle.table.specs.Meaning.{Bounded, Points, fault, misplaced, digit, point, row}
use Rattle.table.specs.Meaning.{Refuses, late_inputs, late_outputs, late_products, early_end, early_cube, no_kind, out_inputs, out_outputs, out_products}
use Rattle.table.{specs.Meaning.differs, specs.Meaning.over, proofs.Standing.or-zero-same}
use Rattle.table_columns.proofs.{Faults.fault-iff, Faults.first-iff, Pointing.digit-iff, Pointing.row-iff}

-- ---- the line of a number names it by its letter

inputs-names : (c : List ℕ) (n : ℕ) → OfKind c (Inputs n) → Names 105 c n
inputs-names c n (known (dot_i _ h)) = h

outputs-names : (c : List ℕ) (n : ℕ) → OfKind c (Outputs n) → Names 111 c n
outputs-names c n (known (dot_o _ h)) = h

products-names : (c : List ℕ) (n : ℕ) → OfKind c (Products n) → Names 112 c n
products-names c n (known (dot_p _ h)) = h

-- ---- a line of a kind, and not empty

abbrev said : Kind → Bool
said Empty = false
said (Inputs n) = true
said (Outputs n) = true
said (Products n) = true
said End = true
said Other = false

apart : (c : List ℕ) {j k : Kind} → kind_of c ≡ j → said j ≡ true → said k ≡ false → kind_of c ≡ k → ⊥
apart c e h f d = clash (ap said (sym d ∙ e) ∙ h) f

-- ---- what each number points to

-- a byte that isn't blank
abbrev seen : ℕ → Bool
seen b = not (is_blank b)

-- the column of a place of which f holds
abbrev Spot : (ℕ → Type 0) → ℕ → Type 0
Spot f c = (p : ℕ) × (c ≡ p + 1) × f p

module _ (l : List ℕ) (s : State) where
  -- the rows that may still come
  abbrev left : ℕ
  left = most_rows - total rows_in s.lines

  led : {r : ℕ} (f : ℕ → Type 0) → ((p : ℕ) → f p → Points s l r (p + 1)) → (c : ℕ) → Spot f c → Points s l r c
  led {r} f g c (p, e, h) = subst (Points s l r) (sym e) (g p h)

  fault-is : kind_of (content l) ≡ Other → (c : ℕ) → Fault s.wide s.tall l c ↔ Points s l 2 c
  fault-is e c = (fault e, back c)
    where
      back : (c : ℕ) → Points s l 2 c → Fault s.wide s.tall l c
      back c (fault _ h) = h
      back _ (misplaced p f h) = absurd (f e)

  misplaced-is : (kind_of (content l) ≡ Other → ⊥) → (c : ℕ) → Spot (FirstOf seen l) c ↔ Points s l 2 c
  misplaced-is f c = (led (FirstOf seen l) (λ p h. misplaced p f h) c, back c)
    where
      back : (c : ℕ) → Points s l 2 c → Spot (FirstOf seen l) c
      back c (fault e h) = absurd (f e)
      back _ (misplaced p _ h) = (p, refl, h)

  digit-is : (c : ℕ) → Spot (FirstOf is_digit l) c ↔ Points s l 3 c
  digit-is c = (led (FirstOf is_digit l) (λ p h. digit p h) c, back c)
    where
      back : (c : ℕ) → Points s l 3 c → Spot (FirstOf is_digit l) c
      back _ (digit p h) = (p, refl, h)

  point-is : (c : ℕ) → Spot (FirstOf seen l) c ↔ Points s l 4 c
  point-is c = (led (FirstOf seen l) (λ p h. point p h) c, back c)
    where
      back : (c : ℕ) → Points s l 4 c → Spot (FirstOf seen l) c
      back _ (point p h) = (p, refl, h)

  row_is : (n m : ℕ) → s.wide ≡ some n → s.tall ≡ some m → (c : ℕ) → Spot (RowMore n m left l) c ↔ Points s l 6 c
  row_is n m w t c = (led (RowMore n m left l) (λ p h. row n m p w t h) c, back c)
    where
      back : (c : ℕ) → Points s l 6 c → Spot (RowMore n m left l) c
      back _ (row i j p a b h) = let x : i ≡ n = cc in let y : j ≡ m = cc in (p, refl, rw (x, y) at h)

  -- ---- the column of each refusal

  -- of no kind
  other-points : Bounded s → kind_of (content l) ≡ Other → (c : ℕ) → (column_at s l 2 ≡ c) ↔ Points s l 2 c
  other-points g e c = Iff.trans law (fault-is e c)
    where
      law : (column_at s l 2 ≡ c) ↔ Fault s.wide s.tall l c
      law = rw (or-zero-same most_inputs s.wide g.wide, or-zero-same most_outputs s.tall g.tall)
          at (fault-iff (or_zero s.wide) (or_zero s.tall) left l c e)

  -- of a kind: the first byte that isn't blank
  first-points : (r : ℕ) {k : Kind} → eqb r 3 ≡ false → eqb r 6 ≡ false → kind_of (content l) ≡ k → said k ≡ true → (c : ℕ)
      → (column_at s l r ≡ c) ↔ Spot (FirstOf seen l) c
  first-points r a b e h c = first-iff r s.wide s.tall left l c a b (apart (content l) e h refl) (apart (content l) e h refl)

  kind-points : {k : Kind} → kind_of (content l) ≡ k → said k ≡ true → (c : ℕ) → (column_at s l 2 ≡ c) ↔ Points s l 2 c
  kind-points e h c = Iff.trans (first-points 2 refl refl e h c) (misplaced-is (apart (content l) e h refl) c)

  -- a number out of range
  number-points : (x n : ℕ) → Names x (content l) n → (c : ℕ) → (column_at s l 3 ≡ c) ↔ Points s l 3 c
  number-points x n h c = Iff.trans (digit-iff s.wide s.tall left l c x n h) (digit-is c)

  -- too many rows
  row-points : (n m : ℕ) (x : CubeLine) → Bounded s → s.wide ≡ some n → s.tall ≡ some m → cube_line_of n m (content l) ≡ some x
      → most_rows < total rows_in s.lines + rows_in x → (c : ℕ) → (column_at s l 6 ≡ c) ↔ Points s l 6 c
  row-points n m x g w t e h c = Iff.trans law (row_is n m w t c)
    where
      law : (column_at s l 6 ≡ c) ↔ Spot (RowMore n m left l) c
      law = let i : left < rows_in x = omega (arith, g.rows) in rw w (row-iff n m left s.tall l c x e i)

-- the column is the one that the paper says
pub points-iff : (l : List ℕ) (s : State) (r c : ℕ) → Bounded s → Refuses s (content l) r → (column_at s l r ≡ c) ↔ Points s l r c
points-iff l s _ c g (late_inputs n k h) = kind-points l s k refl c
points-iff l s _ c g (late_outputs n k h) = kind-points l s k refl c
points-iff l s _ c g (late_products n k h) = kind-points l s k refl c
points-iff l s _ c g (early_end k h) = kind-points l s k refl c
points-iff l s _ c g (early_cube k h) = other-points l s g k c
points-iff l s _ c g (no_kind n m k w t e) = other-points l s g k c
points-iff l s _ c g (out_inputs n k t h) = number-points l s 105 n (inputs-names (content l) n ((kind-iff (content l) (Inputs n)).0 k)) c
points-iff l s _ c g (out_outputs n k t h) = number-points l s 111 n (outputs-names (content l) n ((kind-iff (content l) (Outputs n)).0 k)) c
points-iff l s _ c g (out_products n k t h) = number-points l s 112 n (products-names (content l) n ((kind-iff (content l) (Products n)).0 k)) c
points-iff l s _ c g (differs p k a b e f) = Iff.trans (first-points l s 4 refl refl k refl c) (point-is l s c)
points-iff l s _ c g (over n m x k w t e h) = row-points l s n m x g w t e h c

-- it is from 1 on
pub points-from : {s : State} {l : List ℕ} {r c : ℕ} → Points s l r c → 1 ≤ c
points-from (fault e (soon b)) = omega arith
points-from (fault e (byte p f h)) = omega arith
points-from (misplaced p f h) = omega arith
points-from (digit p h) = omega arith
points-from (point p h) = omega arith
points-from (row n m p w t h) = omega arith
