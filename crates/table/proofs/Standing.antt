-- What the numbers that stand for what was read say of it: what is missing, in time or agrees, and the column of a refusal. Assumes nothing.
use Prim.Native.Nat.{ℕ, zero, suc, ◌≤◌}
use mathlib.Core.Path.{◌≡◌, refl, sym, ap, ◌∙◌}
use mathlib.Core.Bool.{Bool, true, false, not, false≢true}
use mathlib.Core.List.{List, [], ◌∷◌}
use mathlib.Core.Option.{Option, none, some}
use native.Mathlib.Omega.{arith}
use lib.Dec.{leb, eqb}
use lib.ListN.{length}
use borrow.Author.Tests.{leb-true, ne_eqb}
use Rattle.sets.{specs.Lists.is_nil, proofs.Truth.both, proofs.Truth.clash}
use Rattle.network.specs.Held.{most_inputs, most_outputs}
use Rattle.table_rows.specs.Lines.{CubeLine}
use Rattle.table_columns.specs.Columns.{unless_zero, or_zero}
use Rattle.std.specs.Prelude.{Some, None, unwrap_or}
use Rattle.std.specs.Option.{is_some}
use Rattle.std.specs.Prelude as std
use Rattle.table.specs.Table as table
use Rattle.table.specs.Table.{missing, right_count, column_at}
use Rattle.table.specs.{Meaning.within, Meaning.Bounded, Parts.held, Parts.Stands, Parts.column_by, declared.State.State}

-- ---- a number from 1 on stands for itself, 0 for a missing one

pub or-zero-same : (most : ℕ) (o : Option ℕ) → within most o ≡ true → unless_zero (or_zero o) ≡ o
or-zero-same most none h = refl
or-zero-same most (some zero) h = clash h refl
or-zero-same most (some (suc n)) h = refl

pub held-zero : (o : std.Option ℕ) → unwrap_or o 0 ≡ or_zero (held o)
held-zero None = refl
held-zero (Some n) = refl

number-few : (most n : ℕ) (o : Option ℕ) → within most o ≡ true → some n ≡ o → n ≤ most
number-few most n none h e = let z : ◌≡◌ {A = ℕ} 0 1 = cc in absurd (omega arith)
number-few most n (some k) h e = let q : n ≡ k = cc in omega (arith, leb-true k most (both (leb 1 k) (leb k most) h).1)

pub missing-held : (o : std.Option ℕ) {t : Option ℕ} (r : Bool) → held o ≡ t → is_some o ≡ not r → missing t ≡ r
missing-held None true e q = ap missing (sym e)
missing-held None false e q = absurd (false≢true q)
missing-held (Some n) true e q = absurd (false≢true (sym q))
missing-held (Some n) false e q = ap missing (sym e)

nil-zero : (l : List CubeLine) → is_nil l ≡ eqb (length l) 0
nil-zero [] = refl
nil-zero (c ∷ l) = sym (ne_eqb (length (c ∷ l)) 0 (λ e. omega arith))

pub lines_none : {t : table.State} {s : State} {words marks : List ℕ} → Stands t s words marks → is_nil t.lines ≡ eqb s.lines 0
lines_none {t} h = rw h.lines (nil-zero t.lines)

module _ {t : table.State} {s : State} {words marks : List ℕ} (g : Bounded t) (h : Stands t s words marks) where
  pub inputs-few : (n : ℕ) → s.inputs ≡ Some n → n ≤ most_inputs
  inputs-few n e = number-few most_inputs n t.wide g.wide (sym (ap held e) ∙ h.wide)

  pub outputs-few : (n : ℕ) → s.outputs ≡ Some n → n ≤ most_outputs
  outputs-few n e = number-few most_outputs n t.tall g.tall (sym (ap held e) ∙ h.tall)

  pub agrees-unstated : s.stated ≡ None → right_count t.stated t.lines ≡ true
  agrees-unstated e = ap (λ (o : Option ℕ). right_count o t.lines) (sym h.stated ∙ ap held e)

  pub agrees : {p : ℕ} → s.stated ≡ Some p → right_count t.stated t.lines ≡ eqb p s.lines
  agrees {p} e = ap (λ (o : Option ℕ). right_count o t.lines) (sym h.stated ∙ ap held e) ∙ ap (eqb p) (sym h.lines)

  -- the column of a refusal is the same by what was read and by the numbers
  pub column-same : (l : List ℕ) (k : ℕ) → column_by s l k ≡ column_at t l k
  column-same l k =
      let a : unless_zero (unwrap_or s.inputs 0) ≡ t.wide = ap unless_zero (held-zero s.inputs ∙ ap or_zero h.wide) ∙ or-zero-same most_inputs t.wide g.wide in
      let b : unless_zero (unwrap_or s.outputs 0) ≡ t.tall =
      ap unless_zero (held-zero s.outputs ∙ ap or_zero h.tall) ∙ or-zero-same most_outputs t.tall g.tall in
      cc h.rows
