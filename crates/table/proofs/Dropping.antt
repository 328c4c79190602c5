-- Which cubes stand in the outputs of a table that is accepted: those of its rows in which no other one is contained. Assumes nothing.
use Prim.Native.Nat.{ℕ, ◌<◌}
use mathlib.Core.Path.{◌≡◌, sym, ap, ◌∙◌, subst}
use mathlib.Core.Logic.{inl, inr, ◌↔◌}
use mathlib.Core.Bool.{true, false, not}
use mathlib.Core.List.Memᴰ
use mathlib.Core.List.{List, []}
use lib.ListN.{get_or}
use borrow.Author.Tests.{not-true}
use Rattle.sets.specs.Lists.{all, keep}
use Rattle.sets.specs.Sets.{sub, asc, proper}
use Rattle.sets.proofs.Truth.{both, clash}
use Rattle.sets.proofs.Lists.{◌∈◌, all_in, all-out, keep-in, keep_out, map-in, map-out, pairwise-out}
use Rattle.sets.proofs.Sets.{sub_trans, sub-antisym}
use Rattle.expression.specs.Expression.{is_cube, loose, ordered, absorbed}
use Rattle.expression.proofs.Absorbing.{absorbed-sub, absorbed-covers, absorbed-loose}
use Rattle.expression.proofs.Sorting.{sort-in, sort-out, loose-flip}
use Rattle.network.specs.{Net.Net, Held.net_of}
use Rattle.table_rows.specs.Lines.{CubeLine, cube_of}
use Rattle.table_columns.specs.Columns.{or_zero}
use Rattle.table.specs.Table.{cubes_for, output_for, table_net, read_text}
use Rattle.table.specs.{Written.outputs_of, Written.cube_lines_of, Answers.Told, Rows.RowOf, Rows.NotDropped}
use Rattle.table.specs.declared.{Answer.TheVariants.Read, Table.Table}
use Rattle.table.proofs.Outputs.{cubes-are, output-form, net-output}
use Rattle.table.proofs.{Writing.read-lines, Keeping.read-net}

-- ---- the cubes kept of a list

module _ (f : List (List ℕ)) (h : all is_cube f ≡ true) where
  ascending : {c : List ℕ} → c ∈ f → asc c ≡ true
  ascending {c} m = (both (asc c) (proper c) (all-out is_cube m h)).0

  covered : (e : List ℕ) → e ∈ f → (k : List ℕ) × (k ∈ absorbed f) × (sub k e ≡ true)
  covered = absorbed-covers f (all_in asc f (λ c m. ascending m))

  kept_out : (c : List ℕ) → c ∈ absorbed f → (d : List ℕ) → d ∈ f → sub d c ≡ true → d ≡ c
  unfolding loose
  kept_out c m d i s =
      let r = covered d i in
      let k = r.0 in
      let t = sub_trans k d c r.2 s in
      elim (pairwise-out loose loose-flip (absorbed-loose f) r.1 m) [
        | inl e ↦ sub-antisym d c (ascending i) (ascending (absorbed-sub f c m)) s (subst (λ (x : List ℕ). sub x d ≡ true) e r.2)
        | inr e ↦ clash t (not-true (sub k c) (both (not (sub k c)) (not (sub c k)) e).0)
      ]

  kept_in : (c : List ℕ) → c ∈ f → ((d : List ℕ) → d ∈ f → sub d c ≡ true → d ≡ c) → c ∈ absorbed f
  kept_in c m l = let r = covered c m in Memᴰ.cast (sym (l r.0 (absorbed-sub f r.0 r.1) r.2)) r.1

-- ---- the cubes of an output

module _ (lines : List CubeLine) (j : ℕ) where
  row_out : {c : List ℕ} → c ∈ cubes_for j lines → RowOf lines j c
  row_out m =
      let x = map-out cube_of (keep (λ (l : CubeLine). get_or l.marks j false) lines) m in
      let k = keep_out (λ (l : CubeLine). get_or l.marks j false) lines x.1 in
      record { line = x.0; there = k.0; one = k.1; cube = x.2 }

  row_in : {c : List ℕ} → RowOf lines j c → c ∈ cubes_for j lines
  row_in r = Memᴰ.cast r.cube (map-in cube_of (keep-in (λ (l : CubeLine). get_or l.marks j false) r.there r.one))

  output-out : (c : List ℕ) → c ∈ output_for lines j → NotDropped lines j c
  output-out c m =
      let k = sort-out (absorbed (cubes_for j lines)) m in
      record {
        row = row_out (absorbed-sub (cubes_for j lines) c k);
        alone = λ d r s. kept_out (cubes_for j lines) (cubes-are j lines) c k d (row_in r) s;
      }

  output-in : (c : List ℕ) → NotDropped lines j c → c ∈ output_for lines j
  output-in c l = sort-in (kept_in (cubes_for j lines) (cubes-are j lines) c (row_in l.row) (λ d m s. l.alone d (row_out m) s))

-- ---- what reading a table hands back

module _ (t : List ℕ) (r : Table) (o : Told (read_text t) r) (e : r.answer ≡ Read) where
  output-is : (j : ℕ) → j < outputs_of t → get_or (net_of r.network).outputs j [] ≡ output_for (cube_lines_of t) j
  output-is j h =
      let n = read-net t r o e in
      let w = read-lines t n.0 n.1 in
      ap (λ (k : Net). get_or k.outputs j []) n.2
      ∙ net-output n.0 j (subst (λ (m : ℕ). j < m) (sym (ap or_zero w.tall)) h)
      ∙ ap (λ (l : List CubeLine). output_for l j) w.lines

  -- a cube stands in output j exactly when it is that of a cube line of the text with a `1` for output j, and no other of those is contained
  -- in it; the cubes stand in cube order, each once
  pub read-cubes : (j : ℕ) → j < outputs_of t → let f = get_or (net_of r.network).outputs j [] in
      ((c : List ℕ) → (c ∈ f) ↔ NotDropped (cube_lines_of t) j c) × (ordered f ≡ true)
  read-cubes j h = rw (output-is j h) (λ c. (output-out (cube_lines_of t) j c, output-in (cube_lines_of t) j c), (output-form (cube_lines_of t) j).1)

  -- and there is no divisor
  pub read-divisors : (net_of r.network).divisors ≡ []
  unfolding table_net
  read-divisors = ap (λ (k : Net). k.divisors) (read-net t r o e).2
