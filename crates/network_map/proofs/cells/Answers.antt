-- `network_map::cells` meets its contract: a cube for each row, and of it a cell for each variable. Assumes nothing.
use Prim.Native.Nat.{ℕ, ◌+◌, ◌*◌, ◌/◌, ◌%◌, ◌<◌}
use mathlib.Core.Path.{◌≡◌, ◌∙◌, ap₂}
use mathlib.Core.{Bool.false}
use native.Mathlib.Omega.{arith}
use borrow.Author.Rules.{rules}
use borrow.Author.Tests.{tests}
use lib.ListN.{get_or}
use Rattle.sets.specs.{Literal.plain_of, Sets.mem}
use Rattle.cube.{specs.Cube.lits, proofs.Lits.no_cube}
use Rattle.network.specs.Held.{most_outputs, most_variables}
use Rattle.network_reads.{specs.Reading.Marks, proofs.Marking.marks-plain}
use Rattle.network_map.specs.Cells.{row_of}
use Rattle.network_map.proofs.Made.{made-at}
use Rattle.network_map.proofs.cells.Goals as goal

pub returns : goal.returns
returns c =
    let n = c.args.n in
    let rows = c.from_fn-rows.result in
    let row : (j : ℕ) → j < most_outputs → Marks (lits (get_or rows j no_cube)) (row_of n j) =
    made-at (λ j r. Marks (lits r) (row_of n j)) _ most_outputs (λ i y q h k. (search rules, search rules)) no_cube rows c.from_fn-rows.ensures.items in
    let cell : (i : ℕ) → i < most_outputs * most_variables
    → get_or c.from_fn.result i false ≡ mem (plain_of (i % most_variables)) (lits (get_or rows (i / most_variables) no_cube)) =
    made-at (λ i y. y ≡ mem (plain_of (i % most_variables)) (lits (get_or rows (i / most_variables) no_cube))) _ (most_outputs * most_variables)
    (λ i y q h k. (search rules, search (rules, tests))) false c.from_fn.result c.from_fn.ensures.items in
    record {
      each = λ j v a b.
          let d : (j * most_variables + v) / most_variables ≡ j = omega arith in
          let m : (j * most_variables + v) % most_variables ≡ v = omega arith in
          cell (j * most_variables + v) (omega arith)
          ∙ ap₂ (λ (x y : ℕ). mem (plain_of x) (lits (get_or rows y no_cube))) m d ∙ marks-plain (row j a) v;
    }
