-- The network of a run on a table gives the table's outputs for every setting: what reading gave does, and a run keeps the outputs. Assumes nothing.
use Prim.Native.Nat.{ℕ, ◌<◌, ◌≤◌}
use mathlib.Core.{Path.◌≡◌, Path.◌∙◌, Bool.false, List.List}
use Rattle.sets.specs.Masks.{bit}
use Rattle.network.specs.{Answers.evaluated, declared.Number.TheVariants.Is, Handed.Shaped}
use Rattle.table.specs.{Table.read_text, declared.Answer.TheVariants.Read, declared.Table.Table}
use Rattle.table.specs.Written.{outputs_of, cube_lines_of, some_covers}
use Rattle.table.specs.Answers as table
use Rattle.table.proofs.Keeping.{read-rules, read-outputs}
use Rattle.extract.specs.Answers as extract
use Rattle.extract.{specs.Answers.run_on, specs.declared.Ran.Ran, proofs.Telling.ran-outputs}

module _ (text : List ℕ) (t : Table) (o : table.Told (read_text text) t) (e : t.answer ≡ Read)
    (shape : Shaped t.network) (k : ℕ) (r : Ran) (q : extract.Told (run_on k t.network) r) where
  -- output j of the resulting network is on exactly when some cube line of the text with a `1` for output j covers the setting; other bits are zero
  pub run-table-outputs : (x : ℕ) → (y : ℕ) × (evaluated r.network x ≡ Is y)
      × ((j : ℕ) → j < outputs_of text → bit y j ≡ some_covers (cube_lines_of text) x j)
      × ((j : ℕ) → outputs_of text ≤ j → bit y j ≡ false)
  run-table-outputs x =
      let w = read-outputs text t o e x in (w.0, ran-outputs k t.network r shape (read-rules text t o e) q x ∙ w.1, w.2, w.3)
