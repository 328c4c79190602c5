-- What is found of a table text has the report's text: a refusal, or the run on its network. Assumes nothing.
use Prim.Native.Nat.{ℕ}
use mathlib.Core.Path.{◌≡◌, sym, ap, ◌∙◌}
use mathlib.Core.{Bool.true, List.List}
use Rattle.network.specs.{Held.net_of, Held.rules, Net.Net}
use Rattle.extract_laws.specs.Run.{run, asked_steps}
use Rattle.table.specs.{Table.read_text, declared.Refusal.Refusal, declared.Answer.TheVariants.Read, declared.Answer.TheVariants.Refused}
use Rattle.table.specs.Answers as table
use Rattle.table.{specs.declared.Table.Table, proofs.Telling.told-refused, proofs.Keeping.read-net, proofs.Keeping.read-rules}
use Rattle.report.specs.Report.{refusal_text, ran_text, outcome_text, report_of}

-- ---- a table that was read

module _ (t : List ℕ) (r : Table) (h : table.Told (read_text t) r) where
  pub found-refusal : (k : Refusal) → r.answer ≡ Refused k → refusal_text k ≡ report_of t
  unfolding report_of outcome_text
  found-refusal k e = sym (ap outcome_text (told-refused r (read_text t) h k e))

  module _ (e : r.answer ≡ Read) where
    pub found-rules : rules r.network ≡ true
    found-rules = read-rules t r h e

    pub found-run : ran_text (net_of r.network) (run asked_steps (net_of r.network)) ≡ report_of t
    unfolding report_of outcome_text
    found-run = let s = read-net t r h e in ap (λ (n : Net). ran_text n (run asked_steps n)) s.2 ∙ sym (ap outcome_text s.1)
