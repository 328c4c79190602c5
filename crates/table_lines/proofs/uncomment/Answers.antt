-- `table_lines::uncomment` meets its contract: what stands before the first `#`. Assumes nothing.
use Rattle.std.proofs.Common.{◌∙◌, ℕ, sym, ap, take}
use Rattle.table_lines.proofs.Ends.{uncommented-upto}
use Rattle.table_lines.proofs.uncomment.Goals as goal

pub returns : goal.returns
returns c = ap (λ (k : ℕ). take k c.args.l.now) c.find-e.ensures ∙ sym (uncommented-upto c.args.l.now)
