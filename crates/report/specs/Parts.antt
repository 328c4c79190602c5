-- What the contracts of the writers say: what was found, as text.
use Rattle.std.specs.Prelude.{ℕ, List, Result, Ok, Err}
use Rattle.extract.specs.Answers.{stop_of, made_in}
use Rattle.table.specs.declared.Refusal.{Refusal}
use Rattle.report.specs.Report.{run_text, refusal_text}
use Rattle.report.specs.declared.findings.Findings.{Findings}

-- the text of a run that was found
unfoldable pub run_of : Findings → List ℕ
run_of f = run_text f.start (made_in f.steps) f.end (stop_of f.stop)

-- the text of what was found, or the refusal in its place
abbrev pub found_text : Result Findings Refusal → List ℕ
found_text (Ok f) = run_of f
found_text (Err q) = refusal_text q
