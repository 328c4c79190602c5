-- What is answered once the text is in the form, without a gap, and every name is defined once.
use Rattle.std.specs.Prelude.{ℕ, ◌+◌, ◌<◌, ◌≤◌, Bool, true, cond, ◌&&◌, leb, length}
use mathlib.Core.{Path.◌≡◌, List.List, List.Memᴰ}
use Rattle.sets.specs.Lists.{total}
use Rattle.expression.specs.Expression.{reach}
use Rattle.network.specs.Held.{up_to, most_inputs, most_outputs, most_variables, most_cubes}
use Rattle.network.specs.{Handed.gives, Handed.refuses, Handed.Told, declared.Handed.Handed}
use Rattle.blif_laws.specs.Text.{variable, Block}
use Rattle.blif_laws.specs.Reading.{defined_once, divisors_in, net_in, keeps_rules}
use Rattle.blif_scan.specs.Scanning.{left}
use Rattle.blif_form.specs.Surveying.{BlocksOf, SmallBlocks}
use Rattle.blif_read.specs.Defining.{model_by}

-- the numbers of inputs, outputs, variables and rows are within the limits
abbrev pub few : ℕ → ℕ → ℕ → ℕ → Bool
few n m top rows = up_to most_inputs n && (up_to most_outputs m && (leb top most_variables && leb rows most_cubes))

-- the network read off the blocks, or 10
abbrev pub FinishedIs : List ℕ → ℕ → ℕ → ℕ → ℕ → Handed → Type 0
FinishedIs s first n m k r = (bs : List Block) → BlocksOf (left s first) m bs → SmallBlocks bs → defined_once (model_by n m bs) ≡ true
    → divisors_in (model_by n m bs) ≡ k → ((b : Block) → Memᴰ b bs → reach (n + k) b.cubes ≡ true)
    → total (λ (b : Block). length b.cubes) bs ≤ most_cubes → ((v : ℕ) → n ≤ v → v < n + k → (b : Block) × Memᴰ b bs × (b.name ≡ variable v))
    → Told (cond (keeps_rules (net_in (model_by n m bs))) (gives (net_in (model_by n m bs))) (refuses 10)) r
