-- The name and the column of each node of a network.
use Rattle.std.specs.Prelude.{ℕ, zero, suc, ◌-◌, min, max, length, nat_le, nat_lt, slice_index_or}
use mathlib.Core.{Bool.cond, Bool.◌&&◌, List.List, List.[]}
use Rattle.sets.specs.{Lists.is_nil, Word.largest}
use Rattle.expression.specs.{Words.cubes_of, Words.spare_of, Expression.expression, Answers.most_handed}
use Rattle.factor.specs.{Form.form_of, Text.form_text}
use Rattle.network.specs.{Held.number_at, declared.Network.Network}
use Rattle.network_nodes.specs.Nodes.{cut}
use Rattle.spindle.specs.declared.node.Name.{Name}

-- the longest text that widens a column
abbrev pub longest : ℕ
longest = 40

-- an output is `y` and its place; a divisor is `x` and its number
unfoldable pub name_of : Network → ℕ → Name
name_of n i =
    cond (nat_lt i n.outputs) (record { letter = 121; number = i }) (record { letter = 120; number = min (number_at n.inputs (i - n.outputs)) largest })

-- the length of the factored text of the cubes f; 0 where they are too many or no expression, or the text is longer than a column
unfoldable pub length_of : List (List ℕ) → ℕ
length_of f =
    let k = length (form_text (form_of f)) in
    cond (nat_le (length f) most_handed && expression f && nat_le k longest) k 0

-- that of the cubes that words hold; 0 where a word is left over
abbrev pub length_in : List ℕ → ℕ
length_in ws = cond (is_nil (spare_of ws)) (length_of (cubes_of ws)) 0

-- that of node i
abbrev pub length_at : Network → ℕ → ℕ
length_at n i = length_of (slice_index_or (cut n.counts (cubes_of n.words)) i [])

-- the greatest of the first k nodes
unfoldable pub widest_of : Network → ℕ → ℕ
widest_of n zero = 0
widest_of n (suc k) = max (widest_of n k) (length_at n k)
