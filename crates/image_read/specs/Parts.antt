-- What the private parts of the reader find and leave.
use Rattle.std.specs.Prelude.{ℕ, ◌+◌, ◌*◌, ◌<◌, ◌≤◌, ◌≡◌, Bool, true, cond, ◌&&◌, List, [], map, leb, length, take, drop, replicate, MatchOption, MatchResult}
use Rattle.std.specs.Prelude.{Option, Result, Ok, Err}
use Rattle.sets.specs.Lists.{all, total}
use Rattle.sets.specs.Sets.{asc, proper, union}
use Rattle.cube.specs.Cube.{lits}
use Rattle.image_fields.specs.Fields.{value_of}
use Rattle.expression.specs.{Words.cubes_of, Words.Placed, Expression.expression, Expression.ordered}
use Rattle.network.specs.Handed.{flat, node_slots, word_slots, Return, gives, refuses, Holds}
use Rattle.network.specs.{Net.Net, declared.Network.Network}
use Rattle.network.specs.Held.{most_outputs, most_variables, most_cubes, most_literals}
use Rattle.network_nodes.specs.Nodes.{cut}
use Rattle.image_laws.specs.Widths.{edition1, head_size, most_node_bits, most_bits}
use Rattle.image_laws.specs.Reading.{Parsed, got, bad, Raw, get_nodes, get_raw, padding, reads_earlier}
use Rattle.image_read.specs.declared.{fields.Taken.Taken, nodes.State.State, Sizes.Sizes}
use Rattle.image_read.specs.declared.{Fault.Fault, Fault.TheVariants.Cut, Fault.TheVariants.Range, Fault.TheVariants.Order}

-- the number that a refusal is told by
abbrev pub number : Fault → ℕ
number Cut = 11
number Range = 12
number Order = 13

-- each part begins below one of these bounds, and leaves the next to the parts in it
abbrev pub times : ℕ → ℕ
times n = n * most_bits

-- no field is wider than a cube count
abbrev pub widest : ℕ
widest = edition1.cubes

-- ---- fields and cubes

-- the number in the first w bits; or there are fewer
abbrev pub FieldIs : ℕ → List Bool → Option ℕ → Type 0
FieldIs w l r = MatchOption r (length l < w) (λ v. (w ≤ length l) × (v ≡ value_of (take w l)))

-- literals as a set, ascending
abbrev pub set_of : List ℕ → List ℕ
set_of c = union c []

-- a cube of these literals was read from a bit on, and no more than the most bits
pub record CubeGot (most : ℕ) (bits : List Bool) (start : ℕ) (g : Parsed (List ℕ)) (r : Taken) : Type 0 where
  pub read : List ℕ
  pub is : g ≡ got read (drop r.at bits)
  pub cube : lits r.cube ≡ set_of read
  pub literals : r.literals ≡ length read
  pub ascending : r.ascending ≡ asc read
  pub proper : proper read ≡ true
  pub few : length read ≤ most_variables
  pub near : r.at ≤ start + most

-- or the number of the refusal
abbrev pub CubeIs : ℕ → List Bool → ℕ → Parsed (List ℕ) → Result Taken Fault → Type 0
CubeIs most bits start g r = MatchResult r (CubeGot most bits start g) (λ e. g ≡ bad (number e))

-- ---- nodes

-- one cube more
abbrev pub added : State → Taken → State
added s c = record { at = c.at; cubes = s.cubes + 1; literals = s.literals + c.literals; ascending = s.ascending && c.ascending }

-- no number passes the bound
pub record Low (bound : ℕ) (s : State) : Type 0 where
  pub at : s.at ≤ bound
  pub cubes : s.cubes ≤ bound
  pub literals : s.literals ≤ bound

-- no number grows by more
pub record GrowsBy (most : ℕ) (s t : State) : Type 0 where
  pub at : t.at ≤ s.at + most
  pub cubes : t.cubes ≤ s.cubes + most
  pub literals : t.literals ≤ s.literals + most

-- these cubes were put, as far as there are places for all, and counted with their literals
pub record Gathered (s t : State) (old new : List ℕ) (read : List (List ℕ)) : Type 0 where
  pub stored : s.cubes + length read ≤ length (cubes_of old) → Placed old new s.cubes (map set_of read)
  pub places : length (cubes_of new) ≡ length (cubes_of old)
  pub cubes : t.cubes ≡ s.cubes + length read
  pub literals : t.literals ≡ s.literals + total length read
  pub ascending : t.ascending ≡ (s.ascending && all asc read)
  pub proper : all proper read ≡ true

-- cubes were read, and no number grew by more than the most
pub record CubesGot (most : ℕ) (bits : List Bool) (s : State) (g : Parsed (List (List ℕ))) (old new : List ℕ) (t : State) : Type 0 where
  pub read : List (List ℕ)
  pub is : g ≡ got read (drop t.at bits)
  pub put : Gathered s t old new read
  pub near : GrowsBy most s t

-- or the number of the refusal
abbrev pub CubesAre : ℕ → List Bool → State → Parsed (List (List ℕ)) → List ℕ → List ℕ → Result State Fault → Type 0
CubesAre most bits s g old new r = MatchResult r (CubesGot most bits s g old new) (λ e. g ≡ bad (number e))

-- k nodes were read, and these are their counts
pub record NodesGot (k : ℕ) (bits : List Bool) (s : State) (g : Parsed (List (List (List ℕ)))) (old new counts : List ℕ) (t : State) : Type 0 where
  pub read : List (List (List ℕ))
  pub number : length read ≡ k
  pub is : g ≡ got read (drop t.at bits)
  pub put : Gathered s t old new (flat read)
  pub counted : counts ≡ map length read
  pub near : GrowsBy (most_variables * most_node_bits) s t

-- or the number of the refusal
abbrev pub NodesAre : ℕ → List Bool → State → Parsed (List (List (List ℕ))) → List ℕ → List ℕ → List ℕ → Result State Fault → Type 0
NodesAre k bits s g old new counts r = MatchResult r (NodesGot k bits s g old new counts) (λ e. g ≡ bad (number e))

-- ---- the whole

-- numbers of inputs, outputs and divisors that leave room for them
pub record SizesFit (z : Sizes) : Type 0 where
  pub outputs : z.outputs ≤ most_outputs
  pub variables : z.inputs + z.divisors ≤ most_variables

-- the nodes after the first fields
abbrev pub nodes_at : List Bool → Sizes → Parsed Raw
nodes_at bits z = get_nodes z.inputs z.outputs z.divisors (drop head_size bits)

-- out of range where there are too many variables
abbrev pub sizes_of : ℕ → ℕ → ℕ → Result Sizes Fault
sizes_of a b k = cond (leb (a + 1 + k) most_variables) (Ok (record { inputs = a + 1; outputs = b + 1; divisors = k })) (Err Range)

-- the first fields give these numbers, and the nodes follow
pub record HeadGot (bits : List Bool) (z : Sizes) : Type 0 where
  pub is : get_raw bits ≡ nodes_at bits z
  pub sized : SizesFit z

-- or the number of the refusal
abbrev pub HeadIs : List Bool → Result Sizes Fault → Type 0
HeadIs bits r = MatchResult r (HeadGot bits) (λ e. get_raw bits ≡ bad (number e))

-- an expression in cube order
abbrev pub tidy : List (List ℕ) → Bool
tidy f = expression f && ordered f

-- the nodes of counts and words
abbrev pub nodes_in : List ℕ → List ℕ → List (List (List ℕ))
nodes_in counts words = cut counts (cubes_of words)

-- divisors and outputs stand in the one order, and each divisor reads earlier variables alone
abbrev pub ordered_in : ℕ → List (List (List ℕ)) → List (List (List ℕ)) → Bool
ordered_in n ds os = all tidy ds && (all tidy os && reads_earlier n ds)

-- the counts of the outputs, and after them of the divisors
abbrev pub output_counts : Sizes → List ℕ → List ℕ
output_counts z counts = take z.outputs counts

abbrev pub divisor_counts : Sizes → List ℕ → List ℕ
divisor_counts z counts = take z.divisors (drop z.outputs counts)

-- what is read is not too long
pub record Judging (s : State) (z : Sizes) (counts : List ℕ) : Type 0 where
  pub at : s.at ≤ times 2
  pub sized : SizesFit z
  pub places : length counts ≡ node_slots

-- the sums of the counts are within the limits
abbrev pub few_in : State → Bool
few_in s = leb s.cubes most_cubes && leb s.literals most_literals

-- by three tests: what is left over, then the sums, then the order
abbrev pub verdict : Bool → Bool → Bool → Result (Unit {0}) Fault
verdict padded few sorted = cond padded (cond few (cond sorted (Ok tt) (Err Order)) (Err Range)) (Err Cut)

abbrev pub judged_of : List Bool → State → Sizes → List ℕ → List ℕ → List ℕ → Result (Unit {0}) Fault
judged_of bits s z apart words counts =
    verdict (padding (drop s.at bits)) (few_in s)
    (s.ascending && ordered_in z.inputs (nodes_in (divisor_counts z counts) apart) (nodes_in (output_counts z counts) words))

-- before the first node
abbrev pub first : State
first = record { at = head_size; cubes = 0; literals = 0; ascending = true }

-- before the first output: its cubes are put apart from the divisors'
abbrev pub second : State → State
second s = record { at = s.at; cubes = 0; literals = s.literals; ascending = s.ascending }

-- words before anything is read
abbrev pub blank_words : List ℕ
blank_words = replicate word_slots 0

-- a network that is given, or the number of the refusal
abbrev pub Gives : Return → Result Network Fault → Type 0
Gives o r = MatchResult r (λ n. (net : Net) × (o ≡ gives net) × Holds n net) (λ e. o ≡ refuses (number e))
