-- Reading a BLIF text: lines joined and parted, names to numbers, blocks in any order; 14 for the form, then 15 for what is defined, then 10.
use Rattle.std.specs.Prelude.{ℕ, suc, ◌+◌, Bool, true, false, cond, not, ◌&&◌, List, [], ◌∷◌, ◌++◌, map, eqb, leb, ltb, length}
use Rattle.std.proofs.Math.Option.{Option, none, some}
use Rattle.sets.specs.Lists.{all, keep, is_nil, from}
use Rattle.sets.specs.{Literal.plain_of, Literal.negated_of, Sets.mem, Sets.same}
use Rattle.letters.specs.{Letters.decimal, Letters.name_text, Meaning.read_back}
use Rattle.letters_products.specs.Spelled.{spelled}
use Rattle.table_rows.specs.Lines.{is_place}
use Rattle.expression.specs.Expression.{sort}
use Rattle.network.specs.Net.{Net, variables, cube_count}
use Rattle.network.specs.Held.{numbered, ruled, up_to, most_inputs, most_outputs, most_variables, most_cubes}
use Rattle.network.specs.Handed.{flat, Return, gives, refuses}
use Rattle.network_reads.specs.Reading.{reads_of}
use Rattle.blif_laws.specs.Text.{Name, variable, output, Block, Model}

module _ {A B : Type 0} where
  -- go on with what is read
  abbrev pub and_then : Option A → (A → Option B) → Option B
  and_then none k = none
  and_then (some x) k = k x

-- ---- lines and words

-- each backslash that stands right before an LF is taken out together with that LF
unfoldable pub joined : List ℕ → List ℕ
joined [] = []
joined (b ∷ []) = b ∷ []
joined (b ∷ d ∷ t) = cond (eqb b 92 && eqb d 10) (joined t) (b ∷ joined (d ∷ t))

-- a byte more at the front of the first piece
abbrev pub onto : ℕ → List (List ℕ) → List (List ℕ)
onto b [] = (b ∷ []) ∷ []
onto b (w ∷ ws) = (b ∷ w) ∷ ws

-- the pieces of a text that is cut at each byte b
unfoldable pub cut_at : ℕ → List ℕ → List (List ℕ)
cut_at b [] = [] ∷ []
cut_at b (d ∷ t) = cond (eqb d b) ([] ∷ cut_at b t) (onto d (cut_at b t))

-- lines end at LF or at the end of the text
abbrev pub lines_in : List ℕ → List (List ℕ)
lines_in t = cut_at 10 t

-- words stand one space apart
abbrev pub words_in : List ℕ → List (List ℕ)
words_in l = cut_at 32 l

-- a line that begins with a point, and the lines after it up to the next such line
pub record Part : Type 0 where
  pub head : List ℕ
  pub rows : List (List ℕ)

-- the lines before the first that begins with a point, and the parts from there on
pub record Parted : Type 0 where
  pub ahead : List (List ℕ)
  pub parts : List Part

abbrev pub pointed : List ℕ → Bool
pointed [] = false
pointed (b ∷ l) = eqb b 46

abbrev pub part_more : List ℕ → Parted → Parted
part_more l p = cond (pointed l)
    (record { ahead = []; parts = record { head = l; rows = p.ahead } ∷ p.parts })
    (record { ahead = l ∷ p.ahead; parts = p.parts })

unfoldable pub parts_of : List (List ℕ) → Parted
parts_of [] = record { ahead = []; parts = [] }
parts_of (l ∷ ls) = part_more l (parts_of ls)

-- ---- names

-- the number that digits write, none of them more than it needs
unfoldable pub number_in : List ℕ → Option ℕ
number_in ds = cond (same (decimal (read_back 0 ds)) ds) (some (read_back 0 ds)) none

-- the name that a word is
unfoldable pub name_in : List ℕ → Option Name
name_in [] = none
name_in (b ∷ ds) =
    cond (eqb b 120) (and_then (number_in ds) (λ v. some (variable v)))
    (cond (eqb b 121) (and_then (number_in ds) (λ j. some (output j))) none)

-- the words are names of the letter b, numbered in turn from k on
unfoldable pub in_turn : ℕ → ℕ → List (List ℕ) → Bool
in_turn b k [] = true
in_turn b k (w ∷ ws) = same w (name_text b k) && in_turn b (suc k) ws

-- what the names of a block's line say: the variables that are read, and the name that is defined
pub record Named : Type 0 where
  pub reads : List ℕ
  pub name : Name

abbrev pub read_more : ℕ → Named → Named
read_more v d = record { reads = v ∷ d.reads; name = d.name }

-- the last name of a line: a variable from `least` on, or an output
abbrev pub last_name : ℕ → Name → Option Named
last_name least (variable v) = cond (leb least v) (some (record { reads = []; name = variable v })) none
last_name least (output j) = some (record { reads = []; name = output j })

-- a name before it: a variable from `least` on, below all that follow
abbrev pub read_name : ℕ → Name → (ℕ → Option Named) → Option Named
read_name least (variable v) k = cond (leb least v) (and_then (k (suc v)) (λ d. some (read_more v d))) none
read_name least (output j) k = none

-- the names ascend
unfoldable pub names_in : ℕ → List (List ℕ) → Option Named
names_in least [] = none
names_in least (w ∷ []) = and_then (name_in w) (last_name least)
names_in least (w ∷ u ∷ ws) = and_then (name_in w) (λ a. read_name least a (λ k. names_in k (u ∷ ws)))

-- ---- rows

-- the words are a sign for each of r variables, and `1`; for none, `1` alone
unfoldable pub is_row : ℕ → List (List ℕ) → Bool
is_row r [] = false
is_row r (w ∷ []) = eqb r 0 && same w (spelled "1")
is_row r (w ∷ u ∷ []) = not (eqb r 0) && (eqb (length w) r && (all is_place w && same u (spelled "1")))
is_row r (w ∷ u ∷ x ∷ ws) = false

-- the literals of the signs: `1` is the plain literal of its variable, `0` the negated
unfoldable pub cube_in : List ℕ → List ℕ → List ℕ
cube_in [] w = []
cube_in (v ∷ vs) [] = []
cube_in (v ∷ vs) (b ∷ w) = cond (eqb b 49) (plain_of v ∷ cube_in vs w) (cond (eqb b 48) (negated_of v ∷ cube_in vs w) (cube_in vs w))

-- ---- blocks

-- an output that is defined is one of m; a variable may be any
abbrev pub among : ℕ → Name → Bool
among m (variable v) = true
among m (output j) = ltb j m

-- the cubes of rows
abbrev pub cubes_in : List ℕ → List (List ℕ) → List (List ℕ)
cubes_in vs rows = map (cube_in vs) rows

-- every row is one, every variable that is named is read by some row, and an output is one of m
unfoldable pub block_from : ℕ → List (List ℕ) → Named → Option Block
block_from m rows d =
    cond (all (λ l. is_row (length d.reads) (words_in l)) rows && (same (reads_of (cubes_in d.reads rows)) d.reads && among m d.name))
    (some (record { name = d.name; cubes = cubes_in d.reads rows })) none

-- the words after a keyword
abbrev pub after : List ℕ → List (List ℕ) → Option (List (List ℕ))
after k [] = none
after k (w ∷ ws) = cond (same w k) (some ws) none

-- `.names`, the names, and the rows
unfoldable pub block_in : ℕ → Part → Option Block
block_in m p = and_then (after (spelled ".names") (words_in p.head)) (λ ws. and_then (names_in 0 ws) (block_from m p.rows))

-- nothing comes after the last line, which may be ended by LF
abbrev pub closed : List (List ℕ) → Bool
closed [] = true
closed (l ∷ []) = is_nil l
closed (l ∷ k ∷ ls) = false

-- blocks, then `.end`
unfoldable pub blocks_in : ℕ → List Part → Option (List Block)
blocks_in m [] = none
blocks_in m (p ∷ []) = cond (same p.head (spelled ".end") && closed p.rows) (some []) none
blocks_in m (p ∷ q ∷ ps) = and_then (block_in m p) (λ b. and_then (blocks_in m (q ∷ ps)) (λ bs. some (b ∷ bs)))

-- ---- models

-- a byte or more, none of them tab or CR
abbrev pub is_model_name : List ℕ → Bool
is_model_name w = not (is_nil w) && all (λ b. not (eqb b 9) && not (eqb b 13)) w

-- `.model` and one word
unfoldable pub is_model : List (List ℕ) → Bool
is_model [] = false
is_model (k ∷ []) = false
is_model (k ∷ w ∷ []) = same k (spelled ".model") && is_model_name w
is_model (k ∷ w ∷ u ∷ ws) = false

-- a keyword and names of the letter b in turn from 0 on: how many
unfoldable pub list_in : List ℕ → ℕ → Part → Option ℕ
list_in k b p = and_then (after k (words_in p.head)) (λ ws. cond (is_nil p.rows && in_turn b 0 ws) (some (length ws)) none)

-- `.model`, `.inputs`, `.outputs`, then the blocks
unfoldable pub model_parts : List Part → Option Model
model_parts [] = none
model_parts (p ∷ []) = none
model_parts (p ∷ q ∷ []) = none
model_parts (p ∷ q ∷ r ∷ ps) = cond (is_model (words_in p.head) && is_nil p.rows)
    (and_then (list_in (spelled ".inputs") 120 q) (λ n.
    and_then (list_in (spelled ".outputs") 121 r) (λ m.
    and_then (blocks_in m ps) (λ bs. some (record { inputs = n; outputs = m; blocks = bs })))))
    none

-- the model that a text is in the form of, but for gaps in its numbers
unfoldable pub model_in : List ℕ → Option Model
model_in t = let p = parts_of (lines_in t) in cond (is_nil p.ahead) (model_parts p.parts) none

-- ---- which names stand, and which are defined

-- the variables that a block names
abbrev pub named_in : Block → List ℕ
named_in b = elim b.name [ variable v ↦ reads_of b.cubes ++ (v ∷ []) | output j ↦ reads_of b.cubes ]

-- the variables that stand in the text
abbrev pub standing : Model → List ℕ
standing d = from 0 d.inputs ++ flat (map named_in d.blocks)

-- below every variable that stands in the text, every one does
unfoldable pub gapless : Model → Bool
gapless d = all (λ v. all (λ u. mem u (standing d)) (from 0 v)) (standing d)

abbrev pub same_name : Name → Name → Bool
same_name (variable v) (variable u) = eqb v u
same_name (variable v) (output j) = false
same_name (output i) (variable v) = false
same_name (output i) (output j) = eqb i j

-- the blocks that define a name
abbrev pub blocks_for : Name → List Block → List Block
blocks_for a bs = keep (λ b. same_name a b.name) bs

-- an input is defined once, by standing among the inputs
abbrev pub input_times : ℕ → Name → ℕ
input_times n (variable v) = cond (ltb v n) 1 0
input_times n (output j) = 0

-- how often a name is defined: as an input, and by blocks
unfoldable pub times_defined : Model → Name → ℕ
times_defined d a = input_times d.inputs a + length (blocks_for a d.blocks)

-- every variable that stands in the text and every output is defined, and none twice
unfoldable pub defined_once : Model → Bool
defined_once d =
    all (λ v. eqb (times_defined d (variable v)) 1) (standing d)
    && all (λ j. eqb (times_defined d (output j)) 1) (from 0 d.outputs)

-- ---- the network

-- the cubes of the blocks that define a name, in cube order
unfoldable pub cubes_for : Name → List Block → List (List ℕ)
cubes_for a bs = sort (flat (map (λ (b : Block). b.cubes) (blocks_for a bs)))

abbrev pub is_variable : Name → Bool
is_variable (variable v) = true
is_variable (output j) = false

-- how many blocks define a variable
abbrev pub divisors_in : Model → ℕ
divisors_in d = length (keep (λ b. is_variable b.name) d.blocks)

unfoldable pub net_in : Model → Net
net_in d = record {
  inputs = d.inputs;
  outputs = map (λ j. cubes_for (output j) d.blocks) (from 0 d.outputs);
  divisors = numbered d.inputs (map (λ v. cubes_for (variable v) d.blocks) (from d.inputs (divisors_in d)));
}

-- the rules on networks and expressions, and the limits
unfoldable pub keeps_rules : Net → Bool
keeps_rules n =
    up_to most_inputs n.inputs && (up_to most_outputs (length n.outputs)
    && (leb (variables n) most_variables && (leb (cube_count n) most_cubes && ruled n)))

-- ---- the whole

abbrev pub judge_model : Option Model → Return
judge_model none = refuses 14
judge_model (some d) = cond (gapless d) (cond (defined_once d) (cond (keeps_rules (net_in d)) (gives (net_in d)) (refuses 10)) (refuses 15)) (refuses 14)

unfoldable pub read_blif : List ℕ → Return
read_blif text = judge_model (model_in (joined text))

-- ---- telling a text from other files

abbrev pub first : List (List ℕ) → List ℕ
first [] = []
first (w ∷ ws) = w

-- the first word of the text is `.model`
unfoldable pub is_blif : List ℕ → Bool
is_blif text = same (first (words_in (first (lines_in (joined text))))) (spelled ".model")
