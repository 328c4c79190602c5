-- The text of a network in the Berkeley Logic Interchange Format: lines of words, each line ended by LF.
use Rattle.std.specs.Prelude.{ℕ, suc, cond, List, [], ◌∷◌, ◌++◌, map, length}
use Rattle.sets.specs.{Lists.from, Literal.plain_of, Literal.negated_of, Sets.mem}
use Rattle.letters.specs.Letters.{name_text}
use Rattle.letters_products.specs.Spelled.{spelled}
use Rattle.network.specs.{Net.Node, Net.Net, Handed.flat}
use Rattle.network_reads.specs.Reading.{reads_of}
use Rattle.image_laws.specs.Renumber.{renumbered}

-- ---- lines of words

-- words, one space apart
unfoldable pub spaced : List (List ℕ) → List ℕ
spaced [] = []
spaced (w ∷ ws) = w ++ flat (map (λ u. 32 ∷ u) ws)

-- lines, each ended by LF
unfoldable pub ended : List (List ℕ) → List ℕ
ended ls = flat (map (λ l. l ++ (10 ∷ [])) ls)

-- ---- names

-- variables are x, outputs y, with a number
pub data Name : Type 0 where
  variable : ℕ → Name
  output : ℕ → Name

unfoldable pub name_word : Name → List ℕ
name_word (variable v) = name_text 120 v
name_word (output j) = name_text 121 j

-- the first m names of a letter
abbrev pub first_names : ℕ → ℕ → List (List ℕ)
first_names b m = map (name_text b) (from 0 m)

-- ---- rows

-- `1` where the cube has the variable plain, `0` where negated, `-` where it has neither
unfoldable pub sign_of : List ℕ → ℕ → ℕ
sign_of c v = cond (mem (plain_of v) c) 49 (cond (mem (negated_of v) c) 48 45)

-- a sign for each variable that is read, and `1`; where none is read, `1` alone
unfoldable pub row_words : List ℕ → List ℕ → List (List ℕ)
row_words [] c = spelled "1" ∷ []
row_words (v ∷ vs) c = map (sign_of c) (v ∷ vs) ∷ spelled "1" ∷ []

-- ---- blocks

-- what a block defines, and the cubes of its rows
pub record Block : Type 0 where
  pub name : Name
  pub cubes : List (List ℕ)

-- the variables that the cubes read, ascending, and the name that is defined
unfoldable pub names_words : Block → List (List ℕ)
names_words b = spelled ".names" ∷ (map (name_text 120) (reads_of b.cubes) ++ (name_word b.name ∷ []))

-- the names, then a row for each cube
unfoldable pub block_lines : Block → List (List ℕ)
block_lines b = spaced (names_words b) ∷ map (λ c. spaced (row_words (reads_of b.cubes) c)) b.cubes

-- ---- models

pub record Model : Type 0 where
  pub inputs : ℕ
  pub outputs : ℕ
  pub blocks : List Block

-- `.model`, `.inputs`, `.outputs`
unfoldable pub head_lines : List ℕ → ℕ → ℕ → List (List ℕ)
head_lines name n m =
    spaced (spelled ".model" ∷ name ∷ [])
    ∷ spaced (spelled ".inputs" ∷ first_names 120 n)
    ∷ spaced (spelled ".outputs" ∷ first_names 121 m)
    ∷ []

unfoldable pub model_lines : List ℕ → Model → List (List ℕ)
model_lines name d = head_lines name d.inputs d.outputs ++ (flat (map block_lines d.blocks) ++ (spelled ".end" ∷ []))

unfoldable pub model_text : List ℕ → Model → List ℕ
model_text name d = ended (model_lines name d)

-- ---- networks

-- outputs, numbered from j on
unfoldable pub output_blocks : ℕ → List (List (List ℕ)) → List Block
output_blocks j [] = []
output_blocks j (f ∷ fs) = record { name = output j; cubes = f } ∷ output_blocks (suc j) fs

abbrev pub divisor_block : Node → Block
divisor_block e = record { name = variable e.number; cubes = e.cubes }

-- a block for each divisor, then for each output
unfoldable pub model_of : Net → Model
model_of n = record {
  inputs = n.inputs;
  outputs = length n.outputs;
  blocks = map divisor_block n.divisors ++ output_blocks 0 n.outputs;
}

-- the text of a network, in the image's order and numbering
unfoldable pub blif_of : Net → List ℕ
blif_of n = model_text (spelled "net") (model_of (renumbered n))
