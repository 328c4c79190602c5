-- Words for the contracts of the private functions: names and signs of a set of variables, rows, blocks of nodes in turn.
use Rattle.std.specs.Prelude.{ℕ, suc, ◌+◌, ◌≤◌, List, [], ◌∷◌, ◌++◌, map, length, take, drop}
use Rattle.sets.specs.{Lists.keep, Lists.from, Literal.plain_of, Sets.mem}
use Rattle.letters.specs.Letters.{name_text}
use Rattle.letters_products.specs.Spelled.{spelled}
use Rattle.cube.specs.Cube.{width}
use Rattle.expression.specs.Words.{cubes_of}
use Rattle.network_nodes.specs.Nodes.{cut}
use Rattle.network_reads.specs.Reading.{reads_of, Marks}
use Rattle.network.specs.{Held.most_variables, Handed.flat}
use Rattle.blif_laws.specs.Text.{spaced, ended, row_words}

-- words, a space before each
abbrev pub led : List (List ℕ) → List ℕ
led ws = flat (map (λ w. 32 ∷ w) ws)

-- ---- a cube of plain literals as a set of variables

-- the variables whose plain literal the cube has, ascending
unfoldable pub plains_of : List ℕ → List ℕ
plains_of c = keep (λ v. mem (plain_of v) c) (from 0 width)

-- it has no other literals
abbrev pub AllPlain : List ℕ → Type 0
AllPlain c = Marks c (plains_of c)

-- ---- blocks

-- the rows of cubes, where the variables vs are read
abbrev pub rows_text : List ℕ → List (List ℕ) → List ℕ
rows_text vs f = ended (map (λ c. spaced (row_words vs c)) f)

-- the block that defines a name by the cubes f
unfoldable pub block_text : List ℕ → List (List ℕ) → List ℕ
block_text w f = ended (spaced (spelled ".names" ∷ (map (name_text 120) (reads_of f) ++ (w ∷ []))) ∷ map (λ c. spaced (row_words (reads_of f) c)) f)

-- a block for each node, with names of the letter b in turn from v on
unfoldable pub blocks_text : ℕ → ℕ → List (List (List ℕ)) → List ℕ
blocks_text b v [] = []
blocks_text b v (f ∷ fs) = block_text (name_text b v) f ++ blocks_text b (suc v) fs

-- n nodes from place a on
abbrev pub nodes_at : ℕ → ℕ → List ℕ → List ℕ → List (List (List ℕ))
nodes_at a n words counts = take n (drop a (cut counts (cubes_of words)))

-- there are so many, and as many numbers for them from v on
pub record Nameable (counts : List ℕ) (a n v : ℕ) : Type 0 where
  pub inside : a + n ≤ length counts
  pub small : v + n ≤ most_variables
