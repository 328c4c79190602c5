-- BLIF texts that the form fixes, as a table: a row is a network and its text, a text and what it is read as, or a text and its refusal.
use Rattle.std.specs.Prelude.{ℕ, List, [], ◌∷◌, eqb}
use Prim.Native.String.{String}
use mathlib.Core.{Path.◌≡◌, Bool.Bool, Bool.false}
use Rattle.sets.specs.Sets.{same}
use Rattle.letters_products.specs.Spelled.{spelled}
use Rattle.network.specs.{Net.Net, Handed.Return, Handed.gives, Handed.refuses}
use Rattle.blif_laws.specs.{Text.blif_of, Reading.read_blif}

pub data Spelling : Type 0 where
  -- the text of a network
  writes : Net → String → Spelling
  -- a text is read as the network that has the other text
  reads : String → String → Spelling
  -- a text is refused by a number
  refused : String → ℕ → Spelling

-- a network was given, and this is its text
abbrev pub has_text : Return → List ℕ → Bool
has_text (gives n) t = same (blif_of n) t
has_text (refuses k) t = false

-- it was refused by this number
abbrev pub has_number : Return → ℕ → Bool
has_number (gives n) k = false
has_number (refuses j) k = eqb j k

unfoldable pub is_spelt : Spelling → Bool
is_spelt (writes n t) = same (blif_of n) (spelled t)
is_spelt (reads t u) = has_text (read_blif (spelled t)) (spelled u)
is_spelt (refused t k) = has_number (read_blif (spelled t)) k

-- what a row says
abbrev pub Spells : Spelling → Type 0
Spells (writes n t) = blif_of n ≡ spelled t
Spells (reads t u) = (n : Net) × (read_blif (spelled t) ≡ gives n) × (blif_of n ≡ spelled u)
Spells (refused t k) = read_blif (spelled t) ≡ refuses k

-- ---- the table: literal 2v is plain and 2v + 1 negated

-- case 3 after its step
abbrev pub case3 : Net
case3 = record {
  inputs = 4;
  outputs = ((4 ∷ 8 ∷ []) ∷ (6 ∷ 8 ∷ []) ∷ []) ∷ [];
  divisors = record { number = 4; cubes = (0 ∷ []) ∷ (2 ∷ []) ∷ [] } ∷ [];
}

-- constants 0 and 1, and two divisors of which the first reads the second: their numbers change
abbrev pub turned : Net
turned = record {
  inputs = 1;
  outputs = [] ∷ ([] ∷ []) ∷ ((3 ∷ []) ∷ []) ∷ [];
  divisors = record { number = 1; cubes = (1 ∷ 4 ∷ []) ∷ [] } ∷ record { number = 2; cubes = (0 ∷ []) ∷ [] } ∷ [];
}

unfoldable pub spellings : List Spelling
spellings =
    writes case3 ".model net\n.inputs x0 x1 x2 x3\n.outputs y0\n.names x0 x1 x4\n1- 1\n-1 1\n.names x2 x3 x4 y0\n1-1 1\n-11 1\n.end\n"
    ∷ writes turned ".model net\n.inputs x0\n.outputs y0 y1 y2\n.names x0 x1\n1 1\n.names x0 x1 x2\n01 1\n.names y0\n.names y1\n1\n.names x2 y2\n0 1\n.end\n"
    -- any model name, any order of blocks and rows, no last LF, broken lines
    ∷ reads ".model a\\b\n.inputs x0\n.outputs y0 y1\n.names x1 y1\n0 1\n.names y0\n1\n.names x0 x1\n1 1\n.end"
    ".model net\n.inputs x0\n.outputs y0 y1\n.names x0 x1\n1 1\n.names y0\n1\n.names x1 y1\n0 1\n.end\n"
    ∷ reads ".model net\n.inputs x0 \\\nx1\n.outputs y\\\n\\\n0\n.names x0 x1 y0\n-1 1\n1- \\\n1\n.end\n\\\n"
    ".model net\n.inputs x0 x1\n.outputs y0\n.names x0 x1 y0\n1- 1\n-1 1\n.end\n"
    -- 14: outside the form
    ∷ refused "" 14
    ∷ refused ".model n\n.inputs x0\n.outputs y0\n.names y0\n" 14
    ∷ refused ".model n\n.inputs x0\n.outputs y0\n.names y0\n.end\n\n" 14
    ∷ refused ".model n m\n.inputs x0\n.outputs y0\n.names y0\n.end\n" 14
    ∷ refused ".model n\n.inputs  x0\n.outputs y0\n.names y0\n.end\n" 14
    ∷ refused ".model n\n.inputs x0 \n.outputs y0\n.names y0\n.end\n" 14
    ∷ refused ".model n\n.inputs x00\n.outputs y0\n.names y0\n.end\n" 14
    ∷ refused ".model n\n.inputs x0 x2\n.outputs y0\n.names y0\n.end\n" 14
    ∷ refused ".model n\n.inputs x0\n.outputs y0\n.names x0 y0\n1 0\n.end\n" 14
    ∷ refused ".model n\n.inputs x0 x1\n.outputs y0\n.names x0 x1 y0\n1- 1\n.end\n" 14
    ∷ refused ".model n\n.inputs x0 x1\n.outputs y0\n.names x1 x0 y0\n11 1\n.end\n" 14
    ∷ refused ".model n\n.inputs x0\n.outputs y0\n.names x0 y0\n.end\n" 14
    ∷ refused ".model n\n.inputs x0\n.outputs y0\n.names y0 x1\n1 1\n.end\n" 14
    ∷ refused ".model n\n.inputs x0\n.outputs y0\n.names y0\n.names y1\n.end\n" 14
    ∷ refused ".model n\n.inputs x0\n.outputs y0\n.names x1 x1\n1 1\n.names y0\n.end\n" 14
    ∷ refused ".model n\n.inputs x0\n.outputs y0\n.names x2 y0\n1 1\n.end\n" 14
    -- 15: after it
    ∷ refused ".model n\n.inputs x0\n.outputs y0\n.names x1 y0\n1 1\n.end\n" 15
    ∷ refused ".model n\n.inputs x0\n.outputs y0 y1\n.names y0\n.end\n" 15
    ∷ refused ".model n\n.inputs x0\n.outputs y0\n.names y0\n.names y0\n1\n.end\n" 15
    ∷ refused ".model n\n.inputs x0\n.outputs y0\n.names x0\n.names y0\n.end\n" 15
    -- 10: after both
    ∷ refused ".model n\n.inputs\n.outputs y0\n.names y0\n.end\n" 10
    ∷ refused ".model n\n.inputs x0\n.outputs\n.end\n" 10
    ∷ refused ".model n\n.inputs x0\n.outputs y0\n.names y0\n1\n1\n.end\n" 10
    ∷ refused ".model n\n.inputs x0\n.outputs y0\n.names x0 y0\n1 1\n- 1\n.end\n" 10
    ∷ refused ".model n\n.inputs x0 x1\n.outputs y0\n.names x0 x1 y0\n1- 1\n11 1\n.end\n" 10
    ∷ []
