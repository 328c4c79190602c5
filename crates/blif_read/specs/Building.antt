-- The network of a text, whatever its blocks are, where every name is defined once and the limits are kept.
use Rattle.std.specs.Prelude.{ℕ, Option, Some, None, ◌+◌, ◌-◌, ◌<◌, ◌≤◌, min, max, leb, ltb, length, get_or}
use mathlib.Core.{Path.◌≡◌, Bool.true, Bool.cond}
use mathlib.Core.List.{List, ◌++◌, map, Memᴰ}
use Rattle.sets.specs.Lists.{all, keep, total, from}
use Rattle.sets.specs.{Sets.asc, Word.largest}
use Rattle.letters_products.specs.Spelled.{spelled}
use Rattle.cube.specs.Cube.{width}
use Rattle.expression.specs.{Words.cubes_of, Words.Placed, Expression.sort, Expression.reach}
use Rattle.network.specs.Held.{number_at, most_inputs, most_outputs, most_variables, most_cubes}
use Rattle.network.specs.{Handed.Holds, declared.Network.Network}
use Rattle.blif_laws.specs.Text.{Name, variable, output, Block}
use Rattle.blif_laws.specs.Reading.{cube_in, blocks_for, cubes_for, defined_once, divisors_in, net_in}
use Rattle.blif_scan.specs.Scanning.{left, label_of}
use Rattle.blif_lines.specs.Lining.{RowsOf}
use Rattle.blif_form.specs.Surveying.{BlockOf, BlocksOf, SmallBlock, SmallBlocks}
use Rattle.blif_read.specs.Defining.{model_by}
use Rattle.blif_scan.specs.declared.Label.{Label}

-- ---- finding a block

-- one of the blocks stands at a place, after `.names` and its space, and defines the name
pub record StandsAt (s : List ℕ) (m : ℕ) (bs : List Block) (a : Name) (p : ℕ) : Type 0 where
  pub block : Block
  pub inside : Memᴰ block bs
  pub name : a ≡ block.name
  pub more : List ℕ
  pub is : BlockOf (spelled ".names " ++ left s p) m block more

abbrev pub FoundIs : List ℕ → ℕ → Label → Option ℕ → Type 0
FoundIs s first a (Some p) = (m : ℕ) (bs : List Block) → m ≤ largest → BlocksOf (left s first) m bs → SmallBlocks bs → StandsAt s m bs (label_of a) p
FoundIs s first a None = (m : ℕ) (bs : List Block) → m ≤ largest → BlocksOf (left s first) m bs → SmallBlocks bs
    → (b : Block) → Memᴰ b bs → label_of a ≡ b.name → ⊥

-- ---- putting its cubes

-- the numbers that are marked, ascending
abbrev pub marked_in : List ℕ → List ℕ
marked_in marks = keep (λ v. leb 1 (get_or marks v 0)) (from 0 most_variables)

-- variables of cubes, ascending
pub record Columns (vs : List ℕ) : Type 0 where
  pub order : asc vs ≡ true
  pub low : all (λ v. ltb v width) vs ≡ true

-- the literals of the signs, whatever they are
abbrev pub SignsAre : List ℕ → ℕ → List ℕ → List ℕ → Type 0
SignsAre s from vs c = (w t : List ℕ) → Columns vs → length w ≡ length vs → left s from ≡ w ++ t → c ≡ cube_in vs w

-- so many cubes from a place on have room, or there is no such place
abbrev pub Within : List ℕ → ℕ → ℕ → Type 0
Within words at r = at + r ≤ max at (length (cubes_of words))

-- the cubes of the rows, whatever they are, where there is room
pub record RowsPut (s : List ℕ) (from : ℕ) (vs old new : List ℕ) (at r : ℕ) : Type 0 where
  pub within : Within old at r
  pub put : (ws : List (List ℕ)) (more : List ℕ) → Columns vs → RowsOf (left s from) (length vs) ws more → at + length ws ≤ length (cubes_of old)
      → (r ≡ length ws) × Placed old new at (map (cube_in vs) ws)

-- the cubes of the block, whatever it is, where its variables are few and there is room
abbrev pub NodeIs : List ℕ → ℕ → List ℕ → List ℕ → ℕ → ℕ → Type 0
NodeIs s from old new at r = (m : ℕ) (b : Block) (more : List ℕ) → m ≤ largest → SmallBlock b → BlockOf (spelled ".names " ++ left s from) m b more
    → reach most_variables b.cubes ≡ true → at + length b.cubes ≤ length (cubes_of old)
    → (r ≡ length b.cubes) × Placed old new at (sort b.cubes)

-- ---- the network

-- the cubes of the one block that defines the name, where its variables are few and there is room
abbrev pub NamedIs : List ℕ → ℕ → Name → List ℕ → List ℕ → ℕ → ℕ → Type 0
NamedIs s first a old new at r = (m : ℕ) (bs : List Block) → m ≤ largest → BlocksOf (left s first) m bs → SmallBlocks bs → length (blocks_for a bs) ≡ 1
    → ((b : Block) → Memᴰ b bs → reach most_variables b.cubes ≡ true) → at + length (cubes_for a bs) ≤ length (cubes_of old)
    → (r ≡ length (cubes_for a bs)) × Placed old new at (cubes_for a bs)

-- the name of the node at a place: outputs first, then divisors
abbrev pub name_at : ℕ → ℕ → ℕ → Name
name_at n m i = cond (ltb i m) (output i) (variable (min (number_at n (i - m)) largest))

-- the limits that the arrays of a network need
pub record Buildable (n m k : ℕ) : Type 0 where
  pub inputs : n ≤ most_inputs
  pub outputs : m ≤ most_outputs
  pub variables : n + k ≤ most_variables

-- the network read off the blocks, where every name is defined once, no variable passes the last and the cubes are few
abbrev pub BuiltIs : List ℕ → ℕ → ℕ → ℕ → ℕ → Network → Type 0
BuiltIs s first n m k r = (bs : List Block) → BlocksOf (left s first) m bs → SmallBlocks bs → defined_once (model_by n m bs) ≡ true
    → divisors_in (model_by n m bs) ≡ k → ((b : Block) → Memᴰ b bs → reach (n + k) b.cubes ≡ true)
    → total (λ (b : Block). length b.cubes) bs ≤ most_cubes → ((v : ℕ) → n ≤ v → v < n + k → (b : Block) × Memᴰ b bs × (b.name ≡ variable v))
    → Holds r (net_in (model_by n m bs))
