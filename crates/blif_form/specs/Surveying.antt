-- What one pass over a text finds: its blocks, in the form, and sums over them.
use Rattle.std.specs.Prelude.{ℕ, Option, Some, None, suc, ◌<◌, ◌≤◌, min, Bool, true, false, length}
use mathlib.Core.{Path.◌≡◌, Logic.◌⊎◌}
use mathlib.Core.List.{List, [], ◌∷◌, ◌++◌, map, Memᴰ}
use Rattle.sets.specs.{Lists.all, Lists.total, Lists.from, Sets.mem, Word.largest}
use Rattle.letters_products.specs.Spelled.{spelled}
use Rattle.network.specs.{Held.most_cubes, Handed.flat}
use Rattle.blif_laws.specs.Text.{Block, Model, ended, block_lines}
use Rattle.blif_laws.specs.Reading.{joined, pointed, named_in, standing, gapless}
use Rattle.blif_laws.specs.Meaning.{FormedBlock, InForm}
use Rattle.blif_scan.specs.Scanning.{left, Forth, label_of}
use Rattle.blif_lines.specs.Lining.{top_of, RowsOf, signed_in}
use Rattle.blif_form.specs.declared.{Found.Found, Blocks.Blocks, Survey.Survey}

-- `.names` and a space stand here; or they do not
abbrev pub BeginsAt : List ℕ → ℕ → Option ℕ → Type 0
BeginsAt s at (Some p) = (left s at ≡ spelled ".names " ++ left s p) × Forth s at p
BeginsAt s at None = (t : List ℕ) → left s at ≡ spelled ".names " ++ t → ⊥

-- whether every column of the rows has a `0` or `1`, whatever the rows are
abbrev pub UsedIs : List ℕ → ℕ → ℕ → Bool → Type 0
UsedIs s at r a = (ws : List (List ℕ)) (more : List ℕ) → RowsOf (left s at) r ws more → a ≡ all (λ i. mem i (signed_in ws)) (from 0 r)

-- the same of k columns from `base` on
abbrev pub UsedFrom : List ℕ → ℕ → ℕ → ℕ → ℕ → Bool → Type 0
UsedFrom s at r base k a = (ws : List (List ℕ)) (more : List ℕ) → RowsOf (left s at) r ws more → a ≡ all (λ i. mem i (signed_in ws)) (from base k)

-- ---- one block

-- a block in the form, and then what begins with a point
pub record BlockOf (t : List ℕ) (m : ℕ) (b : Block) (more : List ℕ) : Type 0 where
  pub formed : FormedBlock m b
  pub text : t ≡ ended (block_lines b) ++ more
  pub point : pointed more ≡ true

-- every variable that the block names is below the largest number of a machine word
abbrev pub SmallBlock : Block → Type 0
SmallBlock b = (v : ℕ) → Memᴰ v (named_in b) → v < largest

pub record BlockGot (s : List ℕ) (at m : ℕ) (r : Found) : Type 0 where
  pub block : Block
  pub is : BlockOf (spelled ".names " ++ left s at) m block (left s r.next)
  pub small : SmallBlock block
  pub name : label_of r.name ≡ block.name
  pub rows : r.rows ≡ length block.cubes
  pub top : r.top ≡ top_of (named_in block)
  pub forth : Forth s at r.next

-- no block whose outputs are of m, which a machine word holds, and whose variables are small
pub record BlockNot (s : List ℕ) (at m : ℕ) : Type 0 where
  pub none : (b : Block) (more : List ℕ) → SmallBlock b → BlockOf (spelled ".names " ++ left s at) m b more → ⊥

abbrev pub BlockIs : List ℕ → ℕ → ℕ → Option Found → Type 0
BlockIs s at m (Some r) = BlockGot s at m r
BlockIs s at m None = BlockNot s at m

-- ---- all blocks

-- blocks in the form, then `.end`, with or without its LF
pub record BlocksOf (t : List ℕ) (m : ℕ) (bs : List Block) : Type 0 where
  pub each : (b : Block) → Memᴰ b bs → FormedBlock m b
  pub text : (t ≡ ended (flat (map block_lines bs) ++ (spelled ".end" ∷ [])))
      ⊎ (t ++ (10 ∷ []) ≡ ended (flat (map block_lines bs) ++ (spelled ".end" ∷ [])))

-- whether `.end` is what is left
abbrev pub EndingIs : List ℕ → ℕ → Bool → Type 0
EndingIs s at true = (left s at ≡ ended (spelled ".end" ∷ [])) ⊎ (left s at ++ (10 ∷ []) ≡ ended (spelled ".end" ∷ []))
EndingIs s at false = (left s at ≡ ended (spelled ".end" ∷ [])) ⊎ (left s at ++ (10 ∷ []) ≡ ended (spelled ".end" ∷ [])) → ⊥

-- the variables that blocks name
abbrev pub named_by : List Block → List ℕ
named_by bs = flat (map named_in bs)

abbrev pub SmallBlocks : List Block → Type 0
SmallBlocks bs = (v : ℕ) → Memᴰ v (named_by bs) → v < largest

-- how many rows they have, as far as a network may have cubes and one more
abbrev pub rows_by : List Block → ℕ
rows_by bs = min (total (λ (b : Block). length b.cubes) bs) (suc most_cubes)

pub record BlocksGot (s : List ℕ) (at m : ℕ) (r : Blocks) : Type 0 where
  pub blocks : List Block
  pub are : BlocksOf (left s at) m blocks
  pub small : SmallBlocks blocks
  pub rows : r.rows ≡ rows_by blocks
  pub top : r.top ≡ top_of (named_by blocks)

pub record BlocksNot (s : List ℕ) (at m : ℕ) : Type 0 where
  pub none : (bs : List Block) → SmallBlocks bs → BlocksOf (left s at) m bs → ⊥

abbrev pub BlocksIs : List ℕ → ℕ → ℕ → Option Blocks → Type 0
BlocksIs s at m (Some r) = BlocksGot s at m r
BlocksIs s at m None = BlocksNot s at m

-- ---- the whole text

pub record SurveyGot (s : List ℕ) (r : Survey) : Type 0 where
  pub model : Model
  pub form : InForm (joined s) model
  pub inputs : r.inputs ≡ model.inputs
  pub outputs : r.outputs ≡ model.outputs
  pub blocks : BlocksOf (left s r.first) model.outputs model.blocks
  pub small : SmallBlocks model.blocks
  pub rows : r.rows ≡ rows_by model.blocks
  pub top : r.top ≡ top_of (standing model)
  pub fits : (r.inputs ≤ length s) × (r.outputs ≤ length s)

-- no text of the form without a gap
pub record SurveyNot (s : List ℕ) : Type 0 where
  pub none : (d : Model) → InForm (joined s) d → gapless d ≡ false

abbrev pub SurveyIs : List ℕ → Option Survey → Type 0
SurveyIs s (Some r) = SurveyGot s r
SurveyIs s None = SurveyNot s
