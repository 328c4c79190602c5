-- Which numbers the blocks of a text name and define, whatever the blocks are.
use Rattle.std.specs.Prelude.{ℕ, Option, Some, None, ◌+◌, ◌≤◌, ◌≡◌, Bool, true, false, cond, ◌&&◌, List, [], ◌∷◌, map, eqb, ltb, length}
use Rattle.sets.specs.{Lists.all, Lists.from, Sets.mem, Word.largest}
use Rattle.network.specs.Handed.{flat}
use Rattle.blif_laws.specs.Text.{Name, variable, output, Block, Model}
use Rattle.blif_laws.specs.Reading.{named_in, standing, times_defined}
use Rattle.blif_scan.specs.Scanning.{left, Forth, label_of}
use Rattle.blif_lines.specs.Marking.{times, Raised}
use Rattle.blif_form.specs.Surveying.{BlocksOf, SmallBlocks, named_by}
use Rattle.blif_scan.specs.declared.Label.{Label}
use Rattle.blif_read.specs.declared.defining.Passed.{Passed}

-- ---- one block

-- the block here, the first of those that are left, whatever they are
pub record PassedOne (s : List ℕ) (base : ℕ) (old new : List ℕ) (r : Passed) (m : ℕ) (b : Block) (bs : List Block) : Type 0 where
  pub name : label_of r.name ≡ b.name
  pub marks : Raised base (named_in b) old new
  pub rest : BlocksOf (left s r.next) m bs

abbrev pub FirstIs : List ℕ → ℕ → List ℕ → List ℕ → Passed → ℕ → List Block → Type 0
FirstIs s base old new r m [] = ⊥
FirstIs s base old new r m (b ∷ bs) = PassedOne s base old new r m b bs

pub record PassedGot (s : List ℕ) (at base : ℕ) (old new : List ℕ) (r : Passed) : Type 0 where
  pub forth : Forth s at r.next
  pub size : length new ≡ length old
  pub first : (m : ℕ) (bs : List Block) → m ≤ largest → BlocksOf (left s at) m bs → SmallBlocks bs → FirstIs s base old new r m bs

-- no block is left, and nothing is marked
pub record PassedNot (s : List ℕ) (at : ℕ) (old new : List ℕ) : Type 0 where
  pub size : length new ≡ length old
  pub none : (m : ℕ) (bs : List Block) → m ≤ largest → BlocksOf (left s at) m bs → SmallBlocks bs → (bs ≡ []) × (new ≡ old)

abbrev pub PassedIs : List ℕ → ℕ → ℕ → List ℕ → List ℕ → Option Passed → Type 0
PassedIs s at base old new (Some r) = PassedGot s at base old new r
PassedIs s at base old new None = PassedNot s at old new

-- ---- all blocks

-- the number of a name, if it is an output or not
abbrev pub number_if : Bool → Name → List ℕ
number_if false (variable v) = v ∷ []
number_if false (output j) = []
number_if true (variable v) = []
number_if true (output j) = j ∷ []

-- the numbers of the variables, or of the outputs, that blocks define
abbrev pub defined_by : Bool → List Block → List ℕ
defined_by o bs = flat (map (λ (b : Block). number_if o b.name) bs)

abbrev pub StandIs : List ℕ → ℕ → ℕ → List ℕ → List ℕ → Type 0
StandIs s first base old new = (m : ℕ) (bs : List Block) → m ≤ largest → BlocksOf (left s first) m bs → SmallBlocks bs
    → Raised base (named_by bs) old new

abbrev pub NumberIs : Label → Bool → ℕ → List ℕ → List ℕ → Type 0
NumberIs a o base old new = Raised base (number_if o (label_of a)) old new

abbrev pub DefinedIs : List ℕ → ℕ → Bool → ℕ → List ℕ → List ℕ → Type 0
DefinedIs s first o base old new = (m : ℕ) (bs : List Block) → m ≤ largest → BlocksOf (left s first) m bs → SmallBlocks bs
    → Raised base (defined_by o bs) old new

-- ---- windows of numbers

-- every one of k numbers from base on stands in the blocks
abbrev pub WindowStands : List ℕ → ℕ → ℕ → ℕ → Bool → Type 0
WindowStands s first base k r = (m : ℕ) (bs : List Block) → m ≤ largest → BlocksOf (left s first) m bs → SmallBlocks bs
    → r ≡ all (λ v. mem v (named_by bs)) (from base k)

-- how often a number is defined: as one of n inputs, and by blocks
abbrev pub times_in : Bool → ℕ → List Block → ℕ → ℕ
times_in o n bs v = cond (ltb v n) 1 0 + times v (defined_by o bs)

-- every one of k numbers from base on is defined once
abbrev pub WindowOnce : List ℕ → ℕ → Bool → ℕ → ℕ → ℕ → Bool → Type 0
WindowOnce s first o n base k r = (m : ℕ) (bs : List Block) → m ≤ largest → BlocksOf (left s first) m bs → SmallBlocks bs
    → r ≡ all (λ v. eqb (times_in o n bs v) 1) (from base k)

abbrev pub AllOnce : List ℕ → ℕ → Bool → ℕ → ℕ → Bool → Type 0
AllOnce s first o n top r = WindowOnce s first o n 0 top r

-- ---- the whole

-- the model of n inputs, m outputs and the blocks
abbrev pub model_by : ℕ → ℕ → List Block → Model
model_by n m bs = record { inputs = n; outputs = m; blocks = bs }

abbrev pub GaplessIs : List ℕ → ℕ → ℕ → ℕ → Bool → Type 0
GaplessIs s first n top r = (m : ℕ) (bs : List Block) → m ≤ largest → BlocksOf (left s first) m bs → SmallBlocks bs
    → r ≡ all (λ v. mem v (standing (model_by n m bs))) (from 0 top)

abbrev pub OnceIs : List ℕ → ℕ → ℕ → ℕ → ℕ → Bool → Type 0
OnceIs s first n m top r = (bs : List Block) → BlocksOf (left s first) m bs → SmallBlocks bs
    → r ≡ (all (λ v. eqb (times_defined (model_by n m bs) (variable v)) 1) (from 0 top)
    && all (λ j. eqb (times_defined (model_by n m bs) (output j)) 1) (from 0 m))
