-- A network handed back: nodes laid one after the other, the slots past those in use zero; or a refusal.
use Rattle.std.specs.Prelude.{ℕ, ◌+◌, ◌*◌, ◌-◌, List, [], ◌∷◌, ◌++◌, map, length, replicate}
use mathlib.Core.{Path.◌≡◌, Bool.true, Bool.cond}
use Rattle.sets.specs.Lists.{total}
use Rattle.expression.specs.Words.{cube_words, cubes_of, spare_of}
use Rattle.expression.proofs.Words.{fit}
use Rattle.expression.specs.declared.Verdict.TheVariants.{Accepted, Refused}
use Rattle.network.specs.Net.{Net, nodes, cube_count}
use Rattle.network.specs.Held.{most_outputs, most_variables, most_cubes, rules}
use Rattle.network.specs.declared.{Network.Network, Handed.Handed}

module _ {A : Type 0} where
  -- the lists, one after the other
  abbrev pub flat : List (List A) → List A
  flat [] = []
  flat (x ∷ l) = x ++ flat l

-- ---- the arrays of the struct

-- the slots for nodes, for cubes, and for the words of cubes
abbrev pub node_slots : ℕ
node_slots = most_outputs + most_variables

abbrev pub cube_slots : ℕ
cube_slots = most_cubes

abbrev pub word_slots : ℕ
word_slots = cube_words * cube_slots

-- the arrays have their lengths
pub record Shaped (n : Network) : Type 0 where
  pub slots : length n.counts ≡ node_slots
  pub places : length (cubes_of n.words) ≡ cube_slots
  pub whole : spare_of n.words ≡ []

-- a value of the type: arrays of their lengths, and words of so many bits
pub record Typed (n : Network) : Type 0 where
  pub shape : Shaped n
  pub fits : fit n.words ≡ true

-- the nodes fs stand one after the other up to the place `to`, with their numbers of cubes; a slot after them is zero, which for a cube is the empty one
pub record LaidNodes (words sizes : List ℕ) (to : ℕ) (fs : List (List (List ℕ))) : Type 0 where
  pub place : to ≡ total length fs
  pub counts : sizes ≡ map length fs ++ replicate (node_slots - length fs) 0
  pub cubes : cubes_of words ≡ flat fs ++ replicate (cube_slots - to) []

-- the struct holds the network m
pub record Holds (n : Network) (m : Net) : Type 0 where
  pub inputs : n.inputs ≡ m.inputs
  pub outputs : n.outputs ≡ length m.outputs
  pub divisors : n.divisors ≡ length m.divisors
  pub laid : LaidNodes n.words n.counts (cube_count m) (nodes m)

-- every field is zero
pub record AllZero (n : Network) : Type 0 where
  pub inputs : n.inputs ≡ 0
  pub outputs : n.outputs ≡ 0
  pub divisors : n.divisors ≡ 0
  pub counts : n.counts ≡ replicate node_slots 0
  pub words : n.words ≡ replicate word_slots 0

-- ---- answers

-- a network, or the number of a refusal
pub data Return : Type 0 where
  gives : Net → Return
  refuses : ℕ → Return

-- the network held; or the number, with a network of zeros
abbrev pub Told : Return → Handed → Type 0
Told (gives m) r = (r.answer ≡ Accepted) × Holds r.network m
Told (refuses k) r = (r.answer ≡ Refused k) × AllZero r.network

-- what is given for a network handed in: 10 where it breaks a rule
abbrev pub by_rules : Network → Net → Return
by_rules n m = cond (rules n) (gives m) (refuses 10)

-- the struct itself, handed back
abbrev pub Carries : Network → Handed → Type 0
Carries n r = (r.answer ≡ Accepted) × (r.network ≡ n)
