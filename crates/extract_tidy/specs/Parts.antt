-- Words for the contracts of the private functions: nodes that a struct has room for, and nodes laid one after the other.
use Rattle.std.specs.Prelude.{ℕ, ◌≤◌, List, length}
use Rattle.sets.specs.Lists.{total}
use Rattle.network.specs.Handed.{node_slots, cube_slots, LaidNodes}
use Rattle.network.specs.Parts.{nodes_of}

-- there are e counts, and a struct has room for the nodes and their cubes
pub record Room (e : ℕ) (counts words : List ℕ) : Type 0 where
  pub counted : e ≤ length counts
  pub slots : e ≤ node_slots
  pub cubes : total length (nodes_of e counts words) ≤ cube_slots

-- the nodes stand one after the other, and after them nothing
abbrev pub Laid : List ℕ → List ℕ → List (List (List ℕ)) → Type 0
Laid words sizes fs = LaidNodes words sizes (total length fs) fs
