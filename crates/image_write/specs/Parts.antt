-- Words for the contracts of the private functions: bits written so far, room for more, bits laid after them.
use Rattle.std.specs.Prelude.{ℕ, ◌+◌, ◌-◌, ◌*◌, ◌^◌, ◌<◌, ◌≤◌, List, ◌++◌, map, length, take, drop}
use mathlib.Core.{Path.◌≡◌, Bool.Bool}
use Rattle.image_fields.specs.Fields.{bytes_for, bytes_of, field_bits}
use Rattle.cube.specs.Cube.{width}
use Rattle.expression.specs.Words.{cubes_of}
use Rattle.network_nodes.specs.Nodes.{cut}
use Rattle.network.specs.{Held.most_cubes, Handed.flat, Handed.node_slots, declared.Network.Network}
use Rattle.image_laws.specs.{Widths.edition1, Image.node_fields, Image.head_fields}

-- the widest field of an image: a cube count
abbrev pub widest : ℕ
widest = edition1.cubes

-- the bytes of the bits at the front of the old bytes
abbrev pub overlaid : List Bool → List ℕ → List ℕ
overlaid l old = bytes_of l ++ drop (bytes_for (length l)) old

-- the bytes hold so many bits and then old bytes, and have room for w bits more
pub record RoomFor (o : List ℕ) (at w : ℕ) : Type 0 where
  pub bits : List Bool
  pub old : List ℕ
  pub number : length bits ≡ at
  pub bytes : o ≡ overlaid bits old
  pub room : at + w ≤ 8 * length o
  pub short : at + w < 2 ^ 32

-- the bits bs stand from bit `at` on after whatever was written, up to bit r
pub record LaidBits (o o' : List ℕ) (at r : ℕ) (bs : List Bool) : Type 0 where
  pub place : r ≡ at + length bs
  pub adds : (l : List Bool) (old : List ℕ) → length l ≡ at → o ≡ overlaid l old → o' ≡ overlaid (l ++ bs) old

-- the nodes from a up to e, and their bits
abbrev pub nodes_from : ℕ → ℕ → List ℕ → List ℕ → List (List (List ℕ))
nodes_from a e words counts = take (e - a) (drop a (cut counts (cubes_of words)))

abbrev pub bits_from : ℕ → ℕ → List ℕ → List ℕ → List Bool
bits_from a e words counts = field_bits (flat (map node_fields (nodes_from a e words counts)))

-- the head, then each divisor, then each output
abbrev pub all_bits : Network → List Bool
all_bits n =
    field_bits (head_fields n.inputs n.outputs n.divisors)
    ++ (bits_from n.outputs (n.outputs + n.divisors) n.words n.counts ++ bits_from 0 n.outputs n.words n.counts)

-- the most bits of a node as it is held: each variable both ways in every cube
abbrev pub most_held_bits : ℕ
most_held_bits = edition1.cubes + most_cubes * (edition1.literals + edition1.literal * (2 * width))

-- there are so many nodes, of no more cubes than a network may have
pub record Held (words counts : List ℕ) (e : ℕ) : Type 0 where
  pub counted : e ≤ length counts
  pub nodes : e ≤ node_slots
  pub few : length (cubes_of words) ≤ most_cubes

-- a network of inputs and outputs, and room for its bits
pub record Writable (n : Network) (o : List ℕ) : Type 0 where
  pub inputs : 1 ≤ n.inputs
  pub outputs : 1 ≤ n.outputs
  pub there : Held n.words n.counts (n.outputs + n.divisors)
  pub ready : RoomFor o 0 (length (all_bits n))
