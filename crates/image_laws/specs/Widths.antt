-- The widths of the fields of an image, a row for each edition, and the most bits that fields in range take.
use Rattle.std.specs.Prelude.{ℕ, ◌+◌, ◌-◌, ◌*◌}
use Rattle.network.specs.Held.{most_outputs, most_variables, most_cubes}

-- the field that holds the number of the edition stands first in every edition
abbrev pub edition_field : ℕ
edition_field = 4

-- an edition: its number, and how wide n-1, m-1, k, a cube count, a literal count and a literal are
pub record EditionRow : Type 0 where
  pub number : ℕ
  pub inputs : ℕ
  pub outputs : ℕ
  pub divisors : ℕ
  pub cubes : ℕ
  pub literals : ℕ
  pub literal : ℕ

abbrev pub edition1 : EditionRow
edition1 = record { number = 1; inputs = 5; outputs = 5; divisors = 6; cubes = 11; literals = 7; literal = 7 }

-- the edition, n-1, m-1 and k
abbrev pub head_size : ℕ
head_size = edition_field + edition1.inputs + edition1.outputs + edition1.divisors

-- ---- the most bits: a literal of each variable, as many cubes as a network may have in each node, a node for each output and for each variable but one

abbrev pub most_literal_bits : ℕ
most_literal_bits = edition1.literal * most_variables

abbrev pub most_cube_bits : ℕ
most_cube_bits = edition1.literals + most_literal_bits

abbrev pub most_cubes_bits : ℕ
most_cubes_bits = most_cubes * most_cube_bits

abbrev pub most_node_bits : ℕ
most_node_bits = edition1.cubes + most_cubes_bits

abbrev pub most_bits : ℕ
most_bits = head_size + (most_outputs + most_variables - 1) * most_node_bits
