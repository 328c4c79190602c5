-- The image of a network: its fields, and the bytes.
use Rattle.std.specs.Prelude.{ℕ, ◌-◌, List, [], ◌∷◌, ◌++◌, map, length}
use Rattle.image_fields.specs.Fields.{Field, field_bits, bytes_of}
use Rattle.network.specs.{Net.Node, Net.Net, Handed.flat}
use Rattle.image_laws.specs.{Widths.edition_field, Widths.edition1, Renumber.renumbered}

abbrev pub field : ℕ → ℕ → Field
field w v = record { width = w; value = v }

-- a literal count, and the literals
unfoldable pub cube_fields : List ℕ → List Field
cube_fields c = field edition1.literals (length c) ∷ map (field edition1.literal) c

-- a cube count, and each cube
unfoldable pub node_fields : List (List ℕ) → List Field
node_fields f = field edition1.cubes (length f) ∷ flat (map cube_fields f)

-- the edition, n-1, m-1 and k
unfoldable pub head_fields : ℕ → ℕ → ℕ → List Field
head_fields n m k =
    field edition_field edition1.number ∷ field edition1.inputs (n - 1) ∷ field edition1.outputs (m - 1) ∷ field edition1.divisors k ∷ []

-- then each divisor, then each output
unfoldable pub net_fields : Net → List Field
net_fields n = head_fields n.inputs (length n.outputs) (length n.divisors)
    ++ (flat (map (λ (e : Node). node_fields e.cubes) n.divisors) ++ flat (map node_fields n.outputs))

-- the bytes of a network, as its divisors and cubes stand
unfoldable pub net_bytes : Net → List ℕ
net_bytes n = bytes_of (field_bits (net_fields n))

-- the image: divisors renumbered in the order of the listing
unfoldable pub image_of : Net → List ℕ
image_of n = net_bytes (renumbered n)
