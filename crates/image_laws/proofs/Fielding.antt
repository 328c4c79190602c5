-- The fields of a network: one after the other, and how many bits they take. Assumes nothing.
use Prim.Native.Nat.{ℕ, ◌+◌, ◌-◌, ◌*◌}
use mathlib.Core.Path.{◌≡◌, refl, sym, ap, ◌∙◌}
use mathlib.Core.Bool.{Bool}
use mathlib.Core.List.{List, [], ◌∷◌, ◌++◌, map, append_assoc}
use native.Mathlib.Omega.{arith}
use lib.ListN.{length, length-append}
use Rattle.sets.{specs.Lists.total, proofs.Lists.total-append, proofs.Lists.map-map}
use Rattle.image_fields.specs.Fields.{Field, bits_of, field_bits}
use Rattle.image_fields.proofs.Bits.{bits-length}
use Rattle.expression.specs.Expression.{literals_of}
use Rattle.network.specs.Net.{Node, Net, nodes, cube_count, literal_count}
use Rattle.network.specs.Handed.{flat}
use Rattle.image_laws.specs.Widths.{edition_field, edition1, head_size}
use Rattle.image_laws.specs.Image.{field, cube_fields, node_fields, head_fields, net_fields}

pub fields-append : (a b : List Field) → field_bits (a ++ b) ≡ field_bits a ++ field_bits b
unfolding field_bits
fields-append [] b = refl
fields-append (f ∷ a) b =
    ap (bits_of f.width f.value ++◌) (fields-append a b) ∙ sym (append_assoc (bits_of f.width f.value) (field_bits a) (field_bits b))

-- ---- the bits of each field

abbrev pub inputs_bits : ℕ → List Bool
inputs_bits n = bits_of edition1.inputs (n - 1)

abbrev pub outputs_bits : ℕ → List Bool
outputs_bits m = bits_of edition1.outputs (m - 1)

abbrev pub divisors_bits : ℕ → List Bool
divisors_bits k = bits_of edition1.divisors k

-- of a cube count, of a literal count, of a literal
abbrev pub cubes_bits : ℕ → List Bool
cubes_bits k = bits_of edition1.cubes k

abbrev pub literals_bits : ℕ → List Bool
literals_bits k = bits_of edition1.literals k

abbrev pub literal_bits : ℕ → List Bool
literal_bits l = bits_of edition1.literal l

abbrev pub literal_fields : List ℕ → List Field
literal_fields c = map (field edition1.literal) c

-- the head, and bits after it
abbrev pub headed : ℕ → ℕ → ℕ → List Bool → List Bool
headed n m k l = bits_of edition_field edition1.number ++ (inputs_bits n ++ (outputs_bits m ++ (divisors_bits k ++ l)))

pub head-fields : (n m k : ℕ) (l : List Bool) → field_bits (head_fields n m k) ++ l ≡ headed n m k l
unfolding head_fields field_bits
head-fields n m k l = simp append_assoc

-- ---- the fields of a network: the head, each divisor, each output

abbrev pub divisor_cubes : Net → List (List (List ℕ))
divisor_cubes n = map (λ (e : Node). e.cubes) n.divisors

abbrev pub head_bits : Net → List Bool
head_bits n = field_bits (head_fields n.inputs (length n.outputs) (length n.divisors))

-- the bits of nodes, one after the other
abbrev pub node_bits : List (List (List ℕ)) → List Bool
node_bits fs = field_bits (flat (map node_fields fs))

pub net-bits : (n : Net) → field_bits (net_fields n) ≡ head_bits n ++ (node_bits (divisor_cubes n) ++ node_bits n.outputs)
unfolding net_fields
net-bits n =
    fields-append (head_fields n.inputs (length n.outputs) (length n.divisors)) _
    ∙ ap (head_bits n ++◌) (fields-append (flat (map (λ (e : Node). node_fields e.cubes) n.divisors)) (flat (map node_fields n.outputs))
    ∙ ap (λ l. field_bits (flat l) ++ node_bits n.outputs) (sym (map-map node_fields (λ (e : Node). e.cubes) n.divisors)))

-- ---- how many bits

literal-bits-length : (c : List ℕ) → length (field_bits (literal_fields c)) ≡ edition1.literal * length c
unfolding field_bits
literal-bits-length [] = refl
literal-bits-length (l ∷ c) = simp length-append (omega (arith, bits-length edition1.literal l, literal-bits-length c))

pub cube-bits-length : (c : List ℕ) → length (field_bits (cube_fields c)) ≡ edition1.literals + edition1.literal * length c
unfolding field_bits cube_fields
cube-bits-length c = simp length-append (omega (arith, bits-length edition1.literals (length c), literal-bits-length c))

cubes-bits-length : (f : List (List ℕ)) → length (field_bits (flat (map cube_fields f))) ≡ edition1.literals * length f + edition1.literal * literals_of f
unfolding field_bits
cubes-bits-length [] = refl
cubes-bits-length (c ∷ f) = simp (fields-append, length-append) (omega (arith, cube-bits-length c, cubes-bits-length f))

-- the bits of nodes: so many nodes, cubes and literals
abbrev pub bits_for : ℕ → ℕ → ℕ → ℕ
bits_for nodes cubes literals = edition1.cubes * nodes + (edition1.literals * cubes + edition1.literal * literals)

pub node-bits-length : (f : List (List ℕ)) → length (field_bits (node_fields f)) ≡ bits_for 1 (length f) (literals_of f)
unfolding field_bits node_fields
node-bits-length f = simp length-append (omega (arith, bits-length edition1.cubes (length f), cubes-bits-length f))

pub nodes-bits-length : (fs : List (List (List ℕ))) → length (node_bits fs) ≡ bits_for (length fs) (total length fs) (total literals_of fs)
unfolding field_bits
nodes-bits-length [] = refl
nodes-bits-length (f ∷ fs) = simp (fields-append, length-append) (omega (arith, node-bits-length f, nodes-bits-length fs))

head-bits-length : (n m k : ℕ) → length (field_bits (head_fields n m k)) ≡ head_size
unfolding field_bits head_fields bits_of
head-bits-length n m k = refl

pub net-bits-length : (n : Net) → length (field_bits (net_fields n)) ≡ head_size + bits_for (length (nodes n)) (cube_count n) (literal_count n)
net-bits-length n =
    let ds = divisor_cubes n in
    rw (net-bits n) (simp (length-append, total-append) (omega (
      arith,
      head-bits-length n.inputs (length n.outputs) (length n.divisors),
      nodes-bits-length ds,
      nodes-bits-length n.outputs,
    )))
