-- What bits come next: of a field, of the literals of a cube, of the cubes of a node, of nodes. Assumes nothing.
use Prim.Native.Nat.{ℕ, suc, ◌+◌, ◌-◌, ◌<◌, ◌≤◌}
use mathlib.Core.Path.{◌≡◌, sym, ap, ◌∙◌}
use mathlib.Core.Bool.{Bool}
use mathlib.Core.List.{List, [], ◌∷◌, ◌++◌, map, append-nil}
use native.Mathlib.Omega.{arith}
use lib.Seq.{get_or-take}
use Rattle.std.proofs.lemmas.List.{get_or_default}
use lib.ListN.{length, get_or, take, drop, length-take, length-drop, drop_of_length-le}
use Rattle.sets.{specs.Masks.bit, proofs.Places.drop-next}
use Rattle.expression.specs.Words.{cubes_of}
use Rattle.image_fields.specs.Fields.{bits_of, field_bits}
use Rattle.network_nodes.{specs.Nodes.cut, proofs.Cutting.cut-node}
use Rattle.network.specs.{Handed.flat, declared.Network.Network}
use Rattle.image_laws.specs.Widths.{edition_field, edition1}
use Rattle.image_laws.specs.Image.{cube_fields, node_fields, head_fields}
use Rattle.image_laws.proofs.Fielding.{inputs_bits, outputs_bits, divisors_bits, literal_bits, literals_bits, cubes_bits, literal_fields, fields-append}
use Rattle.image_write.specs.Parts.{bits_from}

-- ---- a field

pub field_next : (i v : ℕ) (b : Bool) → 0 < i → b ≡ bit v (i - 1) → bits_of i v ≡ (b ∷ []) ++ bits_of (i - 1) v
unfolding bits_of
field_next i v b h e = let s : i ≡ suc (i - 1) = omega arith in ap (λ k. bits_of k v) s ∙ ap (◌∷ bits_of (i - 1) v) (sym e)

pub field-none : (i v : ℕ) → i ≡ 0 → bits_of i v ≡ []
unfolding bits_of
field-none i v e = rw e

-- ---- the head

pub head-bits : (n m k : ℕ) → field_bits (head_fields n m k) ≡ bits_of edition_field edition1.number ++ (inputs_bits n ++ (outputs_bits m ++ divisors_bits k))
unfolding head_fields field_bits
head-bits n m k = simp append-nil

-- ---- a cube

-- the bits of the literals' fields
abbrev pub spread : List ℕ → List Bool
spread c = field_bits (literal_fields c)

pub cube-bits : (c : List ℕ) (n : ℕ) → n ≡ length c → field_bits (cube_fields c) ≡ literals_bits n ++ spread c
unfolding field_bits cube_fields
cube-bits c n e = ap (λ k. literals_bits k ++ spread c) (sym e)

pub literals-next : (c d : List ℕ) (x : ℕ) → c ≡ x ∷ d → spread c ≡ literal_bits x ++ spread d
unfolding field_bits
literals-next c d x e = ap spread e

pub literals-none : (c : List ℕ) → c ≡ [] → spread c ≡ []
unfolding field_bits
literals-none c e = ap spread e

-- ---- a node

-- the bits of the cubes' fields
abbrev pub spread_cubes : List (List ℕ) → List Bool
spread_cubes f = field_bits (flat (map cube_fields f))

pub node-bits : (f : List (List ℕ)) (n : ℕ) → n ≡ length f → field_bits (node_fields f) ≡ cubes_bits n ++ spread_cubes f
unfolding field_bits node_fields
node-bits f n e = ap (λ k. cubes_bits k ++ spread_cubes f) (sym e)

pub cubes-next : (f g : List (List ℕ)) (c : List ℕ) → f ≡ c ∷ g → spread_cubes f ≡ field_bits (cube_fields c) ++ spread_cubes g
cubes-next f g c e = ap spread_cubes e ∙ fields-append (cube_fields c) (flat (map cube_fields g))

pub cubes-none : (f : List (List ℕ)) → f ≡ [] → spread_cubes f ≡ []
unfolding field_bits
cubes-none f e = ap spread_cubes e

-- ---- nodes

-- the bits of the nodes' fields
abbrev pub spread_nodes : List (List (List ℕ)) → List Bool
spread_nodes fs = field_bits (flat (map node_fields fs))

-- from node k on
pub nodes-next : (fs : List (List (List ℕ))) (k : ℕ) (f : List (List ℕ)) → k < length fs → f ≡ get_or fs k f
    → spread_nodes (drop k fs) ≡ field_bits (node_fields f) ++ spread_nodes (drop (k + 1) fs)
nodes-next fs k f h e =
    ap spread_nodes (drop-next fs k f h ∙ ap (◌∷ drop (k + 1) fs) (sym e)) ∙ fields-append (node_fields f) (flat (map node_fields (drop (k + 1) fs)))

pub nodes-none : (fs : List (List (List ℕ))) (k : ℕ) → length fs ≤ k → spread_nodes (drop k fs) ≡ []
unfolding field_bits
nodes-none fs k h = ap spread_nodes (drop_of_length-le fs h)

-- all that a network holds
abbrev pub all_nodes : Network → List (List (List ℕ))
all_nodes n = take (n.outputs + n.divisors) (cut n.counts (cubes_of n.words))

pub all-bits : (n : Network) → bits_from 0 (n.outputs + n.divisors) n.words n.counts ≡ spread_nodes (all_nodes n)
all-bits n =
    let z : n.outputs + n.divisors - 0 ≡ n.outputs + n.divisors = omega arith in
    ap (λ e. spread_nodes (take e (cut n.counts (cubes_of n.words)))) z

-- each has no more cubes than there are
pub node-few : (n : Network) (k : ℕ) (f : List (List ℕ)) → k < length (all_nodes n) → f ≡ get_or (all_nodes n) k f → length f ≤ length (cubes_of n.words)
node-few n k f h e =
    let all = cut n.counts (cubes_of n.words) in
    let g = e ∙ get_or_default (all_nodes n) k f [] h ∙ get_or-take (n.outputs + n.divisors) all k [] (omega (arith, length-take (n.outputs + n.divisors) all)) in
    rw (g, cut-node n.counts (cubes_of n.words) k, length-take, length-drop) (omega arith)
