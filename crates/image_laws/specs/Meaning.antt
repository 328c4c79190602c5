-- What the laws of images speak of.
use Rattle.std.specs.Prelude.{ℕ, ◌+◌, ◌/◌, ◌<◌, ◌≤◌, ◌≡◌, Bool, true, false, length}
use mathlib.Core.List.{List, ◌++◌, Memᴰ}
use Rattle.sets.specs.Sets.{proper}
use Rattle.image_fields.specs.Fields.{field_bits, bits_in}
use Rattle.expression.specs.Expression.{ordered}
use Rattle.network.specs.Net.{Node, Net, nodes}
use Rattle.network.specs.Held.{most_inputs, most_outputs, most_variables, most_cubes}
use Rattle.network.specs.Meaning.{Reads}
use Rattle.image_laws.specs.Image.{net_fields}
use Rattle.network.specs.Handed.{Return, gives, refuses}
use Rattle.image_laws.specs.Reading.{Raw, raw_nodes, raw_net, padding, summed, all_in_order}
use Rattle.image_laws.specs.Layout.{image_layout, Meets, Stray, Cut}

-- a network stands in the one order: cubes in cube order, and a divisor reads inputs and earlier divisors alone
pub record OneOrder (n : Net) : Type 0 where
  pub cubes : (f : List (List ℕ)) → Memᴰ f (nodes n) → ordered f ≡ true
  pub earlier : (e : Node) → Memᴰ e n.divisors → (v : ℕ) → Reads e.cubes v → v < e.number

-- ---- what fits its fields

pub record FitCube (v : ℕ) (c : List ℕ) : Type 0 where
  pub few : length c ≤ v
  pub known : (l : ℕ) → Memᴰ l c → l / 2 < v
  pub single : proper c ≡ true

pub record FitNode (v : ℕ) (f : List (List ℕ)) : Type 0 where
  pub few : length f ≤ most_cubes
  pub cubes : (c : List ℕ) → Memᴰ c f → FitCube v c

pub record FitRaw (r : Raw) : Type 0 where
  pub inputs : (1 ≤ r.inputs) × (r.inputs ≤ most_inputs)
  pub outputs : (1 ≤ length r.outputs) × (length r.outputs ≤ most_outputs)
  pub few : r.inputs + length r.divisors ≤ most_variables
  pub nodes : (f : List (List ℕ)) → Memᴰ f (raw_nodes r) → FitNode (r.inputs + length r.divisors) f

-- the bits of what is read as it stands
abbrev pub raw_bits : Raw → List Bool
raw_bits r = field_bits (net_fields (raw_net r))

-- the image holds the fields of r, all in range, and after them the bits of rest
pub record Fills (bytes : List ℕ) (r : Raw) (rest : List Bool) : Type 0 where
  pub bits : bits_in bytes ≡ raw_bits r ++ rest
  pub fits : FitRaw r

-- ---- what an image is answered, and when

pub data ImageAnswer (bytes : List ℕ) : Return → Type 0 where
  -- a field out of range met before the end; else an early end
  range : Meets Stray image_layout (bits_in bytes) → ImageAnswer bytes (refuses 12)
  early : Meets Cut image_layout (bits_in bytes) → ImageAnswer bytes (refuses 11)
  -- a byte over, or padding that is not zero
  over : {r : Raw} {rest : List Bool} → Fills bytes r rest → padding rest ≡ false → ImageAnswer bytes (refuses 11)
  -- the sums of the counts, then the one order
  sums : {r : Raw} {rest : List Bool} → Fills bytes r rest → padding rest ≡ true → summed r ≡ false → ImageAnswer bytes (refuses 12)
  order : {r : Raw} {rest : List Bool} → Fills bytes r rest → padding rest ≡ true → summed r ≡ true → all_in_order r ≡ false → ImageAnswer bytes (refuses 13)
  taken : {r : Raw} {rest : List Bool} → Fills bytes r rest → padding rest ≡ true → summed r ≡ true → all_in_order r ≡ true → ImageAnswer bytes (gives (raw_net r))
