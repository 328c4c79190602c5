-- A network under a setting of its inputs.
use Rattle.std.specs.Prelude.{ℕ, Bool, cond, List, [], ◌∷◌, map, eqb}
use Rattle.sets.specs.Masks.{bit, packed}
use Rattle.expression.specs.Value.{lit, value}
use Rattle.network.specs.{Net.Net, Net.cubes_at, Listing.listing}

-- the assignment a with the value b for the variable v
abbrev pub assign : (ℕ → Bool) → ℕ → Bool → ℕ → Bool
assign a v b u = cond (eqb u v) b (a u)

-- the listed divisors take their values, one after the other
unfoldable pub settle : Net → List ℕ → (ℕ → Bool) → ℕ → Bool
settle n [] a = a
settle n (v ∷ l) a = settle n l (assign a v (value (lit a) (cubes_at v n.divisors)))

-- the outputs under an assignment
abbrev pub answers : Net → (ℕ → Bool) → List Bool
answers n a = map (value (lit a)) n.outputs

-- input i is bit i of the setting, output j bit j of the answer
unfoldable pub evaluate : Net → ℕ → ℕ
evaluate n s = packed (answers n (settle n (listing n) (bit s)))
