-- Only one table of cells says which output hangs on which variable. Assumes nothing.
use Prim.Native.Nat.{ℕ, ◌+◌, ◌*◌, ◌/◌, ◌%◌, ◌<◌}
use mathlib.Core.Path.{◌≡◌, sym, ap, ◌∙◌}
use mathlib.Core.{Bool.Bool, Bool.false, List.List}
use native.Mathlib.Omega.{arith}
use lib.ListN.{length, get_or}
use lib.Seq.{ext_get_or}
use Rattle.sets.specs.Sets.{mem}
use Rattle.network.specs.{Held.most_outputs, Held.most_variables, declared.Network.Network}
use Rattle.network_map.specs.Cells.{row_of, Crossed}

module _ (n : Network) where
  cell : (l : List Bool) → Crossed n l → (i : ℕ) → i < most_outputs * most_variables
      → get_or l i false ≡ mem (i % most_variables) (row_of n (i / most_variables))
  cell l c i h =
      let e : i / most_variables * most_variables + i % most_variables ≡ i = omega arith in
      ap (λ (k : ℕ). get_or l k false) (sym e) ∙ c.each (i / most_variables) (i % most_variables) (omega arith) (omega arith)

  pub crossed-one : (a b : List Bool) → length a ≡ most_outputs * most_variables → length b ≡ most_outputs * most_variables → Crossed n a → Crossed n b → a ≡ b
  crossed-one a b p q x y = ext_get_or false a b (omega arith) (λ i h. cell a x i (omega arith) ∙ sym (cell b y i (omega arith)))
