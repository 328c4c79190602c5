-- A setting as a word: input i is character i. Assumes nothing.
use Prim.Native.Nat.{ℕ}
use mathlib.Core.{Path.◌≡◌, Path.◌∙◌, List.List, List.map}
use lib.Dec.{eqb}
use lib.ListN.{get_or, get_or-map}
use Rattle.sets.{specs.Masks.bit, specs.Masks.packed, proofs.Packing.packed-bit}

-- input i is on exactly where character i is `1`
pub setting-bit : (w : List ℕ) (i : ℕ) → bit (packed (map (eqb 49) w)) i ≡ eqb 49 (get_or w i 0)
setting-bit w i = packed-bit (map (eqb 49) w) i ∙ get_or-map (eqb 49) w i 0
