-- The search for a cube among cubes in cube order.
use Rattle.std.specs.Prelude.{ℕ, zero, suc, ◌+◌, ◌-◌, ◌/◌, ltb, length, get_or}
use mathlib.Core.{Bool.cond, List.List, List.[]}
use Rattle.std.proofs.Math.Option.{Option, none, some}
use Rattle.sets.specs.Sets.{before}

-- where c is found among the cubes from low up to high by halving, of which k turns are made at most
unfoldable pub halve : ℕ → List ℕ → List (List ℕ) → ℕ → ℕ → Option ℕ
halve zero c f low high = none
halve (suc k) c f low high =
    cond (ltb low high)
    (let m = low + (high - low) / 2 in
    let d = get_or f m [] in
    cond (before d c) (halve k c f (m + 1) high) (cond (before c d) (halve k c f low m) (some m)))
    none

-- the place at which halving finds c
abbrev pub find_in : List ℕ → List (List ℕ) → Option ℕ
find_in c f = halve (length f) c f 0 (length f)
