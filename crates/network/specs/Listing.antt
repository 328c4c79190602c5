-- The listing of the divisors: again and again the smallest number whose own divisors are all listed.
use Rattle.std.specs.Prelude.{ℕ, zero, suc, ◌/◌, Bool, cond, not, ◌&&◌, ◌||◌, List, [], ◌∷◌, ◌++◌, ltb, length}
use Rattle.std.proofs.Math.Option.{Option, none, some}
use Rattle.sets.specs.{Lists.all, Sets.mem}
use Rattle.network.specs.Net.{Node, Net}

-- every variable that an expression reads is one of n inputs or listed
unfoldable pub ready : ℕ → List ℕ → List (List ℕ) → Bool
ready n listed f = all (all (λ l. ltb (l / 2) n || mem (l / 2) listed)) f

-- the first divisor, and so the smallest number, that is not listed and is ready
unfoldable pub next_ready : ℕ → List ℕ → List Node → Option ℕ
next_ready n listed [] = none
next_ready n listed (e ∷ l) = cond (not (mem e.number listed) && ready n listed e.cubes) (some e.number) (next_ready n listed l)

-- so many numbers more, as long as there is one
unfoldable pub list_more : ℕ → Net → List ℕ → List ℕ
list_more zero n listed = listed
list_more (suc k) n listed = elim (next_ready n.inputs listed n.divisors) [ none ↦ listed | some v ↦ list_more k n (listed ++ (v ∷ [])) ]

unfoldable pub listing : Net → List ℕ
listing n = list_more (length n.divisors) n []
