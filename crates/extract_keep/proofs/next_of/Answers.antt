-- `extract_keep::next_of` meets its contract: equal cubes stay. Assumes nothing.
use Prim.Native.Nat.{ℕ, ◌<◌}
use mathlib.Core.Path.{◌≡◌, sym, ap₂, ◌∙◌}
use mathlib.Core.List.{List, []}
use native.Mathlib.Omega.{arith}
use lib.ListN.{length, get_or}
use Rattle.std.specs.Prelude.{Some}
use Rattle.cube.specs.Cube.{order_of}
use Rattle.std.specs.declared.cmp.Ordering.{Ordering}
use Rattle.std.specs.declared.cmp.Ordering.TheVariants.{Less, Equal, Greater}
use Rattle.cube.proofs.Verdict.{order-told}
use Rattle.extract_keep.specs.Parts.{Turn}
use Rattle.extract_keep.proofs.next_of.Goals as goal

-- what a comparison says
turned : (a b : List (List ℕ)) (i j : ℕ) (o : Ordering) → i < length a → j < length b → o ≡ order_of (get_or a i []) (get_or b j []) → Turn a i b j (Some o)
turned a b i j Less l m e = l
turned a b i j Equal l m e = (l, m, (order-told _ _).alike (sym e))
turned a b i j Greater l m e = m

pub returns-in-true-true-clause-turn : goal.returns-in-true-true-clause-turn
returns-in-true-true-clause-turn c =
    turned _ _ _ _ c.compare.result (omega (arith, c.in-true-true.is-0, c.number.ensures))
    (omega (arith, c.in-true-true.is-1, c.number-2.ensures)) (c.compare.ensures ∙ ap₂ order_of c.cube_at-c.ensures c.cube_at-d.ensures)
