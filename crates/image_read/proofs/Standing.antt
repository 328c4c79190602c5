-- What stands in the words and counts once all nodes are read. Assumes nothing.
use Prim.Native.Nat.{ℕ, ◌≤◌}
use mathlib.Core.Path.{◌≡◌, refl, ap₂, ◌∙◌, subst}
use mathlib.Core.Bool.{true}
use mathlib.Core.List.{List, [], ◌∷◌, map}
use native.Mathlib.Omega.{arith}
use lib.ListN.{length}
use Rattle.sets.{specs.Lists.all, specs.Lists.total, specs.Sets.asc, proofs.Lists.total-append, proofs.Truth.both}
use Rattle.expression.specs.Words.{cubes_of, Placed, Front}
use Rattle.expression.specs.Expression.{literals_of}
use Rattle.expression.proofs.Placing.{placed-as, front-none, front-places, front-then}
use Rattle.network.{specs.Handed.flat, specs.Held.most_cubes, proofs.Handing.cut-flat}
use Rattle.network_nodes.specs.Nodes.{cut}
use Rattle.image_read.specs.Parts.{set_of, Gathered, blank_words}
use Rattle.image_read.specs.declared.nodes.State.{State}
use Rattle.image_read.proofs.Gathering.{set-asc}

-- literals that ascend stand as they were read
sets-asc : (f : List (List ℕ)) → all asc f ≡ true → map set_of f ≡ f
sets-asc [] h = refl
sets-asc (c ∷ f) h = let q = both (asc c) (all asc f) h in ap₂ ◌∷◌ (set-asc c q.0) (sets-asc f q.1)

-- the cubes that were put, and empty ones after them
pub cubes-stand : {s t : State} {new : List ℕ} (f : List (List ℕ)) → Gathered s t blank_words new f → s.cubes ≡ 0 → all asc f ≡ true → length f ≤ most_cubes
    → Front new most_cubes f
cubes-stand {s} {t} {new} f h z a few =
    let n = front-places (front-none most_cubes) in
    front-then (front-none most_cubes) (omega arith)
    (placed-as (sets-asc f a) (subst (λ i. Placed blank_words new i (map set_of f)) z (h.stored (omega (arith, z, n)))))

-- the nodes are cut out of the cubes again
pub nodes-stand : (fs : List (List (List ℕ))) {words counts : List ℕ} {n : ℕ} → Front words n (flat fs) → counts ≡ map length fs
    → cut counts (cubes_of words) ≡ fs
nodes-stand fs w c = ap₂ cut c w.cubes ∙ cut-flat fs _

pub total-flat : (fs : List (List (List ℕ))) → total length (flat fs) ≡ total literals_of fs
total-flat [] = refl
total-flat (f ∷ fs) = omega (arith, total-append length f (flat fs), total-flat fs)
