-- The nodes of a network in cube order are neat. Assumes nothing.
use Prim.Native.Nat.{ℕ, ◌+◌, ◌*◌, ◌≤◌}
use mathlib.Core.Path.{◌≡◌, sym, ap, ◌∙◌}
use mathlib.Core.{Bool.Bool, Bool.true, List.List}
use native.Mathlib.Omega.{arith}
use lib.Dec.{ltb}
use lib.ListN.{take, length}
use borrow.Author.Tests.{lt-ltb, ltb-true}
use Rattle.sets.specs.{Lists.all, Lists.total, Sets.asc}
use Rattle.sets.proofs.{Lists.◌∈◌, Lists.all_in, Lists.all-out, Sets.of_mem, Sets.all-mem}
use Rattle.cube.specs.Cube.{width}
use Rattle.expression.{specs.Words.cubes_of, specs.Expression.ordered, proofs.Words.cubes-take, proofs.Words.cubes-asc, proofs.Words.cubes-inside}
use Rattle.network.specs.{Net.nodes, Held.net_of, Held.used, Handed.node_slots, Handed.Shaped, declared.Network.Network}
use Rattle.network.proofs.Holding.{nodes-held, cut_all}
use Rattle.extract_tidy.{specs.Tidy.arranged, proofs.Arranged.arranged-parts, proofs.Arranged.arranged-sized}
use Rattle.extract_counts.proofs.Netting.{Neat}

pub arranged-few : (n : Network) → arranged n ≡ true → Shaped n → n.outputs + n.divisors ≤ node_slots
arranged-few n h shape = let s = arranged-sized n h shape in omega (arith, s.narrow, s.variables)

-- there is a count for each node
pub arranged-counted : (n : Network) → arranged n ≡ true → Shaped n → n.outputs + n.divisors ≤ length n.counts
arranged-counted n h shape = omega (arith, arranged-few n h shape, shape.slots)

module _ (n : Network) where
  -- what holds of all cubes that words can hold holds of the network's
  held : (p : List ℕ → Bool) → ((ws : List ℕ) → all p (cubes_of ws) ≡ true) → all (all p) (nodes (net_of n)) ≡ true
  held p k =
      let m = total (λ c. c) (used n) in
      ap (all (all p)) (nodes-held n) ∙ cut_all p (used n) (cubes_of n.words) ∙ ap (all p) (sym (cubes-take n.words m))
      ∙ k (take (2 * m) n.words)

  pub arranged-neat : arranged n ≡ true → (f : List (List ℕ)) → f ∈ nodes (net_of n) → Neat f
  arranged-neat h f m = record {
    order = all-out ordered m (arranged-parts n h).1;
    ascends = all-out (all asc) m (held asc cubes-asc);
    inside = λ c i l j. ltb-true l (2 * width) (all-out within (of_mem l c j) (all-out (all within) i (all-out (all (all within)) m
        (held (all within) within-cubes))));
  }
    where
      within : ℕ → Bool
      within l = ltb l (2 * width)

      within-cubes : (ws : List ℕ) → all (all within) (cubes_of ws) ≡ true
      within-cubes ws =
          all_in (all within) (cubes_of ws) (λ c k. all-mem within c (λ l m. lt-ltb l (2 * width) (cubes-inside ws k l m)))
