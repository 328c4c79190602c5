-- The gains by key in all nodes of a network are those that the weights count. Assumes nothing.
use Prim.Native.Nat.{ℕ, ◌*◌, ◌<◌}
use mathlib.Core.{Path.◌≡◌, Logic.inl, Logic.inr, Bool.true}
use mathlib.Core.List.{List, ◌++◌}
use mathlib.Core.List.Memᴰ
use Rattle.sets.specs.{Lists.all, Lists.total, Sets.mem, Sets.asc}
use Rattle.sets.proofs.{Lists.◌∈◌, Lists.total-cong}
use Rattle.cube.specs.Cube.{width}
use Rattle.expression.specs.Expression.{ordered}
use Rattle.extract_laws.specs.{Divisor.Divisor, Extract.gather, Extract.pairs_in, Extract.sums_in, Extract.gain_in}
use Rattle.extract_laws.proofs.Offering.{gather-in}
use Rattle.extract_keys.{specs.Keys.Plain, specs.Keys.key_of, proofs.Keys.key_one}
use Rattle.extract_counts.specs.Counts.{node_gain, net_gain}
use Rattle.extract_counts.proofs.Gaining.{total-some, node-gain, node_made}

-- a node in cube order, of cubes that the masks can hold
pub record Neat (f : List (List ℕ)) : Type 0 where
  pub order : ordered f ≡ true
  pub ascends : all asc f ≡ true
  pub inside : (c : List ℕ) → c ∈ f → (l : ℕ) → mem l c ≡ true → l < 2 * width

module _ (fs : List (List (List ℕ))) (neat : (f : List (List ℕ)) → f ∈ fs → Neat f) where
  pub net-gain : (d : Divisor) → Plain d → net_gain (key_of d) fs ≡ total (gain_in d) fs
  unfolding net_gain
  net-gain d p = total-cong (node_gain (key_of d)) (gain_in d) fs (λ f m. let n = neat f m in
      node-gain (λ x y q r e. key_one q r e) f n.order n.ascends n.inside d p)

  -- a key that has a gain is that of a divisor of the network
  pub net-made : (k : ℕ) → 0 < net_gain k fs → (d : Divisor) × Plain d × (key_of d ≡ k) × (d ∈ (gather (gather pairs_in) fs ++ gather sums_in fs))
  unfolding net_gain
  net-made k h =
      let (f, m, p) = total-some (node_gain k) fs h in
      let n = neat f m in
      let (d, q, e, i) = node_made f n.ascends n.inside k p in (
        d,
        q,
        e,
        elim (Memᴰ.append_cases (gather pairs_in f) i) [
          | inl j ↦ Memᴰ.append_left (gather sums_in fs) (gather-in (gather pairs_in) m j)
          | inr j ↦ Memᴰ.append_right (gather (gather pairs_in) fs) (gather-in sums_in m j)
        ],
      )
