-- A cube that comes to a node, or goes from it, changes the gains by its own pairs and by what it makes with each cube that is there. Assumes
-- nothing.
use Prim.Native.Nat.{ℕ, ◌+◌}
use mathlib.Core.Path.{◌≡◌, refl, sym, ◌∙◌}
use mathlib.Core.{Logic.inl, Logic.inr, Bool.true, Bool.and_comm}
use mathlib.Core.List.{List, [], ◌∷◌, ◌++◌}
use native.Mathlib.Omega.{arith}
use Rattle.sets.specs.{Lists.total, Lists.all, Sets.asc, Sets.mem, Sets.meet, Sets.without, Sets.before}
use Rattle.sets.proofs.{Truth.decided, Truth.both, Orders.asym, Orders.before-order, Lists.total-append}
use Rattle.sets.proofs.Sets.{ext, meet-asc, meet-mem}
use Rattle.extract_laws.specs.{Divisor.small, Extract.smaller_first, Extract.sum_of}
use Rattle.extract_counts.specs.Counts.{pairs_gain, two_gain, row_gain, sums_gain, node_gain}

-- ---- two cubes, either way about

smaller-flip : (a b : List ℕ) → smaller_first a b ≡ smaller_first b a
unfolding smaller_first
smaller-flip a b = elim (decided (before a b)) [
  | inl t ↦ rw (t, asym before before-order a b t)
  | inr t ↦ elim (decided (before b a)) [ inl u ↦ rw (t, u) | inr u ↦ rw (before-order.linear a b t u) ]
]

sum-flip : (c d : List ℕ) → sum_of c d ≡ sum_of d c
unfolding sum_of
sum-flip c d = elim (decided (small (without c d))) [
  | inl t ↦ elim (decided (small (without d c))) [ inl u ↦ rw (t, u, smaller-flip (without c d) (without d c)) | inr u ↦ rw (t, u) ]
  | inr t ↦ elim (decided (small (without d c))) [ inl u ↦ rw (t, u) | inr u ↦ rw (t, u) ]
]

module _ (k : ℕ) where
  two-flip : (c d : List ℕ) → asc c ≡ true → asc d ≡ true → two_gain k c d ≡ two_gain k d c
  unfolding two_gain
  two-flip c d h g =
      let m : meet c d ≡ meet d c =
      ext (meet c d) (meet d c) (meet-asc c d h) (meet-asc d c g) (λ z. meet-mem z c d ∙ and_comm (mem z c) (mem z d) ∙ sym (meet-mem z d c)) in
      rw (m, sum-flip c d)

  -- ---- a cube among others

  row-middle : (x c : List ℕ) (a b : List (List ℕ)) → row_gain k x (a ++ (c ∷ b)) ≡ row_gain k x (a ++ b) + two_gain k x c
  unfolding row_gain
  row-middle x c a b = omega (arith, total-append (two_gain k x) a (c ∷ b), total-append (two_gain k x) a b)

  pub node-middle : (c : List ℕ) (a b : List (List ℕ)) → asc c ≡ true → all asc a ≡ true
      → node_gain k (a ++ (c ∷ b)) ≡ node_gain k (a ++ b) + (pairs_gain k c + (row_gain k c a + row_gain k c b))
  unfolding node_gain row_gain
  node-middle c [] b h g = omega arith
  node-middle c (x ∷ a) b h g =
      let (i, j) = both (asc x) (all asc a) g in
      omega (arith, row-middle x c a b, node-middle c a b h j, two-flip x c i h)

  -- a node: its cubes one by one, and every two of them
  pub node-parts : (f : List (List ℕ)) → node_gain k f ≡ total (pairs_gain k) f + sums_gain k f
  unfolding node_gain sums_gain
  node-parts [] = refl
  node-parts (c ∷ f) = omega (arith, node-parts f)
