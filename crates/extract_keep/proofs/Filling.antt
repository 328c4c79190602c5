-- A table that is filled anew has room for every divisor of a network by the rules. Assumes nothing.
use Prim.Native.Nat.{ℕ, ◌+◌, ◌*◌, ◌<◌, ◌≤◌}
use mathlib.Core.Path.{◌≡◌, refl, sym, ap, subst}
use mathlib.Core.{Logic.inl, Logic.inr, Bool.true}
use mathlib.Core.List.Memᴰ
use mathlib.Core.List.{List, [], ◌∷◌, ◌++◌, map}
use native.Mathlib.Omega.{arith}
use native.Mathlib.Nat.{mul-le-mul_right, mul-add, add-mul}
use lib.ListN.{length, length-append, length-map}
use Rattle.sets.specs.Lists.{total, from}
use Rattle.sets.proofs.{Lists.◌∈◌, Lists.map-in, Truth.decided}
use Rattle.cube.specs.Cube.{width}
use Rattle.extract_laws.specs.{Divisor.Divisor, Divisor.pair, Divisor.small, Extract.gather, Extract.pairs_in, Extract.sum_of, Extract.sums_in}
use Rattle.sets.proofs.{Truth.compared, Truth.Stand.below, Truth.Stand.equal, Truth.Stand.beyond}
use Rattle.network.specs.{Net.nodes, Held.net_of, Held.rules, Held.most_cubes, Handed.Shaped, Parts.nodes_of, declared.Network.Network}
use Rattle.network.proofs.Holding.{nodes-held}
use Rattle.extract_laws.proofs.{Weighing.saved-within, Following.rules-good, Following.rules-within}
use Rattle.extract_tidy.specs.Tidy.{arranged}
use Rattle.extract_gains.{specs.Gains.entries, specs.Gains.many, specs.Gains.most_gain, specs.Gains.Sound, specs.Gains.Turns, specs.Gains.none}
use Rattle.extract_gains.{proofs.Table.gain-empty}
use Rattle.extract_keep.specs.Keep.{Knows}
use Rattle.extract_keys.specs.Keys.{key_of}
use Rattle.extract_counts.{specs.Counts.net_gain, specs.Counts.Says, proofs.Arranged.arranged-neat}
use Rattle.extract_counts.proofs.Netting.{Neat, net-gain, net-made}
use Rattle.sets.{specs.Sets.without, specs.Sets.asc, proofs.Lists.all-out, proofs.Sets.of_mem, proofs.Sets.mem-of, proofs.Sets.from_in, proofs.Sets.from-asc}
use Rattle.extract_laws.proofs.Offering.{gather-out, pairs-out, pairs_made}

-- ---- how many there are

square : (x y : ℕ) → x * x + y * y ≤ (x + y) * (x + y)
square x y = omega (arith, add-mul x y (x + y), mul-add x x y, mul-add y x y)

square-next : (x : ℕ) → (1 + x) * (1 + x) ≡ 1 + (2 * x + x * x)
square-next x = omega (arith, add-mul 1 x (1 + x), mul-add x 1 x)

-- every two of a list: half of its square, less half of itself
pairs-many : (c : List ℕ) → 2 * length (pairs_in c) + length c ≡ length c * length c
unfolding pairs_in
pairs-many [] = refl
pairs-many (p ∷ c) =
    let g : ℕ → Divisor = pair p in
    omega (arith, length-append (map g c) (pairs_in c), length-map c g, pairs-many c, square-next (length c))

sum-few : (c d : List ℕ) → length (sum_of c d) ≤ 1
unfolding sum_of
sum-few c d = elim (decided (small (without c d))) [
  | inl t ↦ elim (decided (small (without d c))) [ inl u ↦ rw (t, u) (omega arith) | inr u ↦ rw (t, u) (omega arith) ]
  | inr t ↦ rw t (omega arith)
]

row-few : (c : List ℕ) (f : List (List ℕ)) → length (gather (sum_of c) f) ≤ length f
row-few c [] = omega arith
row-few c (d ∷ f) = omega (arith, length-append (sum_of c d) (gather (sum_of c) f), sum-few c d, row-few c f)

node-few : (f : List (List ℕ)) → 2 * length (sums_in f) + length f ≤ length f * length f
unfolding sums_in
node-few [] = omega arith
node-few (c ∷ f) = omega (arith, length-append (gather (sum_of c) f) (sums_in f), row-few c f, node-few f, square-next (length f))

net-few : (fs : List (List (List ℕ))) → 2 * length (gather sums_in fs) + total length fs ≤ total length fs * total length fs
net-few [] = omega arith
net-few (f ∷ fs) = omega (arith, length-append (sums_in f) (gather sums_in fs), node-few f, net-few fs, square (length f) (total length fs))

-- ---- the keys of a network

-- those of all pairs of literals, and of the sums of two cubes of a node
abbrev keys_of : List (List (List ℕ)) → List ℕ
keys_of fs = map key_of (pairs_in (from 0 (2 * width))) ++ map key_of (gather sums_in fs)

module _ (fs : List (List (List ℕ))) where
  keys-few : total length fs ≤ most_cubes → length (keys_of fs) + 1 < entries
  unfolding from
  keys-few h =
      let n = total length fs in
      let all : length (from 0 (2 * width)) ≡ 2 * width = refl in
      let sq : length (from 0 (2 * width)) * length (from 0 (2 * width)) ≡ 16384 = refl in
      let g : Divisor → ℕ = key_of in
      omega (
        arith,
        length-append (map g (pairs_in (from 0 (2 * width)))) (map g (gather sums_in fs)),
        length-map (pairs_in (from 0 (2 * width))) g,
        length-map (gather sums_in fs) g,
        pairs-many (from 0 (2 * width)),
        net-few fs,
        mul-le-mul_right n h,
      )

  module _ (neat : (f : List (List ℕ)) → f ∈ fs → Neat f) where
    -- a key that has a gain is one of them
    keys_in : (k : ℕ) → 0 < net_gain k fs → k ∈ keys_of fs
    keys_in k h =
        let (d, p, e, m) = net-made fs neat k h in
        subst (◌∈ keys_of fs) e (elim (Memᴰ.append_cases (gather (gather pairs_in) fs) m) [
          | inl i ↦ Memᴰ.append_left _ (map-in key_of (literal-pair d i))
          | inr i ↦ Memᴰ.append_right (map key_of (pairs_in (from 0 (2 * width)))) (map-in key_of i)
        ])
      where
        literal : {f : List (List ℕ)} (c : List ℕ) → c ∈ f → Neat f → (p : ℕ) → p ∈ c → p ∈ from 0 (2 * width)
        literal c m n p i = of_mem p (from 0 (2 * width)) (from_in 0 (2 * width) p (omega arith) (omega (arith, n.inside c m p (mem-of i))))

        literal-pair : (d : Divisor) → d ∈ gather (gather pairs_in) fs → d ∈ pairs_in (from 0 (2 * width))
        literal-pair d i =
            let (f, j, m) = gather-out (gather pairs_in) fs i in
            let (c, x, y) = gather-out pairs_in f m in
            let n = neat f j in
            let (p, q, e, u, v, l) = pairs-out c (all-out asc x n.ascends) d y in
            Memᴰ.cast e (pairs_made (from 0 (2 * width)) (from-asc 0 (2 * width)) (literal c x n p u) (literal c x n q v) l)

-- ---- a table filled anew

module _ (n : Network) (shape : Shaped n) (r : rules n ≡ true) (a : arranged n ≡ true) where
  -- no gain is more than the literals that there are
  gains-few : (k : ℕ) → net_gain k (nodes (net_of n)) ≤ most_gain
  gains-few k = elim (compared 0 (net_gain k (nodes (net_of n)))) [
    | below h _ _ ↦
        let (d, p, e, m) = net-made (nodes (net_of n)) (arranged-neat n a) k h in
        omega (
          arith,
          ap (λ x. net_gain x (nodes (net_of n))) e,
          net-gain (nodes (net_of n)) (arranged-neat n a) d p,
          saved-within (net_of n) (rules-good n shape r) d p.whole,
          (rules-within n shape r).literals,
        )
    | equal h _ _ ↦ omega arith
    | beyond h _ _ ↦ omega arith
  ]

  says-filled : (t g u h : List ℕ) → Sound t g → many t ≡ 0 → Turns t g u h none (λ k. net_gain k (nodes (net_of n))) → Says u h (nodes (net_of n))
  says-filled t g u h s z p =
      let f = p.fits s (omega arith) (keys_of (nodes (net_of n))) (keys-few (nodes (net_of n)) (rules-within n shape r).cubes) (λ e l. absurd (omega arith))
      (λ k. refl) (keys_in (nodes (net_of n)) (arranged-neat n a)) (λ k. omega (arith, gain-empty t g k z, gains-few k)) in
      record { sound = p.sound s f.0; gains = λ k. omega (arith, p.moves s f.0 k, gain-empty t g k z) }

-- the table is filled with the nodes of a network
pub filled : (n : Network) → Shaped n → (t g u h : List ℕ) → Sound t g × (many t ≡ 0)
    → Turns t g u h none (λ k. net_gain k (nodes_of (n.outputs + n.divisors) n.counts n.words)) → Knows u h n
filled n shape t g u h (s, z) p r a =
    says-filled n shape r a t g u h s z (subst (λ fs. Turns t g u h none (λ k. net_gain k fs)) (sym (nodes-held n)) p)
