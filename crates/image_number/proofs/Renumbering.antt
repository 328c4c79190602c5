-- The nodes of the network renumbered, as the code finds them: by the places of the new numbers and the order of the divisors. Assumes nothing.
use Prim.Native.Nat.{ℕ, ◌+◌, ◌-◌, ◌*◌, ◌/◌, ◌%◌, ◌<◌, ◌≤◌}
use mathlib.Core.Path.{◌≡◌, refl, sym, ap, ap₂, ◌∙◌, subst}
use mathlib.Core.{Logic.inl, Logic.inr, Bool.true}
use mathlib.Core.List.Memᴰ
use mathlib.Core.List.{List, [], ◌∷◌, map}
use native.Mathlib.Omega.{arith}
use lib.Dec.{ltb}
use lib.ListN.{length, get_or, take, length-append, length-map, get_or-append}
use lib.Seq.{get_or-append-add, get_or-take}
use borrow.Author.Tests.{ltb-true, ltb-false}
use Rattle.sets.{specs.Lists.all, specs.Lists.total, specs.Sets.insert, proofs.Truth.both, proofs.Truth.decided, proofs.Rows.get_d_map}
use Rattle.sets.proofs.Lists.{◌∈◌, all-out, map-cong}
use Rattle.sets.proofs.Places.{at_in, pairwise-at, total-room}
use Rattle.expression.specs.{Words.cubes_of, Expression.sort}
use Rattle.network.specs.Net.{Net, nodes, cubes_at}
use Rattle.network.specs.{Listing.listing, Held.reach, Answers.padded, Answers.listed_of, declared.Network.Network}
use Rattle.network_nodes.{specs.Nodes.cut, proofs.Cutting.cut-node-length}
use Rattle.network.specs.Held.{place_at, net_of, rules}
use Rattle.network.specs.Handed.{Holds, LaidNodes, node_slots, cube_slots}
use Rattle.network.{specs.declared.Listed.Listed, specs.Meaning.differ, specs.Rules.Lawful, proofs.Places.differ-out}
use Rattle.network.specs.Parts.{held_in, net_at, divisors_of, InLimits}
use Rattle.network_listing.specs.Parts.{Ordered}
use Rattle.network.proofs.Numbering.{numbered-length, numbered-in, reach-in}
use Rattle.network.proofs.{Listings.listing-once, Listings.listing-in, Parts.nodes-at, Parts.nodes-length}
use Rattle.network.proofs.Holding.{nodes-held, output-held, divisor-held, rules-sound, rules-outputs, rules-divisors}
use Rattle.network.proofs.{Limits.rules-sized, Ruling.rules-lawful, Laying.laid-holds}
use Rattle.network_listing.proofs.Answering.{ordered-listing, listed-out, rules-listable}
use Rattle.image_laws.specs.Renumber.{index_of, new_number, new_literal, new_cube, new_node, renumbered}
use Rattle.image_laws.proofs.NewNumbers.{index-lt, index_at}
use Rattle.image_laws.proofs.Renumbering.{renumbered-nodes, renumbered-divisors, renumbered-cubes}
use Rattle.image_number.specs.Parts.{Numbers, Placing, Sourced, Numberable, cube_by, node_by, source_of}

-- by the rules the listing is handed out whole
pub rules-order : (n : Network) → rules n ≡ true → (r : Listed) → r ≡ listed_of n → r.order ≡ padded (listing (net_of n))
rules-order n h r e = (listed-out n r (rules-listable n h) e).places

-- ---- a network by the rules, with the order of its divisors

module _ {n m k : ℕ} {words counts order : List ℕ} (b : Numberable n m k words counts order) where
  abbrev struct : Network
  struct = held_in n m k counts words

  abbrev net : Net
  net = net_at n m k counts words

  abbrev old : List (List (List ℕ))
  old = cut counts (cubes_of words)

  sized : InLimits n m k words counts
  sized = rules-sized struct b.shape b.lawful

  lawful : Lawful net
  lawful = rules-lawful struct b.shape b.lawful

  many : length net.divisors ≡ k
  many = rules-divisors struct b.shape b.lawful

  all_listed : length (listing net) ≡ length net.divisors
  all_listed = (rules-sound struct b.lawful).whole

  listed-many : length (listing net) ≡ k
  listed-many = all_listed ∙ many

  pub nodes-few : m + k ≤ node_slots
  nodes-few = omega (arith, sized.narrow, sized.variables)

  ordered : Ordered n m k words counts k order
  ordered = ordered-listing n m k words counts sized k order (record { number = sym listed-many; places = b.listed })

  order-at : (i : ℕ) → i < k → get_or order i 0 ≡ get_or (listing net) i 0
  order-at i h = ap (λ l. get_or l i 0) b.listed ∙ get_or-append (listing net) _ 0 i (omega (arith, listed-many))

  pub numbers-in : Numbers n k order
  numbers-in = record {
    variables = sized.variables;
    counted = ordered.counted;
    range = λ i h. let r = ordered.numbers i h in (r.0, omega (arith, r.1, sized.variables));
    apart = λ i j l h e. differ-out (pairwise-at differ 0 (listing net) i j (listing-once net) l (omega (arith, listed-many)))
        (sym (order-at i (omega arith)) ∙ e ∙ order-at j h);
  }

  module _ (i : ℕ) (h : i < m + k) where
    pub source-ready : Sourced m i order
    source-ready = record { outputs = sized.narrow; counted = λ l. omega (arith, ordered.counted) }

    pub source_in : source_of n m i order < m + k
    source_in = elim (decided (ltb i m)) [
      | inl t ↦ rw t (omega (arith, ltb-true i m t))
      | inr t ↦ let l = ltb-false i m t in let r = ordered.numbers (i - m) (omega arith) in rw t (omega (arith, r.0, r.1))
    ]

  -- a node of the old words is one of the network's: it reads what is there, and its count is the number of its cubes
  module _ (j : ℕ) (h : j < m + k) where
    known_at : reach (n + k) (get_or old j []) ≡ true
    known_at =
        let e = ap length (nodes-held struct) ∙ nodes-length counts words (m + k) sized.counted in
        subst (λ f. reach (n + k) f ≡ true) (ap (λ l. get_or l j []) (nodes-held struct) ∙ nodes-at counts words (m + k) j h)
        (all-out (reach (n + k)) (at_in (nodes net) j [] (omega (arith, e)))
        (reach-in (n + k) (nodes net) (λ f i v r. omega (arith, lawful.good.known f i v r, many))))

    pub size-at : get_or counts j 0 ≡ length (get_or old j [])
    size-at =
        sym (get_or-take (m + k) counts j 0 h)
        ∙ sym (cut-node-length (take (m + k) counts) (cubes_of words) j (omega (arith, sized.cubes, b.shape.places)))
        ∙ ap length (nodes-at counts words (m + k) j h)

  -- ---- the nodes of the network renumbered

  abbrev fs : List (List (List ℕ))
  fs = nodes (renumbered net)

  abbrev new : List (List ℕ) → List (List ℕ)
  new f = new_node n (listing net) f

  outputs-many : length net.outputs ≡ m
  outputs-many = rules-outputs struct b.shape b.lawful

  front-many : length (map new net.outputs) ≡ m
  front-many = length-map net.outputs new ∙ outputs-many

  pub new-many : length fs ≡ m + k
  new-many =
      ap length (renumbered-nodes net) ∙ length-append (map new net.outputs) _
      ∙ ap₂ ◌+◌ front-many (length-map (listing net) (λ v. new (cubes_at v net.divisors)) ∙ listed-many)

  -- there is room for the next
  pub new-room : {i at : ℕ} → i < m + k → at ≡ total length (take i fs) → at + length (get_or fs i []) ≤ cube_slots
  new-room {i} h e =
      omega (arith, total-room length fs i [] (omega (arith, new-many)), renumbered-cubes net lawful, lawful.within.cubes)

  new-output : (i : ℕ) → i < m → get_or fs i [] ≡ new (get_or old i [])
  new-output i h =
      ap (λ l. get_or l i []) (renumbered-nodes net)
      ∙ get_or-append (map new net.outputs) _ [] i (omega (arith, front-many))
      ∙ get_d_map new net.outputs i [] [] (omega (arith, outputs-many))
      ∙ ap new (output-held struct i h ∙ nodes-at counts words (m + k) i (omega arith))

  new-divisor : (j v : ℕ) → j < k → v ≡ get_or order j 0 → n ≤ v → v < n + k → get_or fs (m + j) [] ≡ new (get_or old (place_at n m v) [])
  new-divisor j v h e l u =
      let z : n + (v - n) ≡ v = omega arith in
      ap₂ (λ x y. get_or x (y + j) []) (renumbered-nodes net) (sym front-many)
      ∙ get_or-append-add (map new net.outputs) _ j []
      ∙ get_d_map (λ w. new (cubes_at w net.divisors)) (listing net) j [] 0 (omega (arith, listed-many))
      ∙ ap (λ w. new (cubes_at w net.divisors)) (sym (order-at j h) ∙ sym e ∙ sym z)
      ∙ ap new (divisor-held struct (v - n) ∙ nodes-at counts words (m + k) (place_at n m v) (omega arith))

  new-at : (i : ℕ) → i < m + k → get_or fs i [] ≡ new (get_or old (source_of n m i order) [])
  new-at i h = elim (decided (ltb i m)) [
    | inl t ↦ rw t (new-output i (ltb-true i m t))
    | inr t ↦
        let l = ltb-false i m t in
        let e : m + (i - m) ≡ i = omega arith in
        let r = ordered.numbers (i - m) (omega arith) in
        rw t (ap (λ x. get_or fs x []) (sym e) ∙ new-divisor (i - m) (get_or order (i - m) 0) (omega arith) refl r.0 r.1)
  ]

  -- the struct holds the network of them
  pub new-holds : {sizes ws : List ℕ} {at : ℕ} → LaidNodes ws sizes at fs → Holds (held_in n m k sizes ws) (renumbered net)
  unfolding renumbered
  new-holds l = laid-holds l (renumbered net) refl refl (sym front-many) (sym (renumbered-divisors net lawful ∙ many))

  -- ---- the new numbers

  module _ {ps : List ℕ} (p : Placing n k order ps) where
    number_by : (v : ℕ) → v < n + k → get_or ps v 0 ≡ new_number n (listing net) v
    unfolding new_number
    number_by v h = elim (decided (ltb v n)) [
      | inl t ↦ rw t (p.inputs v (ltb-true v n t))
      | inr t ↦
          let l = ltb-false v n t in
          let e : n + (v - n) ≡ v = omega arith in
          let j = index_of v (listing net) in
          let ds = divisors_of m k counts words in
          let there : v ∈ listing net = Memᴰ.cast (sym e)
          (listing-in net all_listed _ (numbered-in n ds (v - n) (omega (arith, many, numbered-length n ds)))) in
          let s : j < k = omega (arith, index-lt v (listing net) there, listed-many) in
          rw t (ap (λ u. get_or ps u 0) (sym (order-at j s ∙ index_at v (listing net) there)) ∙ p.divisors j s)
    ]

    cube-by : (c : List ℕ) → all (λ l. ltb (l / 2) (n + k)) c ≡ true → cube_by ps c ≡ new_cube n (listing net) c
    unfolding cube_by new_cube new_literal
    cube-by [] h = refl
    cube-by (l ∷ c) h =
        let q = both (ltb (l / 2) (n + k)) (all (λ x. ltb (x / 2) (n + k)) c) h in
        ap₂ (λ v d. insert (2 * v + l % 2) d) (number_by (l / 2) (ltb-true (l / 2) (n + k) q.0)) (cube-by c q.1)

    -- the node at place i
    pub node-new : (i j : ℕ) (f : List (List ℕ)) → i < m + k → j ≡ source_of n m i order → f ≡ get_or old j [] → node_by ps f ≡ get_or fs i []
    unfolding new_node
    node-new i j f h e q =
        let s = source_of n m i order in
        let known = known_at s (source_in i h) in
        ap (node_by ps) (q ∙ ap (λ x. get_or old x []) e)
        ∙ ap sort (map-cong _ _ (get_or old s []) (λ c m. cube-by c (all-out (all (λ l. ltb (l / 2) (n + k))) m known))) ∙ sym (new-at i h)
