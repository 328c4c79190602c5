-- The nodes of the network read off blocks: each is of a name, in turn, defined by one block; names differ, so that no block counts twice and there is
-- room for all cubes. Assumes nothing.
use Prim.Native.Nat.{ℕ, ◌+◌, ◌-◌, ◌/◌, ◌<◌, ◌≤◌, min}
use mathlib.Core.Path.{◌≡◌, refl, sym, ap, ap₂, ◌∙◌}
use mathlib.Core.List.Memᴰ
use mathlib.Core.{Logic.inl, Logic.inr}
use mathlib.Core.Bool.{Bool, true, false, cond, not}
use mathlib.Core.List.Memᴰ.{head as here}
use mathlib.Core.List.Memᴰ.{tail as there}
use mathlib.Core.List.{List, [], ◌∷◌, ◌++◌, map, map-append, append-nil}
use native.Mathlib.Omega.{arith}
use lib.Dec.{ltb}
use lib.ListN.{length, get_or, take, set, length-append, length-map, get_or-append}
use lib.Seq.{get_or-append-add}
use borrow.Author.Tests.{ne_eqb, ltb-true, ltb-false, lt-ltb, le-ltb}
use Rattle.sets.specs.Lists.{all, pairwise, total, from}
use Rattle.sets.{specs.Sets.reads_below, specs.Word.largest, proofs.Places.total-room, proofs.Rows.get_d_map, proofs.Rows.get_d-from, proofs.Rows.from-length}
use Rattle.sets.proofs.Truth.{decided, clash, refuted}
use Rattle.sets.proofs.Lists.{◌∈◌, all_in, all-out, keep-in, map-out, map-map, total-map, total-cong, total-sum}
use Rattle.sets.proofs.Lists.{ahead, pairwise_append, pairwise_map}
use Rattle.sets.proofs.Sets.{from-asc}
use Rattle.expression.{specs.Expression.sort, specs.Expression.reach, specs.Words.cubes_of}
use Rattle.network.specs.{Net.Net, Net.nodes, Held.most_variables, Held.most_cubes}
use Rattle.network.specs.{Handed.flat, Handed.Holds, Handed.LaidNodes, Handed.cube_slots, Parts.held_in}
use Rattle.network.proofs.{Laying.laid-holds, Laying.laid_more, Laying.laid-all, Numbering.numbered-length, Numbering.numbered-cubes}
use Rattle.blif_laws.proofs.{Modelling.gathered-in, Standing.same-name, Standing.name-self, Standing.once-each}
use Rattle.blif_laws.specs.Meaning.{has_block, is_listed}
use Rattle.blif_laws.specs.Text.{Name, variable, output, Block}
use Rattle.blif_laws.specs.Reading.{named_in, same_name, blocks_for, input_times, times_defined, defined_once, cubes_for, divisors_in, net_in}
use Rattle.blif_scan.specs.Scanning.{left}
use Rattle.blif_form.specs.Surveying.{BlocksOf, SmallBlock, SmallBlocks}
use Rattle.blif_read.specs.Defining.{model_by}
use Rattle.blif_read.specs.Building.{NamedIs, name_at, Buildable}
use Rattle.blif_read.proofs.Summing.{total-zero, total-block, cubes-for}

-- ---- the block that defines a name, where there is one

one_in : {A : Type 0} {x : A} (l : List A) → length l ≡ 1 → x ∈ l → l ≡ x ∷ []
one_in [] h m = absurd (omega arith)
one_in (y ∷ []) h (here e) = ap (◌∷ []) (sym e)
one_in (y ∷ []) h (there m) = absurd (Memᴰ.not-nil m)
one_in (y ∷ z ∷ l) h m = absurd (omega arith)

-- the block found is that one
pub one-cubes : (a : Name) (bs : List Block) (b : Block) → length (blocks_for a bs) ≡ 1 → b ∈ bs → a ≡ b.name → cubes_for a bs ≡ sort b.cubes
unfolding cubes_for
one-cubes a bs b h m e =
    let i : b ∈ blocks_for a bs = keep-in (λ d. same_name a d.name) m (ap (same_name a) (sym e) ∙ name-self a) in
    ap (λ l. sort (flat (map (λ (d : Block). d.cubes) l))) (one_in (blocks_for a bs) h i) ∙ ap sort (append-nil b.cubes)

-- ---- no block counts twice

-- names that differ
abbrev apart_names : Name → Name → Bool
apart_names a b = not (same_name a b)

module _ (f : Block → ℕ) where
  -- at most one of the names is that of a block
  share : (x : Name) (c : ℕ) (l : List Name) → pairwise apart_names l ≡ true → total (λ a. cond (same_name a x) c 0) l ≤ c
  share x c [] h = omega arith
  share x c (a ∷ l) h = let p = ahead apart_names a l h in go (same_name a x) refl p.0 (share x c l p.1)
    where
      others : same_name a x ≡ true → all (apart_names a) l ≡ true → total (λ d. cond (same_name d x) c 0) l ≡ 0
      others e k = total-cong (λ d. cond (same_name d x) c 0) (λ d. 0) l (λ d m. ap (λ t. cond t c 0) (refuted (λ t.
          clash (all-out (apart_names a) m k) (ap not (ap (same_name a) (sym (same-name d x t) ∙ same-name a x e) ∙ name-self a))))) ∙ total-zero l

      go : (t : Bool) → same_name a x ≡ t → all (apart_names a) l ≡ true → total (λ d. cond (same_name d x) c 0) l ≤ c
          → cond t c 0 + total (λ d. cond (same_name d x) c 0) l ≤ c
      go true e k i = omega (arith, others e k)
      go false e k i = omega arith

  -- what blocks of several names come to is at most what all come to
  pub shares : (l : List Name) (bs : List Block) → pairwise apart_names l ≡ true → total (λ a. total f (blocks_for a bs)) l ≤ total f bs
  shares l [] h = omega (arith, total-zero l)
  shares l (b ∷ bs) h =
      omega (
        arith,
        total-sum _ (λ a. cond (same_name a b.name) (f b) 0) (λ a. total f (blocks_for a bs)) l (λ a m. total-block f a b bs),
        share b.name (f b) l h,
        shares l bs h,
      )

-- ---- the names of the nodes

abbrev names_of : ℕ → ℕ → ℕ → List Name
names_of n m k = map output (from 0 m) ++ map variable (from n k)

names_apart : (n m k : ℕ) → pairwise apart_names (names_of n m k) ≡ true
names_apart n m k =
    pairwise_append apart_names (map output (from 0 m)) (map variable (from n k))
    (pairwise_map ltb apart_names output (from 0 m) (λ x y i j h. ap not (ne_eqb x y (λ e. omega (arith, ltb-true x y h)))) (from-asc 0 m))
    (pairwise_map ltb apart_names variable (from n k) (λ x y i j h. ap not (ne_eqb x y (λ e. omega (arith, ltb-true x y h)))) (from-asc n k))
    (λ x y i j. let p = map-out output (from 0 m) i in let q = map-out variable (from n k) j in ap₂ apart_names p.2 q.2)

names-many : (n m k : ℕ) → length (names_of n m k) ≡ m + k
names-many n m k =
    length-append (map output (from 0 m)) _
    ∙ ap₂ ◌+◌ (length-map (from 0 m) output ∙ from-length 0 m) (length-map (from n k) variable ∙ from-length n k)

names-get : (n m k i : ℕ) (d : Name) → n + k ≤ most_variables → i < m + k → get_or (names_of n m k) i d ≡ name_at n m i
names-get n m k i d s h = elim (decided (ltb i m)) [
  | inl t ↦
      let l = ltb-true i m t in
      rw t (get_or-append (map output (from 0 m)) _ d i (omega (arith, length-map (from 0 m) output, from-length 0 m)) ∙ get_d-from output d 0 m i l
      ∙ ap output (omega arith))
  | inr t ↦
      let l = ltb-false i m t in
      let z : length (map output (from 0 m)) ≡ m = length-map (from 0 m) output ∙ from-length 0 m in
      let e : i ≡ length (map output (from 0 m)) + (i - m) = omega arith in
      rw t (ap (λ x. get_or (names_of n m k) x d) e ∙ get_or-append-add (map output (from 0 m)) (map variable (from n k)) (i - m) d
      ∙ get_d-from variable d n k (i - m) (omega arith) ∙ ap variable (omega arith))
]

-- ---- the variables of a block

-- they are small where those of all blocks are
pub small-in : (bs : List Block) {b : Block} → SmallBlocks bs → b ∈ bs → SmallBlock b
small-in bs l m v i = l v (gathered-in named_in m i)

-- ---- the nodes

module _ (n m k : ℕ) (bs : List Block) (many : divisors_in (model_by n m bs) ≡ k) where
  abbrev net : Net
  net = net_in (model_by n m bs)

  abbrev fs : List (List (List ℕ))
  fs = nodes net

  nodes-names : fs ≡ map (λ a. cubes_for a bs) (names_of n m k)
  unfolding net_in
  nodes-names =
      ap₂ ◌++◌ (sym (map-map (λ a. cubes_for a bs) output (from 0 m)))
      (numbered-cubes n _ ∙ ap (λ j. map (λ v. cubes_for (variable v) bs) (from n j)) many ∙ sym (map-map (λ a. cubes_for a bs) variable (from n k)))
      ∙ sym (map-append (λ a. cubes_for a bs) (map output (from 0 m)) (map variable (from n k)))

  pub nodes-many : length fs ≡ m + k
  nodes-many = ap length nodes-names ∙ length-map (names_of n m k) (λ a. cubes_for a bs) ∙ names-many n m k

  pub node_at : (i : ℕ) → n + k ≤ most_variables → i < m + k → cubes_for (name_at n m i) bs ≡ get_or fs i []
  node_at i s h = sym (ap (λ l. get_or l i []) nodes-names ∙ get_d_map (λ a. cubes_for a bs) (names_of n m k) i [] (output 0) (omega (arith, names-many n m k))
      ∙ ap (λ a. cubes_for a bs) (names-get n m k i (output 0) s h))

  nodes-few : total length fs ≤ total (λ (b : Block). length b.cubes) bs
  nodes-few =
      omega (
        arith,
        ap (total length) nodes-names,
        total-map length (λ a. cubes_for a bs) (names_of n m k),
        total-cong (λ a. length (cubes_for a bs)) (λ a. total (λ (b : Block). length b.cubes) (blocks_for a bs)) (names_of n m k) (λ a i. cubes-for a bs),
        shares (λ (b : Block). length b.cubes) (names_of n m k) bs (names_apart n m k),
      )

  -- there is room for the next
  pub node-room : {i at : ℕ} → total (λ (b : Block). length b.cubes) bs ≤ most_cubes → i < m + k → at ≡ total length (take i fs)
      → at + length (get_or fs i []) ≤ cube_slots
  node-room {i} c h e = omega (arith, total-room length fs i [] (omega (arith, nodes-many)), nodes-few)

  pub nodes-hold : {sizes ws : List ℕ} {at : ℕ} → LaidNodes ws sizes at fs → Holds (held_in n m k sizes ws) net
  unfolding net_in
  nodes-hold l = laid-holds l net refl refl (sym (length-map (from 0 m) (λ j. cubes_for (output j) bs) ∙ from-length 0 m))
      (sym (numbered-length n _ ∙ length-map (from n (divisors_in (model_by n m bs))) (λ v. cubes_for (variable v) bs) ∙ from-length n _ ∙ many))

  -- ---- each name is defined once

  module _ (once : defined_once (model_by n m bs) ≡ true) (there-is : (v : ℕ) → n ≤ v → v < n + k → (b : Block) × (b ∈ bs) × (b.name ≡ variable v)) where
    output-one : (j : ℕ) → j < m → length (blocks_for (output j) bs) ≡ 1
    unfolding times_defined
    output-one j h = omega (arith, once-each (model_by n m bs) once (is_listed h))

    divisor-one : (v : ℕ) → n ≤ v → v < n + k → length (blocks_for (variable v) bs) ≡ 1
    unfolding times_defined
    divisor-one v h l =
        let r = there-is v h l in
        let z : input_times n (variable v) ≡ 0 = ap (λ t. cond t 1 0) (le-ltb v n h) in
        omega (arith, once-each (model_by n m bs) once (has_block r.1 r.2))

    pub node-one : (i : ℕ) → n + k ≤ most_variables → i < m + k → length (blocks_for (name_at n m i) bs) ≡ 1
    node-one i s h = elim (decided (ltb i m)) [
      | inl t ↦ rw t (output-one i (ltb-true i m t))
      | inr t ↦ let l = ltb-false i m t in rw t (divisor-one (min (n + (i - m)) largest) (omega arith) (omega arith))
    ]

-- ---- the whole

-- expressions that reach less far
reach-wider : (v u : ℕ) (f : List (List ℕ)) → v ≤ u → reach v f ≡ true → reach u f ≡ true
reach-wider v u f h k = all_in (reads_below u) f (λ c m. all_in (λ l. ltb (l / 2) u) c (λ l i.
    lt-ltb (l / 2) u (omega (arith, ltb-true (l / 2) v (all-out (λ x. ltb (x / 2) v) i (all-out (reads_below v) m k))))))

-- what is asked of the blocks
pub record Whole (s : List ℕ) (first n m k : ℕ) (bs : List Block) : Type 0 where
  pub blocks : BlocksOf (left s first) m bs
  pub small : SmallBlocks bs
  pub once : defined_once (model_by n m bs) ≡ true
  pub many : divisors_in (model_by n m bs) ≡ k
  pub known : (b : Block) → b ∈ bs → reach (n + k) b.cubes ≡ true
  pub few : total (λ (b : Block). length b.cubes) bs ≤ most_cubes
  pub defined : (v : ℕ) → n ≤ v → v < n + k → (b : Block) × (b ∈ bs) × (b.name ≡ variable v)

module _ {s : List ℕ} {first n m k : ℕ} {bs : List Block} (h : Buildable n m k) (w : Whole s first n m k bs) where
  -- one node more
  pub built-next : {ws new sizes : List ℕ} {at i r : ℕ} {a : Name} → i < m + k → a ≡ name_at n m i → length (cubes_of ws) ≡ cube_slots
      → LaidNodes ws sizes at (take i (nodes (net_in (model_by n m bs)))) → NamedIs s first a ws new at r
      → LaidNodes new (set sizes i r) (at + r) (take (i + 1) (nodes (net_in (model_by n m bs))))
  built-next {at = at} {i} {r} {a} l e z d p =
      let g = node_at n m k bs w.many i h.variables l in
      let c : cubes_for a bs ≡ get_or (nodes (net_in (model_by n m bs))) i [] = ap (λ x. cubes_for x bs) e ∙ g in
      let o : length (blocks_for a bs) ≡ 1 = ap (λ x. length (blocks_for x bs)) e ∙ node-one n m k bs w.many w.once w.defined i h.variables l in
      let t = node-room n m k bs w.many w.few l d.place in
      let q = p m bs (omega (arith, h.outputs)) w.blocks w.small o (λ b j. reach-wider (n + k) most_variables b.cubes h.variables (w.known b j))
      (omega (arith, ap length c)) in
      laid_more (nodes (net_in (model_by n m bs))) d (omega (arith, nodes-many n m k bs w.many))
      (omega (arith, nodes-many n m k bs w.many, h.outputs, h.variables)) c q.0 q.1

  pub built-all : {ws sizes : List ℕ} {at i : ℕ} → m + k ≤ i → LaidNodes ws sizes at (take i (nodes (net_in (model_by n m bs))))
      → Holds (held_in n m k sizes ws) (net_in (model_by n m bs))
  built-all {i = i} l d = nodes-hold n m k bs w.many (laid-all {i = i} (nodes (net_in (model_by n m bs))) d (omega (arith, nodes-many n m k bs w.many)))
