-- A network renumbered in the order of its listing follows the rules, stands in the one order, is of the same size and has the same
-- outputs; one in that order stays as it is. Assumes nothing.
use Prim.Native.Nat.{ℕ, suc, ◌+◌, ◌-◌, ◌/◌, ◌<◌, ◌≤◌}
use mathlib.Core.Path.{◌≡◌, refl, sym, ap, ◌∙◌, subst}
use mathlib.Core.Logic.{◌⊎◌, inl, inr}
use mathlib.Core.Bool.{Bool, true, false, not, ◌||◌}
use mathlib.Core.List.Memᴰ
use mathlib.Core.List.Memᴰ.{head as here}
use mathlib.Core.List.{List, [], ◌∷◌, ◌++◌, map, append-nil, append_assoc}
use native.Mathlib.Omega.{arith}
use lib.Dec.{ltb}
use lib.ListN.{length, length-map}
use borrow.Author.Tests.{eq-eqb, ltb-true, ltb-false, lt-ltb}
use Rattle.sets.specs.Lists.{all, total, from}
use Rattle.sets.{specs.Sets.mem, specs.Masks.bit, specs.Masks.packed, proofs.Sets.from_in, proofs.Sets.from_out, proofs.Rows.from-snoc}
use Rattle.sets.proofs.Truth.{decided, clash, refuted}
use Rattle.sets.proofs.Lists.{◌∈◌, all_in, map-in, map-out, map-cong, map-map, total-append, total-cong, total-map, total-same, pairwise-imp}
use Rattle.expression.specs.Expression.{expression, ordered, literals_of}
use Rattle.expression.specs.Value.{lit, value}
use Rattle.network.specs.Net.{Node, Net, nodes, variables, cube_count, literal_count, cubes_at}
use Rattle.network.specs.{Listing.ready, Listing.listing, Meaning.Through.itself, Meaning.Through.others, Held.numbered}
use Rattle.network.specs.Evaluation.{settle, answers, evaluate}
use Rattle.network.specs.Meaning.{Reads, Through, Consistent, Sound, differ}
use Rattle.network.{specs.Rules.Lawful, proofs.Places.differ-in, proofs.Places.differ-out, proofs.Evaluating.evaluate-settled, proofs.Evaluating.evaluate-read}
use Rattle.network.proofs.Numbering.{in-output, in-divisor, numbered-length, numbered-numbers, numbered-cubes, cubes-at, known-below, below-known}
use Rattle.network.proofs.Listings.{ready-out, listing-once, listing-number, listing-in, listing_step, good-sound}
use Rattle.network.proofs.Mapping.{numbered-map, mapped-node, mapped-outputs, mapped-total, mapped-fixed}
use Rattle.image_laws.specs.Renumber.{index_of, new_number, new_node, relisted, renumbered}
use Rattle.image_laws.specs.Meaning.{OneOrder}
use Rattle.image_laws.proofs.NewNumbers.{index-before, index-new, index-from, Named, Reaches, old_number, new-input, new-listed, old-new}
use Rattle.image_laws.proofs.NewNumbers.{new-injective, new-below, new-node-reads, new-node-length, new-node-literals, new-node-expression}
use Rattle.image_laws.proofs.NewNumbers.{new-node-value, new-node-same}

-- the expressions of divisors
abbrev cubes : List Node → List (List (List ℕ))
cubes l = map (λ (e : Node). e.cubes) l

-- ---- the listing of a network by the rules

lawful-sound : (n : Net) → Lawful n → Sound n
lawful-sound n w = good-sound n w.good

module _ (n : Net) (w : Lawful n) where
  -- it has the number of each divisor, each once
  listed-whole : length (listing n) ≡ length n.divisors
  listed-whole = (lawful-sound n w).whole

  listed-range : (v : ℕ) → v ∈ listing n → (n.inputs ≤ v) × (v < variables n)
  listed-range v m = let r = listing-number n v m in (
    rw r.2 ((lawful-sound n w).distinct.above r.0 r.1),
    known-below n (cubes n.divisors) w.good.in_turn v (inr r),
  )

  range_listed : (v : ℕ) → n.inputs ≤ v → v < variables n → v ∈ listing n
  range_listed v h k = elim (below-known n (cubes n.divisors) w.good.in_turn v k) [
    | inl q ↦ absurd (omega arith)
    | inr (e, m, p) ↦ Memᴰ.cast p (listing-in n listed-whole e m)
  ]

  -- and a listed divisor reads inputs and divisors listed before it alone
  listed-reads : (a b : List ℕ) (v : ℕ) → listing n ≡ a ++ (v ∷ b) → (u : ℕ) → Reads (cubes_at v n.divisors) u → (u < n.inputs) ⊎ (u ∈ a)
  listed-reads a b v e u r = ready-out n.inputs a (cubes_at v n.divisors) (listing_step n (lawful-sound n w).distinct a b v e).allowed u r

  listed-node : (v : ℕ) → v ∈ listing n → cubes_at v n.divisors ∈ nodes n
  listed-node v m = let r = listing-number n v m in rw (r.2, cubes-at n (lawful-sound n w).distinct r.1) (in-divisor n r.1)

  -- ---- new numbers

  variable-named : (v : ℕ) → v < variables n → Named n.inputs (listing n) v
  variable-named v h = elim (decided (ltb v n.inputs))
      [ inl t ↦ inl (ltb-true v n.inputs t) | inr t ↦ inr (range_listed v (ltb-false v n.inputs t) h) ]

  node-reaches : {f : List (List ℕ)} → f ∈ nodes n → Reaches n.inputs (listing n) f
  node-reaches {f} m v r = variable-named v (w.good.known f m v r)

  pub new-number-injective : (u v : ℕ) → u < variables n → v < variables n → new_number n.inputs (listing n) u ≡ new_number n.inputs (listing n) v → u ≡ v
  new-number-injective u v h k e = new-injective n.inputs (listing n) u v (variable-named u h) (variable-named v k) e

  new-number-below : (v : ℕ) → v < variables n → new_number n.inputs (listing n) v < variables n
  new-number-below v h = omega (arith, new-below n.inputs (listing n) v (variable-named v h), listed-whole)

  -- the number is from the inputs on, by the place in the listing
  new-number-at : (a b : List ℕ) (v : ℕ) → listing n ≡ a ++ (v ∷ b) → new_number n.inputs (listing n) v ≡ n.inputs + length a
  new-number-at a b v e =
      let x = listing_step n (lawful-sound n w).distinct a b v e in
      let above : n.inputs ≤ v = rw x.number ((lawful-sound n w).distinct.above x.node x.inside) in
      new-listed n.inputs (listing n) v above ∙ ap (n.inputs +◌) (ap (index_of v) e ∙ index-new v a b x.fresh)

  new-number-before : (a b : List ℕ) (v : ℕ) → listing n ≡ a ++ b → v ∈ a → new_number n.inputs (listing n) v < n.inputs + length a
  new-number-before a b v e m =
      let i : v ∈ listing n = subst (λ (l : List ℕ). v ∈ l) (sym e) (Memᴰ.append_left b m) in
      omega (arith, new-listed n.inputs (listing n) v (listed-range v i).0, ap (index_of v) e, index-before v a b m)

-- ---- divisors numbered in turn

-- where each of them comes from
numbered-from : (v : ℕ) (g : ℕ → List (List ℕ)) (l : List ℕ) (e : Node) → e ∈ numbered v (map g l)
    → (a : List ℕ) × (x : ℕ) × (b : List ℕ) × (l ≡ a ++ (x ∷ b)) × (e.number ≡ v + length a) × (e.cubes ≡ g x)
unfolding numbered
numbered-from v g [] e m = absurd (Memᴰ.not-nil m)
numbered-from v g (x ∷ l) e m = elim (Memᴰ.cases_cons m) [
  | inl p ↦ ([], x, l, refl, omega (arith, ap (λ (z : Node). z.number) p), ap (λ (z : Node). z.cubes) p)
  | inr i ↦ let r = numbered-from (suc v) g l e i in (x ∷ r.0, r.1, r.2, ap (x ∷◌) r.3, omega (arith, r.4), r.5)
]

-- each divisor reads smaller numbers alone
abbrev ReadsBack : Net → Type 0
ReadsBack n = (e : Node) → e ∈ n.divisors → (v : ℕ) → Reads e.cubes v → v < e.number

-- and so do those that it reads in turn
pub through-less : (n : Net) → ReadsBack n → {u v : ℕ} → Through n u v → v < u
through-less n k (itself {e = e} {g = g} m i r) = k e m g.number r
through-less n k (others {e = e} {g = g} m i r t) = omega (arith, k e m g.number r, through-less n k t)

-- ---- the nodes

module _ (n : Net) where
  -- the expression of the divisor v, and the new one in place of f
  abbrev old : ℕ → List (List ℕ)
  old v = cubes_at v n.divisors

  abbrev renewed : List (List ℕ) → List (List ℕ)
  renewed f = new_node n.inputs (listing n) f

  renumbered-stand : (renumbered n).divisors ≡ numbered n.inputs (map (λ v. renewed (old v)) (listing n))
  unfolding renumbered
  renumbered-stand = numbered-map renewed n.inputs (map old (listing n)) ∙ ap (numbered n.inputs) (map-map renewed old (listing n))

  pub renumbered-nodes : nodes (renumbered n) ≡ map renewed n.outputs ++ map (λ v. renewed (old v)) (listing n)
  unfolding renumbered
  renumbered-nodes = ap (map renewed n.outputs ++◌) (ap cubes renumbered-stand ∙ numbered-cubes n.inputs _)

  renumbered-inputs : (renumbered n).inputs ≡ n.inputs
  unfolding renumbered
  renumbered-inputs = refl

  renumbered-outputs : length (renumbered n).outputs ≡ length n.outputs
  unfolding renumbered
  renumbered-outputs = mapped-outputs renewed (relisted n)

  -- a divisor stands where the listing has it
  renumbered-divisor : (e : Node) → e ∈ (renumbered n).divisors
      → (a : List ℕ) × (x : ℕ) × (b : List ℕ) × (listing n ≡ a ++ (x ∷ b)) × (e.number ≡ n.inputs + length a) × (e.cubes ≡ renewed (old x))
  renumbered-divisor e m = numbered-from n.inputs (λ v. renewed (old v)) (listing n) e (rw renumbered-stand at m)

  module _ (w : Lawful n) where
    pub renumbered-divisors : length (renumbered n).divisors ≡ length n.divisors
    renumbered-divisors = ap length renumbered-stand ∙ numbered-length n.inputs _ ∙ length-map (listing n) _ ∙ listed-whole n w

    renumbered-variables : variables (renumbered n) ≡ variables n
    renumbered-variables = omega (arith, renumbered-inputs, renumbered-divisors)

    relisted-node : {f : List (List ℕ)} → f ∈ nodes (relisted n) → f ∈ nodes n
    relisted-node m = elim (Memᴰ.append_cases n.outputs m) [
      | inl i ↦ in-output n i
      | inr i ↦ let r = map-out old (listing n) (rw numbered-cubes at i) in rw r.2 (listed-node n w r.0 r.1)
    ]

    -- each node is a new one
    renumbered-node : (f : List (List ℕ)) → f ∈ nodes (renumbered n) → (h : List (List ℕ)) × (h ∈ nodes n) × (f ≡ renewed h)
    unfolding renumbered
    renumbered-node f m = let q = mapped-node renewed (relisted n) f m in (q.0, relisted-node q.1, q.2)

    -- ---- sums

    abbrev numbers : List ℕ
    numbers = map (λ (e : Node). e.number) n.divisors

    -- over the listing as over the divisors
    listed-total : (g : List (List ℕ) → ℕ) → total (λ v. g (old v)) (listing n) ≡ total g (cubes n.divisors)
    listed-total g =
        total-same differ (λ x y h. differ-in (λ (e : y ≡ x). differ-out {x = x} {y = y} h (sym e))) (λ x. ap not (eq-eqb x x refl))
        (λ v. g (old v)) (listing n) numbers (listing-once n)
        (pairwise-imp ltb differ numbers (λ x y q. differ-in (λ (e : x ≡ y). omega (arith, ltb-true x y q))) (lawful-sound n w).distinct.ascending)
        (λ v m. let r = listing-number n v m in Memᴰ.cast r.2 (map-in (λ (e : Node). e.number) r.1))
        (λ v m. let r = map-out (λ (e : Node). e.number) n.divisors m in Memᴰ.cast r.2 (listing-in n (listed-whole n w) r.0 r.1))
        ∙ total-map (λ v. g (old v)) (λ (e : Node). e.number) n.divisors
        ∙ total-cong _ (λ (e : Node). g e.cubes) n.divisors (λ e m. ap g (cubes-at n (lawful-sound n w).distinct m))
        ∙ sym (total-map g (λ (e : Node). e.cubes) n.divisors)

    -- a sum over the nodes that new numbers do not change
    renumbered-total : (g : List (List ℕ) → ℕ) → ((f : List (List ℕ)) → f ∈ nodes n → g (renewed f) ≡ g f)
        → total g (nodes (renumbered n)) ≡ total g (nodes n)
    unfolding renumbered
    renumbered-total g h =
        mapped-total renewed (relisted n) g (λ f m. h f (relisted-node m))
        ∙ total-append g n.outputs (cubes (relisted n).divisors)
        ∙ ap (total g n.outputs +◌) (ap (total g) (numbered-cubes n.inputs _) ∙ total-map g old (listing n) ∙ listed-total g)
        ∙ sym (total-append g n.outputs (cubes n.divisors))

    pub renumbered-cubes : cube_count (renumbered n) ≡ cube_count n
    renumbered-cubes = renumbered-total length (λ f m. new-node-length n.inputs (listing n) f)

    pub renumbered-literals : literal_count (renumbered n) ≡ literal_count n
    renumbered-literals = renumbered-total literals_of (λ f m. new-node-literals n.inputs (listing n) f (node-reaches n w m) (w.good.expressions f m))

    -- ---- the rules and the order

    node_made : {f : List (List ℕ)} → f ∈ nodes n → (expression (renewed f) ≡ true) × (ordered (renewed f) ≡ true)
    node_made {f} m = new-node-expression n.inputs (listing n) f (node-reaches n w m) (w.good.expressions f m)

    node-known : (f : List (List ℕ)) → f ∈ nodes (renumbered n) → (v : ℕ) → Reads f v → v < variables (renumbered n)
    node-known f m v r =
        let q = renumbered-node f m in
        let u = new-node-reads n.inputs (listing n) q.0 v (subst (λ z. Reads z v) q.2 r) in
        omega (arith, renumbered-variables, u.2, new-number-below n w u.0 (w.good.known q.0 q.1 u.0 u.1))

    divisor-earlier : ReadsBack (renumbered n)
    divisor-earlier e m v r =
        let q = renumbered-divisor e m in
        let u = new-node-reads n.inputs (listing n) (old q.1) v (subst (λ z. Reads z v) q.5 r) in
        elim (listed-reads n w q.0 q.2 q.1 q.3 u.0 u.1) [
          | inl h ↦ omega (arith, u.2, new-input n.inputs (listing n) u.0 h, q.4)
          | inr i ↦ omega (arith, u.2, new-number-before n w q.0 (q.1 ∷ q.2) u.0 q.3 i, q.4)
        ]

    -- it stands in the one order
    pub renumbered-order : OneOrder (renumbered n)
    renumbered-order = record { cubes = λ f m. let q = renumbered-node f m in rw q.2 (node_made q.1).1; earlier = divisor-earlier }

    -- and follows the rules
    pub renumbered-lawful : Lawful (renumbered n)
    renumbered-lawful = record {
      inputs = omega (arith, renumbered-inputs, w.inputs);
      outputs = omega (arith, renumbered-outputs, w.outputs);
      within = record {
        variables = omega (arith, renumbered-variables, w.within.variables);
        cubes = omega (arith, renumbered-cubes, w.within.cubes);
        literals = omega (arith, renumbered-literals, w.within.literals);
      };
      good = record {
        expressions = λ f m. let q = renumbered-node f m in rw q.2 (node_made q.1).0;
        known = node-known;
        in_turn = rw (renumbered-inputs, renumbered-stand, numbered-cubes);
        acyclic = λ v t. omega (arith, through-less (renumbered n) divisor-earlier t);
      };
    }

    -- ---- the outputs

    module _ (s : ℕ) where
      -- the values of the variables, under the old numbers and under the new ones
      abbrev was : ℕ → Bool
      was = settle n (listing n) (bit s)

      abbrev becomes : ℕ → Bool
      becomes v = was (old_number n.inputs (listing n) v)

      was-consistent : Consistent n (bit s) was
      was-consistent = evaluate-settled n (lawful-sound n w) s

      kept : (v : ℕ) → Named n.inputs (listing n) v → becomes (new_number n.inputs (listing n) v) ≡ was v
      kept v k = ap was (old-new n.inputs (listing n) v k)

      node_kept : {f : List (List ℕ)} → f ∈ nodes n → value (lit becomes) (renewed f) ≡ value (lit was) f
      node_kept {f} m = new-node-value n.inputs (listing n) f (node-reaches n w m) was becomes kept

      listed-value : (v : ℕ) → v ∈ listing n → was v ≡ value (lit was) (old v)
      listed-value v m = let r = listing-number n v m in rw (r.2, cubes-at n (lawful-sound n w).distinct r.1) (was-consistent.divisors r.0 r.1)

      becomes-consistent : Consistent (renumbered n) (bit s) becomes
      becomes-consistent = record {
        inputs = λ i h. let k : i < n.inputs = omega (arith, renumbered-inputs) in rw (lt-ltb i n.inputs k) (was-consistent.inputs i k);
        divisors = λ e m.
            let q = renumbered-divisor e m in
            let i : q.1 ∈ listing n = subst (λ (l : List ℕ). q.1 ∈ l) (sym q.3) (Memᴰ.append_right q.0 (here refl)) in
            ap becomes (q.4 ∙ sym (new-number-at n w q.0 q.2 q.1 q.3)) ∙ kept q.1 (inr i) ∙ listed-value q.1 i
            ∙ sym (node_kept (listed-node n w q.1 i)) ∙ ap (value (lit becomes)) (sym q.5);
      }

      becomes-answers : answers (renumbered n) becomes ≡ answers n was
      unfolding renumbered
      becomes-answers = map-map (value (lit becomes)) renewed n.outputs ∙ map-cong _ (value (lit was)) n.outputs (λ f m. node_kept (in-output n m))

      -- every setting gives the same outputs
      pub renumbered-evaluate : evaluate (renumbered n) s ≡ evaluate n s
      renumbered-evaluate =
          evaluate-read (renumbered n) (lawful-sound (renumbered n) renumbered-lawful) s becomes becomes-consistent
          ∙ ap packed becomes-answers
          ∙ sym (evaluate-read n (lawful-sound n w) s was was-consistent)

-- ---- where each divisor reads smaller numbers alone, they are listed in turn

past-from : (k m : ℕ) → mem (k + m) (from k m) ≡ false
past-from k m = refuted (λ h. omega (arith, from_out k m (k + m) h))

module _ (n : Net) (w : Lawful n) (k : ReadsBack n) where
  -- the smallest number that is left is ready
  turn-ready : (m : ℕ) (g : Node) → g ∈ n.divisors → g.number ≡ n.inputs + m → ready n.inputs (from n.inputs m) g.cubes ≡ true
  unfolding ready
  turn-ready m g i e = all_in (all seen) g.cubes (λ c j. all_in seen c (λ x h. go (x / 2) (k g i (x / 2) (c, j, (x, h, refl)))))
    where
      seen : ℕ → Bool
      seen x = ltb (x / 2) n.inputs || mem (x / 2) (from n.inputs m)

      go : (v : ℕ) → v < g.number → (ltb v n.inputs || mem v (from n.inputs m)) ≡ true
      go v h = elim (decided (ltb v n.inputs))
          [ inl t ↦ rw t | inr t ↦ rw (t, from_in n.inputs m v (ltb-false v n.inputs t) (omega arith)) ]

  -- so it comes next
  turn-next : (m : ℕ) (b : List ℕ) (v : ℕ) → m < length n.divisors → listing n ≡ from n.inputs m ++ (v ∷ b) → v ≡ n.inputs + m
  turn-next m b v h e = elim (below-known n (cubes n.divisors) w.good.in_turn (n.inputs + m) (omega arith)) [
    | inl q ↦ absurd (omega arith)
    | inr (g, i, p) ↦
        let x = listing_step n (lawful-sound n w).distinct (from n.inputs m) b v e in
        let most : v ≤ g.number = x.least g i (rw (← p) (past-from n.inputs m)) (turn-ready m g i (sym p)) in
        let above : n.inputs ≤ v = rw x.number ((lawful-sound n w).distinct.above x.node x.inside) in
        elim (decided (ltb v (n.inputs + m))) [
          | inl t ↦ clash (from_in n.inputs m v above (ltb-true v (n.inputs + m) t)) x.fresh
          | inr t ↦ omega (arith, ltb-false v (n.inputs + m) t)
        ]
  ]

  turn-rest : (m : ℕ) (b : List ℕ) → m + length b ≡ length n.divisors → listing n ≡ from n.inputs m ++ b
      → listing n ≡ from n.inputs (length n.divisors)
  turn-rest m [] h e = e ∙ append-nil (from n.inputs m) ∙ ap (from n.inputs) (omega arith)
  turn-rest m (v ∷ b) h e = turn-rest (suc m) b (omega arith)
      (e ∙ ap (λ z. from n.inputs m ++ (z ∷ b)) (turn-next m b v (omega arith) e)
      ∙ sym (append_assoc (from n.inputs m) ((n.inputs + m) ∷ []) b) ∙ ap (◌++ b) (sym (from-snoc n.inputs m)))

  earlier-listing : listing n ≡ from n.inputs (length n.divisors)
  unfolding from
  earlier-listing = turn-rest 0 (listing n) (omega (arith, listed-whole n w)) refl

  -- so no variable takes another number
  earlier-stays : (v : ℕ) → Named n.inputs (listing n) v → new_number n.inputs (listing n) v ≡ v
  earlier-stays v q = elim (decided (ltb v n.inputs)) [
    | inl t ↦ new-input n.inputs (listing n) v (ltb-true v n.inputs t)
    | inr t ↦ let h = ltb-false v n.inputs t in elim q [
      | inl i ↦ absurd (omega arith)
      | inr i ↦
          let p : n.inputs + (v - n.inputs) ≡ v = omega arith in
          let j : index_of (n.inputs + (v - n.inputs)) (from n.inputs (length n.divisors)) ≡ v - n.inputs =
          index-from n.inputs (length n.divisors) (v - n.inputs) (omega (arith, listed-range n w v i)) in
          omega (arith, new-listed n.inputs (listing n) v h, ap (index_of v) earlier-listing, rw p at j)
    ]
  ]

-- a network in the one order stays as it is
pub renumbered-same : (n : Net) → Lawful n → OneOrder n → renumbered n ≡ n
unfolding renumbered
renumbered-same n w o = mapped-fixed (renewed n) (relisted n) (λ f m. stays (relisted-node n w m)) ∙ λ i. record {
  inputs = n.inputs;
  outputs = n.outputs;
  divisors = (ap (numbered n.inputs) expressions ∙ sym w.good.in_turn) i;
}
  where
    stays : {f : List (List ℕ)} → f ∈ nodes n → renewed n f ≡ f
    stays {f} m = new-node-same n.inputs (listing n) (earlier-stays n w o.earlier) f (node-reaches n w m) (w.good.expressions f m) (o.cubes f m)

    numbers : listing n ≡ map (λ (e : Node). e.number) n.divisors
    numbers = earlier-listing n w o.earlier ∙ ap (from n.inputs) (sym (length-map n.divisors (λ (e : Node). e.cubes)))
        ∙ sym (ap (map (λ (e : Node). e.number)) w.good.in_turn ∙ numbered-numbers n.inputs (cubes n.divisors))

    expressions : map (old n) (listing n) ≡ cubes n.divisors
    expressions = ap (map (old n)) numbers ∙ map-map (old n) (λ (e : Node). e.number) n.divisors
        ∙ map-cong _ (λ (e : Node). e.cubes) n.divisors (λ e m. cubes-at n (lawful-sound n w).distinct m)
