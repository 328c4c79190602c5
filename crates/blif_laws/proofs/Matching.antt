-- A formed model without a gap, each name defined once, is that of the network read off it, in another order of blocks and rows, and of no other
-- network in the one order: each name's one block is taken to the front in turn, and sorting moves rows alone. Assumes nothing.
use Prim.Native.Nat.{ℕ, zero, suc, ◌+◌, ◌-◌, ◌<◌, ◌≤◌}
use mathlib.Core.Path.{◌≡◌, refl, sym, ap, ap₂, ◌∙◌, subst}
use mathlib.Core.Logic.{inl, inr, ◌↔◌}
use mathlib.Core.Bool.{Bool, true, false, cond, not}
use mathlib.Core.List.Memᴰ
use mathlib.Core.List.Memᴰ.{head as here}
use mathlib.Core.List.Memᴰ.{tail as there}
use mathlib.Core.List.{List, [], ◌∷◌, ◌++◌, map, map-append, append-nil}
use native.Mathlib.Omega.{arith}
use lib.Dec.{leb, ltb}
use lib.ListN.{length, length-map}
use borrow.Author.Tests.{ne_eqb, lt-ltb, le-ltb, ltb-true, ltb-false, le-leb, leb-true, not-true}
use Rattle.sets.{specs.Lists.all, specs.Lists.keep, specs.Lists.pairwise, specs.Lists.from, specs.Sets.mem, proofs.Rows.from-length}
use Rattle.sets.proofs.Truth.{both, together, decided, clash, refuted, compared, below, equal, beyond}
use Rattle.sets.proofs.Lists.{◌∈◌, all_in, all-out, keep-in, keep_out, keep_all, keep_append, keep-keep, keep-none, any_out, ahead, map-in, map-out}
use Rattle.sets.proofs.Lists.{map-cong, map-map}
use Rattle.sets.{proofs.Lists.pairwise_append, proofs.Lists.pairwise_map, specs.Sets.before}
use Rattle.sets.proofs.Sets.{mem-of, of_mem, from-mem, from-asc}
use Rattle.expression.specs.Expression.{expression, place, sort, ordered}
use Rattle.expression.proofs.Sorting.{sort-out, sort-sort, expression-sort}
use Rattle.network.specs.Net.{Node, Net, nodes}
use Rattle.network.specs.{Held.numbered, Handed.flat, Meaning.Reads, Rules.Lawful}
use Rattle.network.proofs.Numbering.{numbered-cubes, read-passes}
use Rattle.image_laws.specs.Meaning.{OneOrder}
use Rattle.blif_laws.specs.Text.{Name, variable, output, Block, Model, model_of}
use Rattle.blif_laws.specs.Reading.{standing, gapless, same_name, blocks_for, input_times, times_defined, defined_once, cubes_for, is_variable}
use Rattle.blif_laws.specs.{Reading.divisors_in, Reading.net_in, Meaning.SameModel, Meaning.Models}
use Rattle.blif_laws.specs.Meaning.{Formed, Stands, is_input, is_listed, Gap, Misdefined, Shuffled, nothing, next, swap, trans, SameBlock}
use Rattle.blif_laws.proofs.Modelling.{turn_blocks, turn-divisors, turn-outputs, gathered-out, from-below, below-from}
use Rattle.blif_laws.proofs.Modelling.{model-gapless, model-defined, model-net}
use Rattle.blif_laws.proofs.Shuffling.{shuffled-self, count-shuffled, block-self, gapless-same, once-same, net-same}
use Rattle.blif_laws.proofs.Standing.{same-name, name-self, stands-iff, gapless-iff, for-block, once-each, block-stands, once-iff}

-- ---- sorting

place-shuffled : (c : List ℕ) (f : List (List ℕ)) → Shuffled ◌≡◌ (c ∷ f) (place c f)
unfolding place
place-shuffled c [] = next refl nothing
place-shuffled c (d ∷ f) =
    let r = place-shuffled c f in
    elim (before d c) as (λ b. Shuffled ◌≡◌ (c ∷ d ∷ f) (cond b (d ∷ place c f) (c ∷ d ∷ f))) [
      | true ↦ trans (swap c d f) (next refl r)
      | false ↦ shuffled-self (λ x. refl) (c ∷ d ∷ f)
    ]

sort-shuffled : (f : List (List ℕ)) → Shuffled ◌≡◌ f (sort f)
unfolding sort
sort-shuffled [] = nothing
sort-shuffled (c ∷ f) = trans (next refl (sort-shuffled f)) (place-shuffled c (sort f))

-- ---- one element taken to the front

module _ {A : Type 0} (p : A → Bool) where
  abbrev others : List A → List A
  others l = keep (λ y. not (p y)) l

  all_others : (l : List A) → keep p l ≡ [] → others l ≡ l
  all_others l e = keep_all (λ y. not (p y)) l (all_in (λ y. not (p y)) l (λ y i.
      ap not (refuted (λ h. Memᴰ.not-nil (subst (y ∈◌) e (keep-in p i h))))))

  -- the only one that passes a test
  one-first : {r : A → A → Type 0} → ((x : A) → r x x) → (l : List A) (x : A) → keep p l ≡ x ∷ [] → Shuffled r l (x ∷ others l)
  one-first self [] x e = let z : ◌≡◌ {A = ℕ} 0 1 = cc in absurd (omega arith)
  one-first {r} self (y ∷ l) x e = go (p y) e (λ q. one-first self l x q)
    where
      go : (b : Bool) → cond b (y ∷ keep p l) (keep p l) ≡ x ∷ [] → (keep p l ≡ x ∷ [] → Shuffled r l (x ∷ others l))
          → Shuffled r (y ∷ l) (x ∷ cond (not b) (y ∷ others l) (others l))
      go true q i =
          let n : y ≡ x = cc in
          let k : keep p l ≡ [] = cc in
          next (subst (r y) n (self y)) (subst (Shuffled r l) (sym (all_others l k)) (shuffled-self self l))
      go false q i = trans (next (self y) (i q)) (swap y x (others l))

-- ---- the blocks by their names

-- all rows of a name, sorted
abbrev sorted_block : List Block → Name → Block
sorted_block bs a = record { name = a; cubes = cubes_for a bs }

abbrev unlike : Name → Name → Bool
unlike a c = not (same_name a c)

lone : {A : Type 0} (l : List A) → length l ≡ 1 → (x : A) × (l ≡ x ∷ [])
lone [] e = absurd (omega arith)
lone (x ∷ []) e = (x, refl)
lone (x ∷ y ∷ l) e = absurd (omega arith)

module _ (a : Name) (bs : List Block) where
  abbrev elsewhere : List Block
  elsewhere = keep (λ b. unlike a b.name) bs

  -- where they are taken out, other names keep theirs
  blocks-elsewhere : (c : Name) → unlike a c ≡ true → blocks_for c elsewhere ≡ blocks_for c bs
  blocks-elsewhere c h = keep-keep (λ b. same_name c b.name) (λ b. unlike a b.name) bs
      (λ b e. subst (λ x. unlike a x ≡ true) (sym (same-name c b.name e)) h)

  cubes-elsewhere : (c : Name) → unlike a c ≡ true → cubes_for c elsewhere ≡ cubes_for c bs
  unfolding cubes_for
  cubes-elsewhere c h = ap (λ l. sort (flat (map (λ (b : Block). b.cubes) l))) (blocks-elsewhere c h)

  lone-block : (b : Block) → blocks_for a bs ≡ b ∷ [] → SameBlock b (sorted_block bs a)
  unfolding cubes_for
  lone-block b e = record {
    name = same-name a b.name (keep_out (λ (c : Block). same_name a c.name) bs (subst (b ∈◌) (sym e) (here refl))).1;
    cubes = subst (Shuffled ◌≡◌ b.cubes) (ap sort (sym (append-nil b.cubes)) ∙ ap (λ l. sort (flat (map (λ (c : Block). c.cubes) l))) (sym e))
        (sort-shuffled b.cubes);
  }

-- where each of the names has one block, and no other name has any
by_names : (ns : List Name) (bs : List Block) → pairwise unlike ns ≡ true → ((b : Block) → b ∈ bs → b.name ∈ ns)
    → ((a : Name) → a ∈ ns → length (blocks_for a bs) ≡ 1) → Shuffled SameBlock bs (map (sorted_block bs) ns)
by_names [] [] h k o = nothing
by_names [] (b ∷ bs) h k o = absurd (Memᴰ.not-nil (k b (here refl)))
by_names (a ∷ ns) bs h k o =
    let q = ahead unlike a ns h in
    let x = lone (blocks_for a bs) (o a (here refl)) in
    let rest = elsewhere a bs in
    let apart : (c : Name) → c ∈ ns → unlike a c ≡ true = λ c i. all-out (unlike a) i q.0 in
    trans (one-first (λ b. same_name a b.name) block-self bs x.0 x.1) (next (lone-block a bs x.0 x.1)
    (subst (Shuffled SameBlock rest)
    (map-cong (sorted_block rest) (sorted_block bs) ns (λ c i. ap (λ f. record { name = c; cubes = f }) (cubes-elsewhere a bs c (apart c i))))
    (by_names ns rest q.1
    (λ b i. let j = keep_out (λ (c : Block). unlike a c.name) bs i in elim (Memᴰ.cases_cons (k b j.0)) [
      | inl e ↦ clash (name-self a) (ap (same_name a) (sym e) ∙ not-true _ j.1)
      | inr t ↦ t
    ])
    (λ c i. ap length (blocks-elsewhere a bs c (apart c i)) ∙ o c (there i)))))

-- ---- the names that a network's model has

-- k variables from n on, and m outputs
abbrev all_names : ℕ → ℕ → ℕ → List Name
all_names n k m = map variable (from n k) ++ map output (from 0 m)

names-unlike : (n k m : ℕ) → pairwise unlike (all_names n k m) ≡ true
names-unlike n k m = pairwise_append unlike (map variable (from n k)) (map output (from 0 m))
    (pairwise_map ltb unlike variable (from n k) (λ x y i j h. ap not (ne_eqb x y (λ e. omega (arith, ltb-true x y h)))) (from-asc n k))
    (pairwise_map ltb unlike output (from 0 m) (λ x y i j h. ap not (ne_eqb x y (λ e. omega (arith, ltb-true x y h)))) (from-asc 0 m))
    (λ x y i j. ap₂ unlike (map-out variable (from n k) i).2 (map-out output (from 0 m) j).2)

turn-from : (c : ℕ → Name) (g : ℕ → List (List ℕ)) (k m : ℕ) → turn_blocks c k (map g (from k m)) ≡ map (λ v. record { name = c v; cubes = g v }) (from k m)
unfolding turn_blocks from
turn-from c g k zero = refl
turn-from c g k (suc m) = ap (record { name = c k; cubes = g k } ∷◌) (turn-from c g (suc k) m)

module _ (d : Model) where
  abbrev blocks_named : ℕ → List Block
  blocks_named k = map (sorted_block d.blocks) (all_names d.inputs k d.outputs)

  named-parts : (k : ℕ) → blocks_named k ≡ map (λ v. sorted_block d.blocks (variable v)) (from d.inputs k)
      ++ map (λ j. sorted_block d.blocks (output j)) (from 0 d.outputs)
  named-parts k = map-append (sorted_block d.blocks) (map variable (from d.inputs k)) (map output (from 0 d.outputs))
      ∙ ap₂ ◌++◌ (map-map (sorted_block d.blocks) variable (from d.inputs k)) (map-map (sorted_block d.blocks) output (from 0 d.outputs))

  net-blocks : (model_of (net_in d)).blocks ≡ blocks_named (divisors_in d)
  unfolding model_of net_in
  net-blocks =
      ap₂ ◌++◌ (turn-divisors d.inputs _ ∙ turn-from variable (λ v. cubes_for (variable v) d.blocks) d.inputs (divisors_in d))
      (turn-outputs 0 _ ∙ turn-from output (λ j. cubes_for (output j) d.blocks) 0 d.outputs)
      ∙ sym (named-parts (divisors_in d))

  -- k of them define variables
  named-variables : (k : ℕ) → length (keep (λ b. is_variable b.name) (blocks_named k)) ≡ k
  named-variables k =
      let test : Block → Bool = λ b. is_variable b.name in
      let vs = map (λ v. sorted_block d.blocks (variable v)) (from d.inputs k) in
      let js = map (λ j. sorted_block d.blocks (output j)) (from 0 d.outputs) in
      ap (λ l. length (keep test l)) (named-parts k)
      ∙ ap length (keep_append test vs js
      ∙ ap₂ ◌++◌ (keep_all test vs (all_in test vs (λ b i. ap test (map-out _ (from d.inputs k) i).2)))
      (keep-none test js (refuted (λ h. let q = any_out test js h in clash q.2 (ap test (map-out _ (from 0 d.outputs) q.1).2))))
      ∙ append-nil vs)
      ∙ length-map (from d.inputs k) _ ∙ from-length d.inputs k

-- ---- the least number above all of a list

record Least (l : List ℕ) : Type 0 where
  edge : ℕ
  inside : (v : ℕ) → v ∈ l → v < edge
  reached : (v : ℕ) → v < edge → (w : ℕ) × (w ∈ l) × (v ≤ w)

least_above : (l : List ℕ) → Least l
least_above [] = record { edge = 0; inside = λ v m. absurd (Memᴰ.not-nil m); reached = λ v h. absurd (omega arith) }
least_above (x ∷ l) = go (least_above l)
  where
    go : Least l → Least (x ∷ l)
    go a = elim (decided (ltb x a.edge)) [
      | inl t ↦ record {
        edge = a.edge;
        inside = λ v m. elim (Memᴰ.cases_cons m) [ inl e ↦ omega (arith, ltb-true x a.edge t) | inr i ↦ a.inside v i ];
        reached = λ v h. let q = a.reached v h in (q.0, there q.1, q.2);
      }
      | inr t ↦ record {
        edge = suc x;
        inside = λ v m. elim (Memᴰ.cases_cons m) [ inl e ↦ omega arith | inr i ↦ omega (arith, ltb-false x a.edge t, a.inside v i) ];
        reached = λ v h. (x, here refl, omega arith);
      }
    ]

-- ---- the model and the network read off it

module _ (d : Model) (f : Formed d) (g : gapless d ≡ true) (o : defined_once d ≡ true) where
  abbrev edge : ℕ
  edge = (least_above (standing d)).edge

  abbrev many : ℕ
  many = edge - d.inputs

  edge-stands : (v : ℕ) → v < edge → Stands d (variable v)
  unfolding gapless
  edge-stands v h =
      let q = (least_above (standing d)).reached v h in
      (stands-iff d v).0 (elim (compared v q.0) [
        | below l _ _ ↦ of_mem v (standing d) (all-out (λ u. mem u (standing d)) (below-from q.0 v l)
            (all-out (λ x. all (λ u. mem u (standing d)) (from 0 x)) q.1 g))
        | equal e _ _ ↦ subst (◌∈ standing d) (sym e) q.1
        | beyond l _ _ ↦ absurd (omega (arith, q.2))
      ])

  stands-edge : (v : ℕ) → Stands d (variable v) → v < edge
  stands-edge v s = (least_above (standing d)).inside v ((stands-iff d v).1 s)

  inputs-edge : d.inputs ≤ edge
  inputs-edge = go d.inputs refl
    where
      go : (n : ℕ) → d.inputs ≡ n → n ≤ edge
      go zero e = omega arith
      go (suc n) e = omega (arith, stands-edge n (is_input (omega arith)))

  -- what a block defines is one of the names
  block-named : (b : Block) → b ∈ d.blocks → b.name ∈ all_names d.inputs many d.outputs
  unfolding times_defined
  block-named b i = go b.name refl
    where
      go : (a : Name) → b.name ≡ a → a ∈ all_names d.inputs many d.outputs
      go (output j) e = Memᴰ.append_right (map variable (from d.inputs many)) (map-in output (below-from d.outputs j ((f b i).among j e)))
      go (variable v) e =
          let s : Stands d (variable v) = subst (Stands d) e (block-stands d f i) in
          let h = ltb-false v d.inputs (refuted (λ t.
          let c : input_times d.inputs (variable v) ≡ 1 = rw t in
          omega (arith, once-each d o s, for-block {a = variable v} i e, c))) in
          Memᴰ.append_left (map output (from 0 d.outputs)) (map-in variable (of_mem v (from d.inputs many) (from-mem d.inputs many v
          ∙ together _ _ (le-leb d.inputs v h) (lt-ltb v (d.inputs + many) (omega (arith, stands-edge v s, inputs-edge))))))

  -- and each of the names has one block
  name-block : (a : Name) → a ∈ all_names d.inputs many d.outputs → length (blocks_for a d.blocks) ≡ 1
  unfolding times_defined
  name-block a i = elim (Memᴰ.append_cases (map variable (from d.inputs many)) i) [
    | inl j ↦
        let q = map-out variable (from d.inputs many) j in
        let r = both (leb d.inputs q.0) (ltb q.0 (d.inputs + many)) (sym (from-mem d.inputs many q.0) ∙ mem-of q.1) in
        let h = leb-true d.inputs q.0 r.0 in
        let c : input_times d.inputs (variable q.0) ≡ 0 = rw (le-ltb q.0 d.inputs h) in
        ap (λ z. length (blocks_for z d.blocks)) q.2
        ∙ omega (arith, once-each d o (edge-stands q.0 (omega (arith, ltb-true q.0 (d.inputs + many) r.1, inputs-edge))), c)
    | inr j ↦
        let q = map-out output (from 0 d.outputs) j in
        ap (λ z. length (blocks_for z d.blocks)) q.2 ∙ omega (arith, once-each d o (is_listed (from-below d.outputs q.0 q.1)))
  ]

  blocks-shuffled : Shuffled SameBlock d.blocks (blocks_named d many)
  blocks-shuffled = by_names (all_names d.inputs many d.outputs) d.blocks (names-unlike d.inputs many d.outputs) block-named name-block

  divisors-many : divisors_in d ≡ many
  divisors-many = count-shuffled (λ b. is_variable b.name) (λ x y s. ap is_variable s.name) blocks-shuffled ∙ named-variables d many

  pub model-matches : SameModel d (model_of (net_in d))
  unfolding model_of net_in
  model-matches = record {
    inputs = refl;
    outputs = sym (length-map (from 0 d.outputs) _ ∙ from-length 0 d.outputs);
    blocks = subst (Shuffled SameBlock d.blocks) (ap (blocks_named d) (sym divisors-many) ∙ sym (net-blocks d)) blocks-shuffled;
  }

-- ---- the order of the network read off a model

-- a divisor has the cubes of its number
numbered-own : (g : ℕ → List (List ℕ)) (k m : ℕ) (e : Node) → e ∈ numbered k (map g (from k m)) → e.cubes ≡ g e.number
unfolding numbered from
numbered-own g k zero e i = absurd (Memᴰ.not-nil i)
numbered-own g k (suc m) e i = elim (Memᴰ.cases_cons i) [
  | inl p ↦ ap (λ (z : Node). z.cubes) p ∙ ap g (sym (ap (λ (z : Node). z.number) p))
  | inr j ↦ numbered-own g (suc k) m e j
]

module _ (d : Model) where
  -- the cubes of each node are sorted
  node-sorted : (f : List (List ℕ)) → f ∈ nodes (net_in d) → (g : List (List ℕ)) × (f ≡ sort g)
  unfolding net_in cubes_for
  node-sorted f m = elim (Memᴰ.append_cases (net_in d).outputs m) [
    | inl i ↦ let q = map-out (λ j. cubes_for (output j) d.blocks) (from 0 d.outputs) i in (_, q.2)
    | inr i ↦
        let q = map-out (λ v. cubes_for (variable v) d.blocks) (from d.inputs (divisors_in d)) (subst (f ∈◌) (numbered-cubes d.inputs _) i) in
        (_, q.2)
  ]

  -- where the blocks read earlier variables alone, so does each divisor
  reads-earlier : Formed d → (v u : ℕ) → Reads (cubes_for (variable v) d.blocks) u → u < v
  unfolding cubes_for
  reads-earlier k v u (c, i, l) =
      let q = gathered-out (λ (b : Block). b.cubes) (blocks_for (variable v) d.blocks) (sort-out _ i) in
      let p = keep_out (λ (b : Block). same_name (variable v) b.name) d.blocks q.1 in
      let e = (k q.0 p.0).earlier v (same-name (variable v) q.0.name p.1) in
      ltb-true u v (read-passes (λ x. ltb x v) q.0.cubes e u (c, q.2, l))

  -- so where it is by the rules, it stands in the one order
  net-order : Formed d → Lawful (net_in d) → OneOrder (net_in d)
  unfolding net_in
  net-order k w = record {
    cubes = λ f m.
        let q = node-sorted f m in
        let s = expression-sort (sort q.0) (subst (λ z. expression z ≡ true) q.1 (w.good.expressions f m)) in
        rw q.1 (subst (λ z. ordered z ≡ true) (sort-sort q.0) s.1);
    earlier = λ e m u i.
        let p = numbered-own (λ v. cubes_for (variable v) d.blocks) d.inputs (divisors_in d) e m in
        reads-earlier k e.number u (subst (λ z. Reads z u) p i);
  }

-- ---- what a model is of

-- d is the model of n exactly when it has no gap, nothing is misdefined, and n is read off it and is by the rules
pub models-iff : (d : Model) → Formed d → (n : Net) → Models d n ↔ ((Gap d → ⊥) × (Misdefined d → ⊥) × Lawful (net_in d) × (net_in d ≡ n))
models-iff d f n = (into, back)
  where
    into : Models d n → (Gap d → ⊥) × (Misdefined d → ⊥) × Lawful (net_in d) × (net_in d ≡ n)
    into m =
        let e = net-same d (model_of n) m.same ∙ model-net n m.lawful m.order in (
          (gapless-iff d).0 (gapless-same d (model_of n) m.same ∙ model-gapless n m.lawful),
          (once-iff d f).0 (once-same d (model_of n) m.same ∙ model-defined n m.lawful),
          subst Lawful (sym e) m.lawful,
          e,
        )

    back : (Gap d → ⊥) × (Misdefined d → ⊥) × Lawful (net_in d) × (net_in d ≡ n) → Models d n
    back (g, o, w, e) = subst (Models d) e (record {
      lawful = w;
      order = net-order d f w;
      same = model-matches d f ((gapless-iff d).1 g) ((once-iff d f).1 o);
    })
