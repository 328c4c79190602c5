-- The model of a network by the rules and in the one order: it is of the form, no variable is left out, each name is defined once, and the
-- network read off it is that network. A divisor's block stands at its number and an output's at its place. Assumes nothing.
use Prim.Native.Nat.{ℕ, zero, suc, ◌+◌, ◌-◌, ◌<◌, ◌≤◌}
use mathlib.Core.Path.{◌≡◌, refl, sym, ap, ap₂, ◌∙◌, subst}
use mathlib.Core.Logic.{◌⊎◌, inl, inr}
use mathlib.Core.Bool.{Bool, true, false, cond}
use mathlib.Core.List.Memᴰ
use mathlib.Core.List.Memᴰ.{head as here}
use mathlib.Core.List.Memᴰ.{tail as there}
use mathlib.Core.List.{List, [], ◌∷◌, ◌++◌, map, append-nil}
use native.Mathlib.Omega.{arith}
use lib.Dec.{leb, ltb, eqb}
use lib.ListN.{length, get_or, length-map}
use borrow.Author.Tests.{eq-eqb, ne_eqb, lt-ltb, le-leb, ltb-true, ltb-false}
use Rattle.sets.{specs.Lists.all, specs.Lists.keep, specs.Lists.pairwise, specs.Lists.from, specs.Sets.mem, proofs.Places.at_in}
use Rattle.sets.proofs.Truth.{both, together, decided}
use Rattle.sets.proofs.Lists.{◌∈◌, all_in, all-out, keep_append, map-in, map-out}
use Rattle.sets.proofs.Sets.{mem-of, of_mem, from-mem}
use Rattle.expression.{specs.Expression.is_cube, specs.Expression.loose, specs.Expression.sort, proofs.Sorting.ordered-sort}
use Rattle.network.specs.Net.{Node, Net, nodes, variables}
use Rattle.network.specs.{Rules.Lawful, Held.numbered, Handed.flat, Meaning.Reads}
use Rattle.network.proofs.Numbering.{in-output, in-divisor, known-below, below-known, passes-read}
use Rattle.network_reads.{specs.Reading.reads_of, proofs.Reading.reads-out}
use Rattle.image_laws.{specs.Meaning.OneOrder, proofs.Fielding.divisor_cubes}
use Rattle.blif_laws.specs.Text.{Name, variable, output, Block, output_blocks, divisor_block, model_of}
use Rattle.blif_laws.specs.Reading.{named_in, standing, gapless, same_name, blocks_for, input_times, times_defined, defined_once, cubes_for, is_variable}
use Rattle.blif_laws.specs.{Reading.divisors_in, Reading.net_in, Meaning.Formed}

-- ---- blocks in turn

-- blocks whose names c gives, numbered from k on
unfoldable pub turn_blocks : (ℕ → Name) → ℕ → List (List (List ℕ)) → List Block
turn_blocks c k [] = []
turn_blocks c k (f ∷ fs) = record { name = c k; cubes = f } ∷ turn_blocks c (suc k) fs

pub turn-divisors : (k : ℕ) (fs : List (List (List ℕ))) → map divisor_block (numbered k fs) ≡ turn_blocks variable k fs
unfolding numbered turn_blocks
turn-divisors k [] = refl
turn-divisors k (f ∷ fs) = ap (record { name = variable k; cubes = f } ∷◌) (turn-divisors (suc k) fs)

pub turn-outputs : (k : ℕ) (fs : List (List (List ℕ))) → output_blocks k fs ≡ turn_blocks output k fs
unfolding output_blocks turn_blocks
turn-outputs k [] = refl
turn-outputs k (f ∷ fs) = ap (record { name = output k; cubes = f } ∷◌) (turn-outputs (suc k) fs)

-- a test of the name
abbrev by_name : (Name → Bool) → Block → Bool
by_name p b = p b.name

module _ (p : Name → Bool) (c : ℕ → Name) where
  -- none of them passes a test that no number from k on passes
  turn-none : (k : ℕ) (fs : List (List (List ℕ))) → ((u : ℕ) → k ≤ u → p (c u) ≡ false) → keep (by_name p) (turn_blocks c k fs) ≡ []
  unfolding turn_blocks
  turn-none k [] h = refl
  turn-none k (f ∷ fs) h = rw (h k (omega arith)) (turn-none (suc k) fs (λ u i. h u (omega arith)))

  turn-all : (k : ℕ) (fs : List (List (List ℕ))) → ((u : ℕ) → p (c u) ≡ true) → length (keep (by_name p) (turn_blocks c k fs)) ≡ length fs
  unfolding turn_blocks
  turn-all k [] h = refl
  turn-all k (f ∷ fs) h = rw (h k) (ap suc (turn-all (suc k) fs h))

module _ (c : ℕ → Name) (alike : (v u : ℕ) → same_name (c v) (c u) ≡ eqb v u) where
  -- one alone has the name of a place
  turn_one : (k : ℕ) (fs : List (List (List ℕ))) (i v : ℕ) → i < length fs → v ≡ k + i
      → blocks_for (c v) (turn_blocks c k fs) ≡ record { name = c v; cubes = get_or fs i [] } ∷ []
  unfolding turn_blocks
  turn_one k [] i v h e = absurd (omega arith)
  turn_one k (f ∷ fs) zero v h e =
      let z : v ≡ k = omega arith in
      subst (λ (w : ℕ). blocks_for (c w) (turn_blocks c k (f ∷ fs)) ≡ record { name = c w; cubes = f } ∷ []) (sym z)
      (rw (alike k k, eq-eqb k k refl)
      (ap (record { name = c k; cubes = f } ∷◌) (turn-none (same_name (c k)) c (suc k) fs (λ u i. alike k u ∙ ne_eqb k u (λ q. omega arith)))))
  turn_one k (f ∷ fs) (suc i) v h e = rw (alike v k, ne_eqb v k (λ q. omega arith)) (turn_one (suc k) fs i v (omega arith) (omega arith))

-- where each of them comes from
turn-out : (c : ℕ → Name) (k : ℕ) (fs : List (List (List ℕ))) (b : Block) → b ∈ turn_blocks c k fs
    → (v : ℕ) × (v < k + length fs) × ((f : List (List ℕ)) × (f ∈ fs) × (b ≡ record { name = c v; cubes = f }))
unfolding turn_blocks
turn-out c k [] b m = absurd (Memᴰ.not-nil m)
turn-out c k (f ∷ fs) b m = elim (Memᴰ.cases_cons m) [
  | inl e ↦ (k, omega arith, (f, here refl, e))
  | inr t ↦ let r = turn-out c (suc k) fs b t in (r.0, omega (arith, r.1), (r.2.0, there r.2.1, r.2.2))
]

-- ---- lists laid one after the other

module _ {A B : Type 0} (g : A → List B) where
  pub gathered-in : {x : A} {l : List A} {y : B} → x ∈ l → y ∈ g x → y ∈ flat (map g l)
  gathered-in {y = y} (here {xs = l} e) m = Memᴰ.append_left (flat (map g l)) (subst (λ z. y ∈ g z) e m)
  gathered-in (there {x = z} i) m = Memᴰ.append_right (g z) (gathered-in i m)

  pub gathered-out : (l : List A) {y : B} → y ∈ flat (map g l) → (x : A) × (x ∈ l) × (y ∈ g x)
  gathered-out [] m = absurd (Memᴰ.not-nil m)
  gathered-out (x ∷ l) m = elim (Memᴰ.append_cases (g x) m) [
    | inl i ↦ (x, here refl, i)
    | inr i ↦ let q = gathered-out l i in (q.0, there q.1, q.2)
  ]

-- the elements of a list, place by place
by-places : {A : Type 0} (g : ℕ → A) (d : A) (k : ℕ) (l : List A) → ((i : ℕ) → i < length l → g (k + i) ≡ get_or l i d) → map g (from k (length l)) ≡ l
unfolding from
by-places g d k [] h = refl
by-places g d k (x ∷ l) h = ap₂ ◌∷◌ (ap g (omega arith) ∙ h 0 (omega arith)) (by-places g d (suc k) l (λ i q. ap g (omega arith) ∙ h (suc i) (omega arith)))

pub from-below : (m z : ℕ) → z ∈ from 0 m → z < m
from-below m z i = let h = ltb-true z (0 + m) (both (leb 0 z) (ltb z (0 + m)) (sym (from-mem 0 m z) ∙ mem-of i)).1 in omega arith

pub below-from : (m z : ℕ) → z < m → z ∈ from 0 m
below-from m z h = of_mem z (from 0 m) (from-mem 0 m z ∙ together (leb 0 z) (ltb z (0 + m)) (le-leb 0 z (omega arith)) (lt-ltb z (0 + m) (omega arith)))

-- ---- the model of a network

module _ (r : Net) (w : Lawful r) where
  abbrev blocks : List Block
  blocks = (model_of r).blocks

  model-blocks : (model_of r).blocks ≡ turn_blocks variable r.inputs (divisor_cubes r) ++ turn_blocks output 0 r.outputs
  unfolding model_of
  model-blocks = ap₂ ◌++◌ (ap (map divisor_block) w.good.in_turn ∙ turn-divisors r.inputs (divisor_cubes r)) (turn-outputs 0 r.outputs)

  blocks-kept : (p : Name → Bool) → keep (by_name p) blocks
      ≡ keep (by_name p) (turn_blocks variable r.inputs (divisor_cubes r)) ++ keep (by_name p) (turn_blocks output 0 r.outputs)
  blocks-kept p = ap (keep (by_name p)) model-blocks
      ∙ keep_append (by_name p) (turn_blocks variable r.inputs (divisor_cubes r)) (turn_blocks output 0 r.outputs)

  -- a divisor, and an output, has one block, an input none
  divisor-block : (i : ℕ) → i < length (divisor_cubes r)
      → blocks_for (variable (r.inputs + i)) blocks ≡ record { name = variable (r.inputs + i); cubes = get_or (divisor_cubes r) i [] } ∷ []
  divisor-block i h =
      blocks-kept (same_name (variable (r.inputs + i)))
      ∙ ap₂ ◌++◌ (turn_one variable (λ v u. refl) r.inputs (divisor_cubes r) i (r.inputs + i) h refl)
      (turn-none (same_name (variable (r.inputs + i))) output 0 r.outputs (λ u q. refl))

  output-block : (j : ℕ) → j < length r.outputs → blocks_for (output j) blocks ≡ record { name = output j; cubes = get_or r.outputs j [] } ∷ []
  output-block j h =
      blocks-kept (same_name (output j))
      ∙ ap₂ ◌++◌ (turn-none (same_name (output j)) variable r.inputs (divisor_cubes r) (λ u q. refl))
      (turn_one output (λ v u. refl) 0 r.outputs j j h (omega arith))

  input-block : (v : ℕ) → v < r.inputs → blocks_for (variable v) blocks ≡ []
  input-block v h =
      blocks-kept (same_name (variable v))
      ∙ ap₂ ◌++◌ (turn-none (same_name (variable v)) variable r.inputs (divisor_cubes r) (λ u q. ne_eqb v u (λ e. omega arith)))
      (turn-none (same_name (variable v)) output 0 r.outputs (λ u q. refl))

  -- where a block comes from
  block_out : (b : Block) → b ∈ blocks → ((e : Node) × (e ∈ r.divisors) × (b ≡ divisor_block e))
      ⊎ ((j : ℕ) × (j < length r.outputs) × ((f : List (List ℕ)) × (f ∈ r.outputs) × (b ≡ record { name = output j; cubes = f })))
  unfolding model_of
  block_out b m = elim (Memᴰ.append_cases (map divisor_block r.divisors) m) [
    | inl i ↦ inl (map-out divisor_block r.divisors i)
    | inr i ↦ let q = turn-out output 0 r.outputs b (subst (b ∈◌) (turn-outputs 0 r.outputs) i) in inr (q.0, omega (arith, q.1), q.2)
  ]

  divisor-in : (e : Node) → e ∈ r.divisors → divisor_block e ∈ blocks
  unfolding model_of
  divisor-in e m = Memᴰ.append_left (output_blocks 0 r.outputs) (map-in divisor_block m)

  -- ---- the variables that stand in the text

  block-names : (b : Block) → b ∈ blocks → (v : ℕ) → v ∈ named_in b → v < variables r
  block-names b m v i = elim (block_out b m) [
    | inl (e, j, p) ↦ elim (Memᴰ.append_cases (reads_of e.cubes) (subst (λ z. v ∈ named_in z) p i)) [
      | inl k ↦ w.good.known e.cubes (in-divisor r j) v (reads-out e.cubes v (mem-of k))
      | inr k ↦ known-below r (divisor_cubes r) w.good.in_turn v (inr (e, j, Memᴰ.eq_of_singleton k))
    ]
    | inr (j, h, (f, k, p)) ↦ w.good.known f (in-output r k) v (reads-out f v (mem-of (subst (λ z. v ∈ named_in z) p i)))
  ]

  standing-below : (v : ℕ) → v ∈ standing (model_of r) → v < variables r
  unfolding model_of
  standing-below v m = elim (Memᴰ.append_cases (from 0 r.inputs) m) [
    | inl i ↦ omega (arith, from-below r.inputs v i)
    | inr i ↦ let q = gathered-out named_in blocks i in block-names q.0 q.1 v q.2
  ]

  below-standing : (v : ℕ) → v < variables r → v ∈ standing (model_of r)
  unfolding model_of
  below-standing v h = elim (below-known r (divisor_cubes r) w.good.in_turn v h) [
    | inl k ↦ Memᴰ.append_left _ (below-from r.inputs v k)
    | inr (e, m, p) ↦ Memᴰ.append_right (from 0 r.inputs)
        (gathered-in named_in (divisor-in e m) (Memᴰ.append_right (reads_of e.cubes) (here p)))
  ]

  -- below each, all of them stand
  pub model-gapless : gapless (model_of r) ≡ true
  unfolding gapless
  model-gapless =
      all_in (λ v. all (λ u. mem u (standing (model_of r))) (from 0 v)) (standing (model_of r)) (λ v m.
      all_in (λ u. mem u (standing (model_of r))) (from 0 v) (λ u i.
      mem-of (below-standing u (omega (arith, standing-below v m, from-below v u i)))))

  -- ---- each name is defined once

  input-time : (v : ℕ) (b : Bool) → ltb v r.inputs ≡ b → input_times (model_of r).inputs (variable v) ≡ cond b 1 0
  unfolding model_of
  input-time v b e = ap (λ z. cond z 1 0) e

  variable-once : (v : ℕ) → v < variables r → times_defined (model_of r) (variable v) ≡ 1
  unfolding times_defined
  variable-once v h = elim (decided (ltb v r.inputs)) [
    | inl t ↦ ap₂ ◌+◌ (input-time v true t) (ap length (input-block v (ltb-true v r.inputs t)))
    | inr t ↦
        let k = ltb-false v r.inputs t in
        let e : v ≡ r.inputs + (v - r.inputs) = omega arith in
        ap₂ ◌+◌ (input-time v false t) (ap (λ u. length (blocks_for (variable u) blocks)) e
        ∙ ap length (divisor-block (v - r.inputs) (omega (arith, length-map r.divisors (λ (g : Node). g.cubes)))))
  ]

  output-once : (j : ℕ) → j < length r.outputs → times_defined (model_of r) (output j) ≡ 1
  unfolding times_defined
  output-once j h = ap (0 +◌) (ap length (output-block j h))

  pub model-defined : defined_once (model_of r) ≡ true
  unfolding defined_once model_of
  model-defined = together _ _
      (all_in _ (standing (model_of r)) (λ v m. eq-eqb _ 1 (variable-once v (standing-below v m))))
      (all_in _ (from 0 (length r.outputs)) (λ j m. eq-eqb _ 1 (output-once j (from-below (length r.outputs) j m))))

  module _ (o : OneOrder r) where
    -- ---- the form

    node-cubes : {f : List (List ℕ)} → f ∈ nodes r → (c : List ℕ) → c ∈ f → is_cube c ≡ true
    node-cubes {f} m c i = all-out is_cube i (both (all is_cube f) (pairwise loose f) (w.good.expressions f m)).0

    pub model-formed : Formed (model_of r)
    unfolding model_of
    model-formed b m = elim (block_out b m) [
      | inl (e, i, p) ↦ record {
        cubes = λ c k. node-cubes (in-divisor r i) c (subst (λ (z : Block). c ∈ z.cubes) p k);
        earlier = λ v q.
            let n : e.number ≡ v = cc (ap (λ (z : Block). z.name) p) in
            passes-read (λ u. ltb u v) b.cubes (λ u d. lt-ltb u v (omega (arith, o.earlier e i u (subst (λ (z : Block). Reads z.cubes u) p d))));
        among = λ j q. let z : ◌≡◌ {A = ℕ} 0 1 = cc (ap (λ (z : Block). z.name) p) in absurd (omega arith);
      }
      | inr (j, h, (f, i, p)) ↦ record {
        cubes = λ c k. node-cubes (in-output r i) c (subst (λ (z : Block). c ∈ z.cubes) p k);
        earlier = λ v q. let z : ◌≡◌ {A = ℕ} 0 1 = cc (ap (λ (z : Block). z.name) p) in absurd (omega arith);
        among = λ k q. let n : j ≡ k = cc (ap (λ (z : Block). z.name) p) in omega arith;
      }
    ]

    -- ---- the network

    lone-cubes : (a : Name) (f : List (List ℕ)) → f ∈ nodes r → blocks_for a blocks ≡ record { name = a; cubes = f } ∷ [] → cubes_for a blocks ≡ f
    unfolding cubes_for
    lone-cubes a f m e = ap (λ z. sort (flat (map (λ (b : Block). b.cubes) z))) e ∙ ap sort (append-nil f) ∙ ordered-sort f (o.cubes f m)

    divisor-cubes : (i : ℕ) → i < length (divisor_cubes r) → cubes_for (variable (r.inputs + i)) blocks ≡ get_or (divisor_cubes r) i []
    divisor-cubes i h = lone-cubes _ _ (Memᴰ.append_right r.outputs (at_in (divisor_cubes r) i [] h)) (divisor-block i h)

    output-cubes : (j : ℕ) → j < length r.outputs → cubes_for (output j) blocks ≡ get_or r.outputs j []
    output-cubes j h = lone-cubes _ _ (in-output r (at_in r.outputs j [] h)) (output-block j h)

    divisors-many : divisors_in (model_of r) ≡ length (divisor_cubes r)
    divisors-many =
        let own = keep (by_name is_variable) (turn_blocks variable r.inputs (divisor_cubes r)) in
        ap length (blocks-kept is_variable ∙ ap (own ++◌) (turn-none is_variable output 0 r.outputs (λ u h. refl)) ∙ append-nil own)
        ∙ turn-all is_variable variable r.inputs (divisor_cubes r) (λ u. refl)

    outputs-same : map (λ j. cubes_for (output j) blocks) (from 0 (length r.outputs)) ≡ r.outputs
    outputs-same =
        let g : ℕ → List (List ℕ) = λ j. cubes_for (output j) blocks in
        by-places g [] 0 r.outputs (λ j h. ap g (omega arith) ∙ output-cubes j h)

    divisors-same : numbered r.inputs (map (λ v. cubes_for (variable v) blocks) (from r.inputs (divisors_in (model_of r)))) ≡ r.divisors
    divisors-same =
        ap (λ k. numbered r.inputs (map (λ v. cubes_for (variable v) blocks) (from r.inputs k))) divisors-many
        ∙ ap (numbered r.inputs) (by-places (λ v. cubes_for (variable v) blocks) [] r.inputs (divisor_cubes r) divisor-cubes)
        ∙ sym w.good.in_turn

    -- what is read off is the network
    pub model-net : net_in (model_of r) ≡ r
    unfolding net_in model_of
    model-net = λ i. record { inputs = r.inputs; outputs = outputs-same i; divisors = divisors-same i }
