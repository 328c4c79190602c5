-- What a network's fields mean: the slots in use alone count, the counts cut the cubes into nodes, and the test `rules` says what the
-- paper's rules say. Assumes nothing.
use Prim.Native.Nat.{ℕ, ◌+◌, ◌-◌, ◌<◌, ◌≤◌}
use mathlib.Core.Path.{◌≡◌, refl, sym, ap, ap₂, ◌∙◌}
use mathlib.Core.Logic.{◌↔◌}
use mathlib.Core.Bool.{Bool, true, cond, ◌&&◌}
use mathlib.Core.List.{List, [], ◌∷◌, ◌++◌}
use native.Mathlib.Omega.{arith}
use lib.Dec.{leb}
use lib.ListN.{length, get_or, take, drop, length-take, length-drop, take-append-drop}
use lib.Seq.{length-take-le, get_or-take, get_or-drop, take-take, take-add}
use borrow.Author.Tests.{leb-true, le-leb, eqb-true, eq-eqb}
use Rattle.sets.specs.Lists.{all, total}
use Rattle.sets.specs.Masks.{bit, packed}
use Rattle.sets.proofs.Truth.{both, together}
use Rattle.sets.proofs.Lists.{all_in, all-out, all_append}
use Rattle.sets.proofs.Rows.{drop-take}
use Rattle.expression.specs.{Words.cubes_of, Expression.expression}
use Rattle.network.specs.Net.{Net, cubes_at, nodes, over, cube_count, literal_count}
use Rattle.network.specs.{Listing.listing, Held.most_cubes, Held.most_literals, Handed.Shaped}
use Rattle.network.specs.Evaluation.{settle, answers, evaluate}
use Rattle.network.specs.Meaning.{Consistent, Distinct, Closed, Sound}
use Rattle.network.specs.Held.{numbered, number_at, place_at, used, net_of, sized, up_to, ruled, rules, most_inputs, most_outputs, most_variables}
use Rattle.network_nodes.{specs.Nodes.cut, proofs.Cutting.cut-length, proofs.Cutting.cut-lengths}
use Rattle.network.specs.Rules.{Alike, InTurn, Follows}
use Rattle.network.specs.{Answers.evaluated, declared.Network.Network, declared.Number.TheVariants.Is, declared.Number.TheVariants.No}
use Rattle.network.proofs.Numbering.{numbered-length, numbered-cubes, numbered-at, numbered-distinct, known-below, below-known, over-in}
use Rattle.network.proofs.Numbering.{over-out, nodes-closed, number-place}
use Rattle.network.proofs.Listings.{listing-acyclic, good-sound}
use Rattle.network.proofs.Evaluating.{unique, evaluate-settled, evaluate-read}

-- ---- the slots in use

-- a test of all cubes is that of those in use
pub cut_all : (p : List ℕ → Bool) (ns : List ℕ) (f : List (List ℕ)) → all (all p) (cut ns f) ≡ all p (take (total (λ c. c) ns) f)
unfolding cut
cut_all p [] f = refl
cut_all p (n ∷ ns) f =
    rw (take-add n (total (λ c. c) ns) f, all_append p (take n f) (take (total (λ c. c) ns) (drop n f))) (ap (all p (take n f) &&◌) (cut_all p ns (drop n f)))

-- cubes past those in use do not count
pub cut-used : (ns : List ℕ) (f : List (List ℕ)) → cut ns (take (total (λ c. c) ns) f) ≡ cut ns f
unfolding cut
cut-used [] f = refl
cut-used (n ∷ ns) f = ap₂ ◌∷◌ (take-take n (n + total (λ c. c) ns) f (omega arith)) (rw (drop-take n (total (λ c. c) ns) f) (cut-used ns (drop n f)))

-- the net of so many inputs and outputs and of these nodes
abbrev held : ℕ → ℕ → List (List (List ℕ)) → Net
held i o fs = record { inputs = i; outputs = take o fs; divisors = numbered i (drop o fs) }

-- two networks with the same slots in use mean the same
module _ (n m : Network) (e : Alike n m) where
  nodes-same : cut (used n) (cubes_of n.words) ≡ cut (used m) (cubes_of m.words)
  nodes-same = sym (cut-used (used n) (cubes_of n.words)) ∙ ap₂ cut e.counts e.cubes ∙ cut-used (used m) (cubes_of m.words)

  pub held_same : net_of n ≡ net_of m
  held_same =
      ap₂ (λ (i o : ℕ). held i o (cut (used n) (cubes_of n.words))) e.inputs e.outputs
      ∙ ap (held m.inputs m.outputs) nodes-same

  pub rules-same : rules n ≡ rules m
  unfolding rules
  rules-same = let s : sized n ≡ sized m = rw (e.counts, e.inputs, e.outputs, e.divisors) in ap₂ ◌&&◌ s (ap ruled held_same)

  pub evaluated-same : (s : ℕ) → evaluated n s ≡ evaluated m s
  unfolding evaluated
  evaluated-same s = ap₂ (λ (b : Bool) (k : Net). cond b (Is (evaluate k s)) (No 10)) rules-same held_same

-- ---- the nodes

module _ (n : Network) where
  -- outputs, then divisors
  pub nodes-held : nodes (net_of n) ≡ cut (used n) (cubes_of n.words)
  nodes-held =
      ap (take n.outputs (cut (used n) (cubes_of n.words)) ++◌) (numbered-cubes n.inputs (drop n.outputs (cut (used n) (cubes_of n.words))))
      ∙ take-append-drop n.outputs (cut (used n) (cubes_of n.words))

  pub output-held : (i : ℕ) → i < n.outputs → get_or (net_of n).outputs i [] ≡ get_or (cut (used n) (cubes_of n.words)) i []
  output-held i h = get_or-take n.outputs (cut (used n) (cubes_of n.words)) i [] h

  pub divisor-held : (i : ℕ) → cubes_at (number_at n.inputs i) (net_of n).divisors ≡ get_or (cut (used n) (cubes_of n.words)) (n.outputs + i) []
  divisor-held i =
      numbered-at n.inputs (drop n.outputs (cut (used n) (cubes_of n.words))) i ∙ get_or-drop n.outputs (cut (used n) (cubes_of n.words)) i []

  -- a divisor's expression stands at the place of its number
  pub place-held : (v : ℕ) → n.inputs ≤ v
      → cubes_at v (net_of n).divisors ≡ get_or (cut (used n) (cubes_of n.words)) (place_at n.inputs n.outputs v) []
  place-held v h = ap (λ u. cubes_at u (net_of n).divisors) (sym (number-place n.inputs 0 v h) ∙ omega arith) ∙ divisor-held (v - n.inputs)

  pub cubes-held : total (λ c. c) (used n) ≤ length (cubes_of n.words) → cube_count (net_of n) ≡ total (λ c. c) (used n)
  cubes-held h = ap (total length) nodes-held ∙ cut-lengths (used n) (cubes_of n.words) h

  -- as many outputs and divisors as it says, where there are counts for them
  module _ (h : n.outputs + n.divisors ≤ length n.counts) where
    used-length : length (cut (used n) (cubes_of n.words)) ≡ n.outputs + n.divisors
    used-length = cut-length (used n) (cubes_of n.words) ∙ length-take-le (n.outputs + n.divisors) n.counts h

    pub outputs-held : length (net_of n).outputs ≡ n.outputs
    outputs-held = length-take-le n.outputs (cut (used n) (cubes_of n.words)) (omega (arith, used-length))

    pub divisors-held : length (net_of n).divisors ≡ n.divisors
    divisors-held = numbered-length n.inputs (drop n.outputs (cut (used n) (cubes_of n.words))) ∙ rw (length-drop, used-length) (omega arith)

-- ---- the rules

pub up-out : (most k : ℕ) → up_to most k ≡ true → (1 ≤ k) × (k ≤ most)
up-out most k h = let q = both (leb 1 k) (leb k most) h in (leb-true 1 k q.0, leb-true k most q.1)

pub up_in : (most k : ℕ) → (1 ≤ k) × (k ≤ most) → up_to most k ≡ true
up_in most k h = together (leb 1 k) (leb k most) (le-leb 1 k h.0) (le-leb k most h.1)

module _ (n : Network) where
  -- what the tests say, part by part
  pub record Measured : Type 0 where
    pub inputs : (1 ≤ n.inputs) × (n.inputs ≤ most_inputs)
    pub outputs : (1 ≤ n.outputs) × (n.outputs ≤ most_outputs)
    pub few : n.inputs + n.divisors ≤ most_variables
    pub cubes : total (λ c. c) (used n) ≤ most_cubes

  record Tested : Type 0 where
    pub size : Measured
    pub expressions : all expression (nodes (net_of n)) ≡ true
    pub reached : all (over (net_of n)) (nodes (net_of n)) ≡ true
    pub literals : literal_count (net_of n) ≤ most_literals
    pub whole : length (listing (net_of n)) ≡ length (net_of n).divisors

  pub sized-measured : sized n ≡ true → Measured
  sized-measured h =
      let b = both (up_to most_inputs n.inputs) _ h in
      let c = both (up_to most_outputs n.outputs) _ b.1 in
      let d = both (leb (n.inputs + n.divisors) most_variables) _ c.1 in
      record {
        inputs = up-out most_inputs n.inputs b.0;
        outputs = up-out most_outputs n.outputs c.0;
        few = leb-true (n.inputs + n.divisors) most_variables d.0;
        cubes = leb-true (total (λ c. c) (used n)) most_cubes d.1;
      }

  rules-tested : rules n ≡ true → Tested
  unfolding rules ruled
  rules-tested h =
      let a = both (sized n) (ruled (net_of n)) h in
      let e = both (all expression (nodes (net_of n))) _ a.1 in
      let f = both (all (over (net_of n)) (nodes (net_of n))) _ e.1 in
      let g = both (leb (literal_count (net_of n)) most_literals) _ f.1 in
      record {
        size = sized-measured a.0;
        expressions = e.0;
        reached = f.0;
        literals = leb-true (literal_count (net_of n)) most_literals g.0;
        whole = eqb-true (length (listing (net_of n))) (length (net_of n).divisors) g.1;
      }

  tested-rules : Tested → rules n ≡ true
  unfolding rules ruled
  tested-rules t =
      rw (
        up_in most_inputs n.inputs t.size.inputs,
        up_in most_outputs n.outputs t.size.outputs,
        le-leb (n.inputs + n.divisors) most_variables t.size.few,
        le-leb (total (λ c. c) (used n)) most_cubes t.size.cubes,
        t.expressions,
        t.reached,
        le-leb (literal_count (net_of n)) most_literals t.literals,
        eq-eqb (length (listing (net_of n))) (length (net_of n).divisors) t.whole,
      )

  abbrev fs : List (List (List ℕ))
  fs = drop n.outputs (cut (used n) (cubes_of n.words))

  -- the divisors of a network held so are numbered in turn, and so have numbers of their own
  pub held-turn : InTurn (net_of n)
  held-turn = ap (numbered n.inputs) (sym (numbered-cubes n.inputs fs))

  pub held-distinct : Distinct (net_of n)
  held-distinct = numbered-distinct (net_of n) fs refl

  tested-closed : Tested → Closed (net_of n)
  tested-closed t = nodes-closed (net_of n) (over-out (net_of n) (nodes (net_of n)) t.reached)

  -- what evaluation stands on
  pub rules-sound : rules n ≡ true → Sound (net_of n)
  rules-sound h = let t = rules-tested h in record { distinct = held-distinct; closed = tested-closed t; whole = t.whole }

  -- a struct of the sizes that it says follows the rules by the test
  pub lawful-rules : length (net_of n).outputs ≡ n.outputs → length (net_of n).divisors ≡ n.divisors → Follows n → rules n ≡ true
  lawful-rules o d w =
      let l = w.lawful in
      tested-rules (record {
        size = record { inputs = l.inputs; outputs = omega (arith, l.outputs); few = omega (arith, l.within.variables); cubes = w.counted };
        expressions = all_in expression (nodes (net_of n)) l.good.expressions;
        reached = over-in (net_of n) (nodes (net_of n)) (λ f m v r. below-known (net_of n) fs refl v (l.good.known f m v r));
        literals = l.within.literals;
        whole = (good-sound (net_of n) l.good).whole;
      })

  module _ (s : Shaped n) where
    -- a network by the rules has the outputs and divisors that it says
    pub rules-outputs : rules n ≡ true → length (net_of n).outputs ≡ n.outputs
    rules-outputs h = let t = rules-tested h in outputs-held n (omega (arith, s.slots))

    pub rules-divisors : rules n ≡ true → length (net_of n).divisors ≡ n.divisors
    rules-divisors h = let t = rules-tested h in divisors-held n (omega (arith, s.slots))

    rules-into : rules n ≡ true → Follows n
    rules-into h = let t = rules-tested h in record {
      counted = t.size.cubes;
      lawful = record {
        inputs = t.size.inputs;
        outputs = omega (arith, rules-outputs h);
        within = record {
          variables = omega (arith, rules-divisors h);
          cubes = omega (arith, cubes-held n (omega (arith, s.places)));
          literals = t.literals;
        };
        good = record {
          expressions = λ f m. all-out expression m t.expressions;
          known = λ f m v r. known-below (net_of n) fs refl v (over-out (net_of n) (nodes (net_of n)) t.reached f m v r);
          in_turn = held-turn;
          acyclic = listing-acyclic (net_of n) held-distinct t.whole;
        };
      };
    }

    -- few enough of them that each has a count
    follows-few : Follows n → n.outputs + n.divisors ≤ length n.counts
    follows-few w =
        let l = w.lawful in
        let u = cut-length (used n) (cubes_of n.words) ∙ length-take (n.outputs + n.divisors) n.counts in
        let o = length-take n.outputs (cut (used n) (cubes_of n.words)) in
        let d = numbered-length n.inputs fs ∙ length-drop n.outputs (cut (used n) (cubes_of n.words)) in
        omega (arith, s.slots, l.inputs, l.outputs, l.within.variables, u, o, d)

    rules-back : Follows n → rules n ≡ true
    rules-back w = lawful-rules (outputs-held n (follows-few w)) (divisors-held n (follows-few w)) w

    -- the test is passed by exactly the networks that follow the rules
    pub rules-iff : (rules n ≡ true) ↔ Follows n
    rules-iff = (rules-into, rules-back)

    -- on each setting one assignment of the variables fits, and the answer is read off it
    pub rules-evaluate : rules n ≡ true → (s : ℕ) → (a : ℕ → Bool) × Consistent (net_of n) (bit s) a
        × ((b : ℕ → Bool) → Consistent (net_of n) (bit s) b → (v : ℕ) → v < n.inputs + n.divisors → a v ≡ b v)
        × (evaluated n s ≡ Is (packed (answers (net_of n) a)))
    unfolding evaluated
    rules-evaluate h s =
        let o = rules-sound h in
        let a = settle (net_of n) (listing (net_of n)) (bit s) in
        let c = evaluate-settled (net_of n) o s in (
          a,
          c,
          λ b k v l. unique (net_of n) o.whole (bit s) a b c k v (below-known (net_of n) fs refl v (omega (arith, rules-divisors h))),
          rw h (ap Is (evaluate-read (net_of n) o s a c)),
        )
