-- A network with every expression changed: its nodes and sizes; the rules are kept where what is read is, and evaluation where the values are. Assumes nothing.
use Prim.Native.Nat.{ℕ, suc, ◌+◌}
use mathlib.Core.Path.{◌≡◌, refl, sym, ap, ◌∙◌, subst}
use mathlib.Core.Bool.{Bool, true}
use mathlib.Core.List.{List, [], ◌∷◌, ◌++◌, map, map-append}
use native.Mathlib.Omega.{arith}
use lib.ListN.{length, length-map}
use Rattle.sets.specs.{Lists.total, Masks.bit, Masks.packed}
use Rattle.sets.proofs.Lists.{◌∈◌, map-in, map-out, map-cong, map-map, map-fixed, total-map, total-const}
use Rattle.expression.specs.{Expression.expression, Value.lit, Value.value}
use Rattle.network.specs.Net.{Node, Net, nodes, variables}
use Rattle.network.specs.{Listing.listing, Meaning.Through.itself, Meaning.Through.others, Held.numbered}
use Rattle.network.specs.Evaluation.{settle, answers, evaluate}
use Rattle.network.specs.Meaning.{Reads, Through, Consistent}
use Rattle.network.specs.{Rules.InTurn, Rules.Good, Map.on_node, Map.map_nodes}
use Rattle.network.proofs.{Numbering.in-output, Numbering.in-divisor, Listings.good-sound}
use Rattle.network.proofs.Evaluating.{evaluate-settled, evaluate-read}

module _ (g : List (List ℕ) → List (List ℕ)) where
  -- ---- divisors

  pub cubes-map : (l : List Node) → map (λ (e : Node). e.cubes) (map (on_node g) l) ≡ map g (map (λ (e : Node). e.cubes) l)
  cubes-map [] = refl
  cubes-map (e ∷ l) = ap (g e.cubes ∷◌) (cubes-map l)

  pub numbered-map : (v : ℕ) (fs : List (List (List ℕ))) → map (on_node g) (numbered v fs) ≡ numbered v (map g fs)
  unfolding numbered
  numbered-map v [] = refl
  numbered-map v (f ∷ fs) = ap (record { number = v; cubes = g f } ∷◌) (numbered-map (suc v) fs)

  module _ (n : Net) where
    -- ---- nodes and sizes

    pub mapped-nodes : nodes (map_nodes g n) ≡ map g (nodes n)
    mapped-nodes = ap (map g n.outputs ++◌) (cubes-map n.divisors) ∙ sym (map-append g n.outputs (map (λ (e : Node). e.cubes) n.divisors))

    pub mapped-node : (f : List (List ℕ)) → f ∈ nodes (map_nodes g n) → (h : List (List ℕ)) × (h ∈ nodes n) × (f ≡ g h)
    mapped-node f m = map-out g (nodes n) (rw mapped-nodes at m)

    pub mapped-outputs : length (map_nodes g n).outputs ≡ length n.outputs
    mapped-outputs = length-map n.outputs g

    pub mapped-divisors : length (map_nodes g n).divisors ≡ length n.divisors
    mapped-divisors = length-map n.divisors (on_node g)

    pub mapped-variables : variables (map_nodes g n) ≡ variables n
    mapped-variables = ap (n.inputs +◌) mapped-divisors

    -- a sum over the nodes, where g keeps each of its parts
    pub mapped-total : (m : List (List ℕ) → ℕ) → ((f : List (List ℕ)) → f ∈ nodes n → m (g f) ≡ m f) → total m (nodes (map_nodes g n)) ≡ total m (nodes n)
    mapped-total m h =
        ap (total m) mapped-nodes ∙ total-map m g (nodes n) ∙ omega (arith, total-const (λ f. m (g f)) m 0 (nodes n) (λ f i. omega (arith, h f i)))

    pub mapped-turn : InTurn n → InTurn (map_nodes g n)
    mapped-turn t =
        ap (map (on_node g)) t
        ∙ numbered-map n.inputs (map (λ (e : Node). e.cubes) n.divisors)
        ∙ ap (numbered n.inputs) (sym (cubes-map n.divisors))

    -- where g changes no expression
    pub mapped-fixed : ((f : List (List ℕ)) → f ∈ nodes n → g f ≡ f) → map_nodes g n ≡ n
    mapped-fixed k = λ i. record {
      inputs = n.inputs;
      outputs = map-fixed g n.outputs (λ f m. k f (in-output n m)) i;
      divisors = map-fixed (on_node g) n.divisors (λ e m. λ j. record { number = e.number; cubes = k e.cubes (in-divisor n m) j }) i;
    }

    -- ---- the rules, where g reads no more

    module _ (reads : (f : List (List ℕ)) → f ∈ nodes n → (v : ℕ) → Reads (g f) v → Reads f v) where
      old-node : (e : Node) → e ∈ (map_nodes g n).divisors → (d : Node) × (d ∈ n.divisors) × (e ≡ on_node g d)
      old-node e m = map-out (on_node g) n.divisors m

      old-reads : {e h : Node} (m : e ∈ (map_nodes g n).divisors) (i : h ∈ (map_nodes g n).divisors) → Reads e.cubes h.number
          → Reads (old-node e m).0.cubes (old-node h i).0.number
      old-reads {e} {h} m i r =
          let (d, j, p) = old-node e m in
          let (b, k, q) = old-node h i in
          reads d.cubes (in-divisor n j) b.number
          (subst (λ (x : Node). Reads x.cubes b.number) p (subst (λ (x : Node). Reads e.cubes x.number) q r))

      -- what is read through others was read so before
      pub mapped-through : {u v : ℕ} → Through (map_nodes g n) u v → Through n u v
      mapped-through (itself {e = e} {g = h} m i r) =
          let d = old-node e m in
          let b = old-node h i in
          rw (ap (λ (x : Node). x.number) d.2, ap (λ (x : Node). x.number) b.2) (itself d.1 b.1 (old-reads m i r))
      mapped-through {v = v} (others {e = e} {g = h} m i r t) =
          let d = old-node e m in
          let b = old-node h i in
          rw (ap (λ (x : Node). x.number) d.2)
          (others d.1 b.1 (old-reads m i r) (subst (λ (x : Node). Through n x.number v) b.2 (mapped-through t)))

      pub mapped-good : ((f : List (List ℕ)) → f ∈ nodes n → expression (g f) ≡ true) → Good n → Good (map_nodes g n)
      mapped-good k w = record {
        expressions = λ f m. let q = mapped-node f m in rw q.2 (k q.0 q.1);
        known = λ f m v r.
            let q = mapped-node f m in omega (arith, mapped-variables, w.known q.0 q.1 v (reads q.0 q.1 v (subst (λ h. Reads h v) q.2 r)));
        in_turn = mapped-turn w.in_turn;
        acyclic = λ v t. w.acyclic v (mapped-through t);
      }

    -- ---- evaluation, where g keeps the values

    module _ (a : ℕ → Bool) (same : (f : List (List ℕ)) → f ∈ nodes n → value (lit a) (g f) ≡ value (lit a) f) where
      pub mapped-consistent : (s : ℕ → Bool) → Consistent (map_nodes g n) s a → Consistent n s a
      mapped-consistent s c = record {
        inputs = c.inputs;
        divisors = λ e i. c.divisors (on_node g e) (map-in (on_node g) i) ∙ same e.cubes (in-divisor n i);
      }

      pub mapped-answers : answers (map_nodes g n) a ≡ answers n a
      mapped-answers = map-map (value (lit a)) g n.outputs ∙ map-cong (λ f. value (lit a) (g f)) (value (lit a)) n.outputs (λ f i. same f (in-output n i))

    pub mapped-evaluate : Good n → Good (map_nodes g n) → ((a : ℕ → Bool) (f : List (List ℕ)) → f ∈ nodes n → value (lit a) (g f) ≡ value (lit a) f)
        → (s : ℕ) → evaluate (map_nodes g n) s ≡ evaluate n s
    mapped-evaluate w k same s =
        let a = settle (map_nodes g n) (listing (map_nodes g n)) (bit s) in
        let o = good-sound (map_nodes g n) k in
        let c = evaluate-settled (map_nodes g n) o s in
        evaluate-read (map_nodes g n) o s a c
        ∙ ap packed (mapped-answers a (same a))
        ∙ sym (evaluate-read n (good-sound n w) s a (mapped-consistent a (same a) (bit s) c))
