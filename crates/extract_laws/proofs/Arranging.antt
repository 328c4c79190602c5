-- Putting a network's cubes in order keeps what it evaluates to and all else; once is enough, and after a step it changes nothing. Assumes nothing.
use Prim.Native.Nat.{ℕ}
use mathlib.Core.Path.{◌≡◌, refl, sym}
use mathlib.Core.{Logic.inl, Logic.inr, Bool.true}
use mathlib.Core.List.Memᴰ
use mathlib.Core.List.{List, [], ◌∷◌, map}
use native.Mathlib.Omega.{arith}
use lib.ListN.{length}
use Rattle.sets.{specs.Sets.without, proofs.Lists.◌∈◌, proofs.Lists.map-out, proofs.Ordering.before-asym}
use Rattle.expression.specs.Expression.{place, sort, ordered, literals_of}
use Rattle.expression.proofs.Sorting.{sort-in, sort-out, total-sort, sort-length, sort-sort, expression-sort}
use Rattle.network.specs.Net.{Node, Net, nodes, variables, cube_count, literal_count}
use Rattle.network.specs.{Evaluation.evaluate, Meaning.Along.end, Meaning.Along.on, Map.on_node}
use Rattle.network.specs.Meaning.{SameCubes, Along, SameNode, Reordered}
use Rattle.network.proofs.Evaluating.{evaluate-order}
use Rattle.network.proofs.Mapping.{mapped-nodes, mapped-node, mapped-outputs, mapped-divisors, mapped-total, mapped-good, mapped-fixed}
use Rattle.extract_laws.specs.Divisor.{Divisor, pair, own, rewrite}
use Rattle.extract_laws.specs.Extract.{gather, pairs_in, sum_of, sums_in, candidates, step}
use Rattle.extract_laws.specs.{Run.in_order, Meaning.Good}
use Rattle.extract_laws.proofs.Making.{step-node}
use Rattle.extract_laws.proofs.Offering.{gather-out, sums-out, sum-of-out}

same-sort : (f : List (List ℕ)) → SameCubes f (sort f)
same-sort f = record { into = λ c m. sort-in m; back = λ c m. sort-out f m }

module _ (n : Net) where
  -- each node has its cubes in order
  pub in-order-nodes : nodes (in_order n) ≡ map sort (nodes n)
  unfolding in_order
  in-order-nodes = mapped-nodes sort n

  pub in-order-node : (f : List (List ℕ)) → f ∈ nodes (in_order n) → (h : List (List ℕ)) × (h ∈ nodes n) × (f ≡ sort h)
  unfolding in_order
  in-order-node f m = mapped-node sort n f m

  -- literals, cubes, inputs, outputs and divisors are as many as before
  pub in-order-literals : literal_count (in_order n) ≡ literal_count n
  unfolding in_order
  in-order-literals = mapped-total sort n literals_of (λ f m. total-sort length f)

  pub in-order-cubes : cube_count (in_order n) ≡ cube_count n
  unfolding in_order
  in-order-cubes = mapped-total sort n length (λ f m. sort-length f)

  pub in-order-inputs : (in_order n).inputs ≡ n.inputs
  unfolding in_order
  in-order-inputs = refl

  pub in-order-outputs : length (in_order n).outputs ≡ length n.outputs
  unfolding in_order
  in-order-outputs = mapped-outputs sort n

  pub in-order-divisors : length (in_order n).divisors ≡ length n.divisors
  unfolding in_order
  in-order-divisors = mapped-divisors sort n

  pub in-order-variables : variables (in_order n) ≡ variables n
  in-order-variables = omega (arith, in-order-inputs, in-order-divisors)

  in-order-same : Reordered n (in_order n)
  unfolding in_order
  in-order-same = record { inputs = refl; outputs = outs n.outputs; divisors = divs n.divisors }
    where
      outs : (l : List (List (List ℕ))) → Along SameCubes l (map sort l)
      outs [] = end
      outs (f ∷ l) = on (same-sort f) (outs l)

      divs : (l : List Node) → Along SameNode l (map (on_node sort) l)
      divs [] = end
      divs (e ∷ l) = on (refl, same-sort e.cubes) (divs l)

  -- outputs are the same for every setting
  pub in-order-evaluate : (s : ℕ) → evaluate (in_order n) s ≡ evaluate n s
  in-order-evaluate s = sym (evaluate-order n (in_order n) in-order-same s)

  -- and the rules are kept
  pub in-order-good : Good n → Good (in_order n)
  unfolding in_order
  in-order-good g = mapped-good sort n (λ f m v (c, i, r). (c, sort-out f i, r)) (λ f m. (expression-sort f (g.expressions f m)).0) g

  -- every node is in cube order
  pub in-order-ordered : Good n → (f : List (List ℕ)) → f ∈ nodes (in_order n) → ordered f ≡ true
  in-order-ordered g f m = let q = in-order-node f m in rw q.2 (expression-sort q.0 (g.expressions q.0 q.1)).1

-- ---- where the cubes are in order already

in-order-fixed : (n : Net) → ((f : List (List ℕ)) → f ∈ nodes n → sort f ≡ f) → in_order n ≡ n
unfolding in_order
in-order-fixed n k = mapped-fixed sort n k

-- once is enough
pub in-order-once : (n : Net) → in_order (in_order n) ≡ in_order n
in-order-once n = in-order-fixed (in_order n) (λ f m. let q = in-order-node n f m in rw q.2 (sort-sort q.0))

-- ---- after a step

pairs-arranged : (c : List ℕ) (d : Divisor) → d ∈ pairs_in c → sort (own d) ≡ own d
unfolding pairs_in sort place
pairs-arranged [] d m = absurd (Memᴰ.not-nil m)
pairs-arranged (p ∷ c) d m =
    elim (Memᴰ.append_cases (map (pair p) c) m) [ inl i ↦ let r = map-out (pair p) c i in rw r.2 | inr i ↦ pairs-arranged c d i ]

sums-arranged : (c e : List ℕ) (d : Divisor) → d ∈ sum_of c e → sort (own d) ≡ own d
unfolding sort place
sums-arranged c e d m = elim (sum-of-out c e d m).2 [
  | inl (p, l) ↦ rw (p, before-asym (without c e) (without e c) l)
  | inr (p, l) ↦ rw (p, l)
]

-- a step leaves every node in order, whatever the network
pub step-arranged : (n : Net) (d : Divisor) → d ∈ candidates n → in_order (step n d) ≡ step n d
unfolding candidates rewrite
step-arranged n d m = in-order-fixed (step n d) (λ f i. elim (step-node n d f i) [ inl p ↦ rw p own-sorted | inr (h, k, p) ↦ rw p (sort-sort _) ])
  where
    own-sorted : sort (own d) ≡ own d
    own-sorted = elim (Memᴰ.append_cases (gather (gather pairs_in) (nodes n)) m) [
      | inl i ↦ let r = gather-out (gather pairs_in) (nodes n) i in let q = gather-out pairs_in r.0 r.2 in pairs-arranged q.0 d q.2
      | inr i ↦ let r = gather-out sums_in (nodes n) i in let q = sums-out r.0 d r.2 in sums-arranged q.0 q.1 d q.4
    ]
