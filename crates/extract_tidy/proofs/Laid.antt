-- Nodes put in cube order one after the other are those of the network in cube order. Assumes nothing.
use Prim.Native.Nat.{ℕ, ◌+◌, ◌-◌, ◌<◌, ◌≤◌}
use mathlib.Core.Path.{◌≡◌, sym, ap, ◌∙◌, subst}
use mathlib.Core.Bool.{true}
use mathlib.Core.List.{List, [], ◌∷◌, map}
use native.Mathlib.Omega.{arith}
use lib.ListN.{length, get_or, take, drop, set, replicate, length-map, length-append, length-replicate}
use lib.Seq.{take_all}
use Rattle.std.proofs.lemmas.List.{take-map}
use Rattle.sets.{specs.Lists.total, proofs.Rows.take_next, proofs.Rows.get_d_map}
use Rattle.sets.proofs.Lists.{total-append, total-map, total-le, total-take-le}
use Rattle.expression.specs.Words.{cubes_of, Placed, fitting}
use Rattle.expression.specs.Expression.{sort}
use Rattle.expression.proofs.Placing.{placed-as, placed-fitting, placed-sort}
use Rattle.network_nodes.{proofs.Cutting.cut-lengths}
use Rattle.network.specs.Held.{used, net_of, rules}
use Rattle.network.specs.Handed.{flat, cube_slots, Shaped, LaidNodes, Holds}
use Rattle.network.specs.Parts.{nodes_of, held_in, Limited}
use Rattle.network.{specs.declared.Network.Network, proofs.Handing.flat-length, proofs.Parts.nodes-length}
use Rattle.network.proofs.Holding.{nodes-held, rules-outputs, rules-divisors}
use Rattle.network.proofs.Laying.{laid_more, laid-all, laid-holds}
use Rattle.extract_laws.specs.Run.{in_order}
use Rattle.extract_laws.proofs.Arranging.{in-order-nodes, in-order-inputs, in-order-outputs, in-order-divisors}
use Rattle.extract_tidy.specs.Parts.{Room, Laid}

-- a network within the limits has room in a struct
pub limited-room : (n : Network) → Limited n → Room (n.outputs + n.divisors) n.counts n.words
limited-room n z = record {
  counted = z.counted;
  slots = omega (arith, z.narrow, z.variables);
  cubes = omega (arith, z.cubes, z.shape.places, cut-lengths (used n) (cubes_of n.words) (omega (arith, z.cubes, z.shape.places)));
}

-- all places are there
pub laid-places : {ws sizes : List ℕ} {at : ℕ} {gs : List (List (List ℕ))} → LaidNodes ws sizes at gs → at ≤ cube_slots → length (cubes_of ws) ≡ cube_slots
laid-places {at = at} {gs} l h = omega (
  arith,
  l.place,
  ap length l.cubes,
  length-append (flat gs) (replicate (cube_slots - at) []),
  length-replicate {A = List ℕ} (cube_slots - at) [],
  flat-length gs,
)

-- nodes laid one after the other, each changed so that it has no more cubes
module _ (op : List (List ℕ) → List (List ℕ)) (fewer : (f : List (List ℕ)) → length (op f) ≤ length f)
    {e : ℕ} {counts words : List ℕ} (r : Room e counts words) where
  abbrev ns : List (List (List ℕ))
  ns = nodes_of e counts words

  abbrev fs : List (List (List ℕ))
  fs = map op ns

  kept : length ns ≡ e
  kept = nodes-length counts words e r.counted

  many : length fs ≡ e
  many = length-map ns op ∙ kept

  pub nodes-few : total length fs ≤ cube_slots
  nodes-few = omega (arith, total-map length op ns, total-le (λ g. length (op g)) length ns (λ g m. fewer g), r.cubes)

  module _ {ws sizes : List ℕ} {at i : ℕ} (l : LaidNodes ws sizes at (take i fs)) where
    pub nodes-laid : length ns ≤ i → LaidNodes ws sizes at fs
    nodes-laid h = laid-all {i = i} fs l (omega (arith, many, kept))

    module _ (h : i < length ns) {f : List (List ℕ)} (q : f ≡ get_or ns i []) where
      before : at + length f ≤ cube_slots
      before = omega (
        arith,
        l.place ∙ ap (total length) (take-map op i ns) ∙ total-map length op (take i ns),
        total-le (λ g. length (op g)) length (take i ns) (λ g m. fewer g),
        ap length q,
        ap (total length) (take_next ns i [] h),
        total-append length (take i ns) (get_or ns i [] ∷ []),
        total-take-le length ns (i + 1) e (omega (arith, kept)),
        ap (total length) (take_all e ns (omega (arith, kept))),
        r.cubes,
      )

      -- there is room for the node as it was
      pub node-fits : at + length f ≤ length (cubes_of ws)
      node-fits = omega (arith, before, laid-places l (omega (arith, before)))

      -- one node more
      pub node-laid : {next : List ℕ} {n t : ℕ} → n ≡ length (op f) → at + n ≡ t → Placed ws next at (op f) → LaidNodes next (set sizes i n) t (take (i + 1) fs)
      node-laid {next} {n} k e p =
          subst (λ z. LaidNodes next (set sizes i n) z (take (i + 1) fs)) e
          (laid_more {i = i} fs l (omega (arith, many, kept)) (omega (arith, many, r.slots))
          (ap op q ∙ sym (get_d_map op ns i [] [] h)) k p)

-- a node copied and put in cube order
pub sorted-copy : {ws mid next : List ℕ} {at n : ℕ} (f : List (List ℕ)) → n ≡ length f → at + length f ≤ length (cubes_of ws)
    → Placed ws mid at (fitting ws at (take (n - 0) (drop 0 f))) → Placed mid next at (sort (take (at + n - at) (drop at (cubes_of mid))))
    → Placed ws next at (sort f)
sorted-copy {ws} {at = at} {n} f k h c s =
    placed-sort (placed-fitting f h (placed-as (ap (fitting ws at) (take_all (n - 0) f (omega arith))) c)) (omega arith) (omega arith) s

-- then the struct holds the network in cube order
pub laid-order : (n : Network) (s : Shaped n) (h : rules n ≡ true) {ws sizes : List ℕ}
    → Laid ws sizes (map sort (nodes_of (n.outputs + n.divisors) n.counts n.words))
    → Holds (held_in n.inputs n.outputs n.divisors sizes ws) (in_order (net_of n))
laid-order n s h l =
    laid-holds l (in_order (net_of n)) (in-order-nodes (net_of n) ∙ ap (map sort) (nodes-held n)) (sym (in-order-inputs (net_of n)))
    (sym (in-order-outputs (net_of n) ∙ rules-outputs n s h)) (sym (in-order-divisors (net_of n) ∙ rules-divisors n s h))
