-- What fits its fields, the sums and the one order is a network by the rules, and a network by the rules fits them. Assumes nothing.
use Prim.Native.Nat.{ℕ, suc, ◌+◌, ◌-◌, ◌/◌, ◌<◌, ◌≤◌}
use mathlib.Core.Path.{◌≡◌, refl, sym, ap, subst}
use mathlib.Core.Logic.{inl, inr}
use mathlib.Core.Bool.{true, false, ◌&&◌}
use mathlib.Core.List.Memᴰ
use mathlib.Core.List.Memᴰ.{head as here}
use mathlib.Core.List.Memᴰ.{tail as there}
use mathlib.Core.List.{List, [], ◌∷◌, ◌++◌}
use native.Mathlib.Omega.{arith}
use borrow.Author.Tests.{ltb-true, leb-true, le-leb}
use lib.Dec.{ltb, leb}
use lib.ListN.{length, length-map}
use Rattle.sets.specs.Lists.{all, total, pairwise}
use Rattle.sets.specs.Literal.{opposite_of}
use Rattle.sets.specs.Sets.{mem, asc, proper}
use Rattle.sets.proofs.Truth.{both, together, clash}
use Rattle.sets.proofs.Lists.{◌∈◌, all_in, all-out, ahead, total-append, total-in}
use Rattle.sets.proofs.Sets.{mem-of, of_mem, sub_in, proper-out, proper-sub}
use Rattle.expression.specs.Expression.{is_cube, loose, ordered, literals_of}
use Rattle.network.specs.Net.{Node, Net, nodes}
use Rattle.network.specs.{Meaning.Reads, Rules.Lawful}
use Rattle.network.specs.Held.{numbered, reach, most_cubes, most_literals}
use Rattle.network.proofs.Numbering.{numbered-length, numbered-cubes, reach-in, reach-out}
use Rattle.image_laws.specs.Reading.{Raw, raw_nodes, raw_net, summed, in_the_order, reads_earlier, all_in_order}
use Rattle.image_laws.specs.Meaning.{OneOrder, FitCube, FitRaw}
use Rattle.image_laws.proofs.{Fielding.divisor_cubes, Renumbering.through-less}

module _ {A : Type 0} where
  swap-in : {x : A} (a b : List A) → x ∈ (a ++ b) → x ∈ (b ++ a)
  swap-in a b m = elim (Memᴰ.append_cases a m) [ inl i ↦ Memᴰ.append_right b i | inr i ↦ Memᴰ.append_left a i ]

  swap-total : (f : A → ℕ) (a b : List A) → total f (a ++ b) ≡ total f (b ++ a)
  swap-total f a b = omega (arith, total-append f a b, total-append f b a)

-- ---- a divisor reads earlier variables alone

pub earlier-out : (v : ℕ) (fs : List (List (List ℕ))) → reads_earlier v fs ≡ true → (e : Node) → e ∈ numbered v fs → (u : ℕ) → Reads e.cubes u → u < e.number
unfolding reads_earlier numbered
earlier-out v [] h e m u r = absurd (Memᴰ.not-nil m)
earlier-out v (f ∷ fs) h e m u r =
    let q = both (reach v f) (reads_earlier (suc v) fs) h in
    elim (Memᴰ.cases_cons m) [
      | inl w ↦ rw w (reach-out v (f ∷ []) (together (reach v f) true q.0 refl) f (here refl) u (subst (λ g. Reads g.cubes u) w r))
      | inr t ↦ earlier-out (suc v) fs q.1 e t u r
    ]

pub earlier-in : (v : ℕ) (fs : List (List (List ℕ))) → ((e : Node) → e ∈ numbered v fs → (u : ℕ) → Reads e.cubes u → u < e.number)
    → reads_earlier v fs ≡ true
unfolding reads_earlier numbered
earlier-in v [] h = refl
earlier-in v (f ∷ fs) h =
    together (reach v f) (reads_earlier (suc v) fs)
    (both (reach v f) true (reach-in v (f ∷ []) (λ g m u r. h (record { number = v; cubes = f }) (here refl) u
    (subst (λ z. Reads z u) (Memᴰ.eq_of_singleton m) r)))).0
    (earlier-in (suc v) fs (λ e m. h e (there m)))

-- ---- what is read is lawful and in order

module _ (r : Raw) (fits : FitRaw r) (sums : summed r ≡ true) (order : all_in_order r ≡ true) where
  raw-in : {f : List (List ℕ)} → f ∈ nodes (raw_net r) → f ∈ raw_nodes r
  raw-in {f} m = swap-in r.outputs r.divisors (subst (λ ds. f ∈ (r.outputs ++ ds)) (numbered-cubes r.inputs r.divisors) m)

  ranks : (f : List (List ℕ)) → f ∈ nodes (raw_net r) → in_the_order f ≡ true
  unfolding all_in_order
  ranks f m = all-out in_the_order (raw-in m) (both _ _ order).0

  pub raw-order : OneOrder (raw_net r)
  unfolding all_in_order in_the_order
  raw-order = record {
    cubes = λ f m. (both (ordered f) (pairwise loose f) (both (all asc f) _ (ranks f m)).1).0;
    earlier = earlier-out r.inputs r.divisors (both (all in_the_order (raw_nodes r)) _ order).1;
  }

  pub raw-lawful : Lawful (raw_net r)
  unfolding summed in_the_order
  raw-lawful =
      let s = both (leb (total length (raw_nodes r)) most_cubes) (leb (total literals_of (raw_nodes r)) most_literals) sums in
      record {
        inputs = fits.inputs;
        outputs = fits.outputs;
        within = record {
          variables = rw (numbered-length r.inputs r.divisors) fits.few;
          cubes = rw (numbered-cubes r.inputs r.divisors, swap-total length r.outputs r.divisors) (leb-true _ most_cubes s.0);
          literals = rw (numbered-cubes r.inputs r.divisors, swap-total literals_of r.outputs r.divisors) (leb-true _ most_literals s.1);
        };
        good = record {
          expressions = λ f m.
              let q = both (all asc f) (ordered f && pairwise loose f) (ranks f m) in
              together _ _ (all_in is_cube f (λ c i. together _ _ (all-out asc i q.0) ((fits.nodes f (raw-in m)).cubes c i).single))
              (both (ordered f) (pairwise loose f) q.1).1;
          known = λ f m v d. rw (numbered-length r.inputs r.divisors, d.2.2)
              (((fits.nodes f (raw-in m)).cubes d.0 d.1).known d.2.0 d.2.1);
          in_turn = ap (numbered r.inputs) (sym (numbered-cubes r.inputs r.divisors));
          acyclic = λ v t. let h : v < v = through-less (raw_net r) raw-order.earlier t in omega arith;
        };
      }

-- ---- a cube has at most one literal of each variable

cube-few : (v k : ℕ) (c : List ℕ) → asc c ≡ true → proper c ≡ true → ((l : ℕ) → l ∈ c → (k ≤ l / 2) × (l / 2 < v)) → length c ≤ v - k
cube-few v k [] a p h = omega arith
cube-few v k (x ∷ c) a p h =
    let q = ahead ltb x c a in
    let lone : mem (opposite_of x) (x ∷ c) ≡ false = proper-out (x ∷ c) x p (mem-of (here refl)) in
    omega (
      arith,
      h x (here refl),
      cube-few v (suc (x / 2)) c q.1 (proper-sub c (x ∷ c) (sub_in c (x ∷ c) (λ z m. mem-of (there (of_mem z c m)))) p) (λ l m.
          let up : x < l = ltb-true x l (all-out (ltb x) m q.0) in
          let other : l ≡ opposite_of x → ⊥ = λ e. clash (mem-of (there (subst (◌∈ c) e m))) lone in
          (omega arith, (h l (there m)).1)),
    )

abbrev pub raw_of : Net → Raw
raw_of n = record { inputs = n.inputs; divisors = divisor_cubes n; outputs = n.outputs }

module _ (n : Net) (h : Lawful n) where
  pub raw-net : raw_net (raw_of n) ≡ n
  raw-net = λ i. record { inputs = n.inputs; outputs = n.outputs; divisors = sym h.good.in_turn i }

  node_in : {f : List (List ℕ)} → f ∈ raw_nodes (raw_of n) → f ∈ nodes n
  node_in m = swap-in (divisor_cubes n) n.outputs m

  fits-cube : (f : List (List ℕ)) → f ∈ nodes n → (c : List ℕ) → c ∈ f → FitCube (n.inputs + length (divisor_cubes n)) c
  fits-cube f m c i =
      let q = both (asc c) (proper c) (all-out is_cube i (both (all is_cube f) (pairwise loose f) (h.good.expressions f m)).0) in
      let v = n.inputs + length (divisor_cubes n) in
      let k : (l : ℕ) → l ∈ c → l / 2 < v = λ l j.
      omega (arith, h.good.known f m (l / 2) (c, i, (l, j, refl)), length-map n.divisors (λ (e : Node). e.cubes)) in
      record { few = omega (arith, cube-few v 0 c q.0 q.1 (λ l j. (omega arith, k l j))); known = k; single = q.1 }

  pub lawful-fits : FitRaw (raw_of n)
  lawful-fits = record {
    inputs = h.inputs;
    outputs = h.outputs;
    few = omega (arith, h.within.variables, length-map n.divisors (λ (e : Node). e.cubes));
    nodes = λ f m. record { few = omega (arith, total-in length (node_in m), h.within.cubes); cubes = fits-cube f (node_in m) };
  }

  pub lawful-sums : summed (raw_of n) ≡ true
  unfolding summed
  lawful-sums =
      together _ _ (le-leb (total length (raw_nodes (raw_of n))) most_cubes (rw (swap-total length (divisor_cubes n) n.outputs) h.within.cubes))
      (le-leb (total literals_of (raw_nodes (raw_of n))) most_literals (rw (swap-total literals_of (divisor_cubes n) n.outputs) h.within.literals))

  pub lawful-order : OneOrder n → all_in_order (raw_of n) ≡ true
  unfolding all_in_order in_the_order
  lawful-order o =
      together _ _ (all_in in_the_order (raw_nodes (raw_of n)) (λ f m.
      let q = both (all is_cube f) (pairwise loose f) (h.good.expressions f (node_in m)) in
      together _ _ (all_in asc f (λ c i. (both (asc c) (proper c) (all-out is_cube i q.0)).0)) (together _ _ (o.cubes f (node_in m)) q.1)))
      (earlier-in n.inputs (divisor_cubes n) (λ e m. o.earlier e (subst (e ∈◌) (sym h.good.in_turn) m)))
