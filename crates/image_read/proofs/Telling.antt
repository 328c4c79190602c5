-- All fields are read: the verdict is that of the definition, and the struct holds the network. Assumes nothing.
use Prim.Native.Nat.{ℕ, ◌+◌, ◌-◌, ◌≤◌}
use mathlib.Core.Path.{◌≡◌, refl, sym, ap, ap₂, subst, ◌∙◌}
use mathlib.Core.Bool.{Bool, true, false, cond, ◌&&◌, and_assoc}
use mathlib.Core.List.{List, [], ◌++◌, map, append_assoc, map-append}
use mathlib.Core.Logic.{inl, inr}
use native.Mathlib.Omega.{arith}
use lib.Dec.{leb}
use lib.ListN.{length, take, drop, replicate, length-append, length-map, length-replicate, length-drop}
use lib.Seq.{take_at, drop_at, length-take-le}
use borrow.Rule.Slice.PartMut.{put_mid, Post-is}
use borrow.Author.Tests.{leb-true}
use Rattle.sets.specs.Lists.{all, total}
use Rattle.sets.specs.Sets.{asc}
use Rattle.sets.proofs.{Lists.all_append, Lists.total-append, Rows.drop-replicate}
use Rattle.sets.proofs.Truth.{both, together, decided, clash, refuted}
use Rattle.expression.specs.Words.{cubes_of, Placed, Front, fitting}
use Rattle.expression.specs.Expression.{literals_of}
use Rattle.std.proofs.Common.{Result, Ok, Err}
use Rattle.network.{specs.Net.Net, specs.Net.nodes, specs.Held.most_cubes, specs.Held.most_literals, proofs.Handing.flat-length, proofs.Handing.flat_append}
use Rattle.network.specs.Handed.{flat, node_slots, cube_slots, LaidNodes, Holds, Return, gives, refuses, Told, Carries}
use Rattle.image_fields.specs.Fields.{bits_in}
use Rattle.network.{proofs.Numbering.numbered-cubes, proofs.Numbering.numbered-length, specs.declared.Network.Network}
use Rattle.image_laws.specs.Widths.{head_size}
use Rattle.image_laws.specs.Reading.{got, bad, Raw, raw_nodes, raw_net, padding, summed, all_in_order, in_the_order, reads_earlier, judge_raw, get_many}
use Rattle.image_laws.specs.Reading.{get_node, get_nodes, get_raw, read_image}
use Rattle.image_read.specs.Parts.{number, SizesFit, NodesGot, nodes_at, nodes_in, ordered_in, output_counts, divisor_counts, few_in, verdict, judged_of}
use Rattle.image_read.specs.{Parts.first, Parts.second, Parts.blank_words, Parts.Gives, declared.Sizes.Sizes, declared.Fault.Fault}
use Rattle.network.{specs.declared.Handed.Handed, proofs.Laying.laid-holds}
use Rattle.expression.proofs.Placing.{placed-as, placed-fitting, front-places, front-own, front-then}
use Rattle.image_read.specs.declared.nodes.State.{State}
use Rattle.image_read.proofs.Testing.{all-tidy, order-asc}
use Rattle.image_read.proofs.Standing.{cubes-stand, nodes-stand, total-flat}

-- ---- outcomes as results

-- the outcome of a verdict on a network
abbrev outcome_of : Net → Result (Unit {0}) Fault → Return
outcome_of n (Ok x) = gives n
outcome_of n (Err e) = refuses (number e)

-- the outcome of three tests
abbrev picked : Bool → Bool → Bool → Net → Return
picked p q u n = cond p (cond q (cond u (gives n) (refuses 13)) (refuses 12)) (refuses 11)

picked-is : (p q u : Bool) (n : Net) → picked p q u n ≡ outcome_of n (verdict p q u)
picked-is true true true n = refl
picked-is true true false n = refl
picked-is true false u n = refl
picked-is false q u n = refl

verdict-yes : (p q u : Bool) → verdict p q u ≡ Ok tt → (q ≡ true) × (u ≡ true)
verdict-yes true true true e = (refl, refl)
verdict-yes true true false e = cc
verdict-yes true false u e = cc
verdict-yes false q u e = cc

-- the third test matters only where the second holds
verdict-same : (p q u u' : Bool) → (q ≡ true → u ≡ u') → verdict p q u ≡ verdict p q u'
verdict-same true true u u' e = rw (e refl)
verdict-same true false u u' e = refl
verdict-same false q u u' e = refl

-- ---- the counts

-- no counts
abbrev pub blank_counts : List ℕ
blank_counts = replicate node_slots 0

-- with those of the divisors put after the places of the outputs
abbrev pub half_counts : Sizes → List ℕ → List ℕ
half_counts z dc = put_mid z.outputs (z.outputs + z.divisors - z.outputs) blank_counts dc

module _ (z : Sizes) (f : SizesFit z) where
  blank-long : length blank_counts ≡ node_slots
  blank-long = length-replicate {A = ℕ} node_slots 0

  front-long : length (take z.outputs blank_counts) ≡ z.outputs
  front-long = length-take-le z.outputs blank_counts (omega (arith, f.outputs, blank-long))

  pub divisor-slots : length (take (z.outputs + z.divisors - z.outputs) (drop z.outputs blank_counts)) ≡ z.divisors
  divisor-slots =
      let r : z.divisors ≤ length (drop z.outputs blank_counts) = omega (arith, length-drop z.outputs blank_counts, f.outputs, f.variables, blank-long) in
      length-take-le _ (drop z.outputs blank_counts) (omega (arith, r)) ∙ omega arith

  pub output-slots : (dc : List ℕ) → length (take z.outputs (half_counts z dc)) ≡ z.outputs
  output-slots dc = ap length (take_at (take z.outputs blank_counts) _ z.outputs front-long) ∙ front-long

  pub counts-stand : (dc oc : List ℕ) → oc ++ drop z.outputs (half_counts z dc) ≡ oc ++ (dc ++ replicate (node_slots - (z.outputs + z.divisors)) 0)
  counts-stand dc oc =
      ap (oc ++◌) (drop_at (take z.outputs blank_counts) _ z.outputs front-long)
      ∙ ap (λ l. oc ++ (dc ++ l)) (Post-is z.outputs (z.outputs + z.divisors) blank_counts (omega arith) ∙ drop-replicate (z.outputs + z.divisors) node_slots 0)

-- ---- the whole

-- all nodes are read, the divisors' cubes apart, with their counts
pub record AllRead (bits : List Bool) (z : Sizes) (d o : State) (apart words dc oc counts : List ℕ) : Type 0 where
  pub sized : SizesFit z
  pub divisors : NodesGot z.divisors bits first (get_many (get_node (z.inputs + z.divisors)) z.divisors (drop head_size bits)) blank_words apart dc d
  pub outputs : NodesGot z.outputs bits (second d) (get_many (get_node (z.inputs + z.divisors)) z.outputs (drop d.at bits)) blank_words words oc o
  pub stand : counts ≡ oc ++ (dc ++ replicate (node_slots - (z.outputs + z.divisors)) 0)

module _ {bits : List Bool} {z : Sizes} {d t : State} {apart words dc oc counts : List ℕ} (w : AllRead bits z d t apart words dc oc counts) where
  abbrev ds : List (List (List ℕ))
  ds = w.divisors.read

  abbrev os : List (List (List ℕ))
  os = w.outputs.read

  abbrev raw : Raw
  raw = record { inputs = z.inputs; divisors = ds; outputs = os }

  -- the sums of divisors and outputs
  abbrev sums : State
  sums = record { at = t.at; cubes = d.cubes + t.cubes; literals = t.literals; ascending = t.ascending }

  raw-got : nodes_at bits z ≡ got raw (drop t.at bits)
  unfolding get_nodes
  raw-got = rw w.divisors.is (rw w.outputs.is refl)

  divisor-cubes : d.cubes ≡ length (flat ds)
  divisor-cubes = omega (arith, w.divisors.put.cubes)

  output-cubes : t.cubes ≡ length (flat os)
  output-cubes = omega (arith, w.outputs.put.cubes)

  -- ---- the counts

  many-outputs : length (map length os) ≡ z.outputs
  many-outputs = length-map os length ∙ w.outputs.number

  many-divisors : length (map length ds) ≡ z.divisors
  many-divisors = length-map ds length ∙ w.divisors.number

  abbrev slots : ℕ
  slots = length (map length os) + length (map length ds)

  few-nodes : slots ≤ node_slots
  few-nodes = omega (arith, many-outputs, many-divisors, w.sized.outputs, w.sized.variables)

  counts-are : counts ≡ map length os ++ (map length ds ++ replicate (node_slots - slots) 0)
  counts-are =
      let n : z.outputs + z.divisors ≡ slots = omega (arith, many-outputs, many-divisors) in
      w.stand ∙ ap₂ ◌++◌ w.outputs.counted (ap₂ (λ l k. l ++ replicate (node_slots - k) 0) w.divisors.counted n)

  outputs-are : output_counts z counts ≡ map length os
  outputs-are = ap (take z.outputs) counts-are ∙ take_at (map length os) (map length ds ++ replicate (node_slots - slots) 0) z.outputs many-outputs

  divisors-are : divisor_counts z counts ≡ map length ds
  divisors-are =
      ap (λ l. take z.divisors (drop z.outputs l)) counts-are
      ∙ ap (take z.divisors) (drop_at (map length os) (map length ds ++ replicate (node_slots - slots) 0) z.outputs many-outputs)
      ∙ take_at (map length ds) (replicate (node_slots - slots) 0) z.divisors many-divisors

  -- ---- the sums

  cubes-sum : sums.cubes ≡ total length (raw_nodes raw)
  cubes-sum = omega (arith, divisor-cubes, output-cubes, flat-length ds, flat-length os, total-append length ds os)

  literals-sum : sums.literals ≡ total literals_of (raw_nodes raw)
  literals-sum = omega (arith, w.divisors.put.literals, w.outputs.put.literals, total-flat ds, total-flat os, total-append literals_of ds os)

  summed-are : few_in sums ≡ summed raw
  unfolding summed
  summed-are = ap₂ (λ a b. leb a most_cubes && leb b most_literals) cubes-sum literals-sum

  few-cubes : summed raw ≡ true → sums.cubes ≤ most_cubes
  few-cubes q = leb-true sums.cubes most_cubes (both (leb sums.cubes most_cubes) (leb sums.literals most_literals) (summed-are ∙ q)).0

  asc-sum : sums.ascending ≡ (all asc (flat ds) && all asc (flat os))
  asc-sum = w.outputs.put.ascending ∙ ap (◌&& all asc (flat os)) w.divisors.put.ascending

  -- ---- the order

  abbrev test : Bool
  test = ordered_in z.inputs (nodes_in (divisor_counts z counts) apart) (nodes_in (output_counts z counts) words)

  module _ (few : sums.cubes ≤ most_cubes) (up : sums.ascending ≡ true) where
    parts : (all asc (flat ds) ≡ true) × (all asc (flat os) ≡ true)
    parts = both (all asc (flat ds)) (all asc (flat os)) (sym asc-sum ∙ up)

    apart-stand : Front apart most_cubes (flat ds)
    apart-stand = cubes-stand (flat ds) w.divisors.put refl parts.0 (omega (arith, divisor-cubes))

    words-stand : Front words most_cubes (flat os)
    words-stand = cubes-stand (flat os) w.outputs.put refl parts.1 (omega (arith, output-cubes))

    up-order : test ≡ all_in_order raw
    unfolding all_in_order
    up-order =
        ap₂ (ordered_in z.inputs) (nodes-stand ds apart-stand divisors-are) (nodes-stand os words-stand outputs-are)
        ∙ ap₂ (λ a b. a && (b && reads_earlier z.inputs ds)) (all-tidy ds parts.0 w.divisors.put.proper)
        (all-tidy os parts.1 w.outputs.put.proper)
        ∙ sym (and_assoc (all in_the_order ds) (all in_the_order os) (reads_earlier z.inputs ds))
        ∙ ap (◌&& reads_earlier z.inputs ds) (sym (all_append in_the_order ds os))

  down-order : sums.ascending ≡ false → all_in_order raw ≡ false
  unfolding all_in_order
  down-order e = refuted (λ h.
      let a = both (all in_the_order (ds ++ os)) (reads_earlier z.inputs ds) h in
      let b = both (all in_the_order ds) (all in_the_order os) (sym (all_append in_the_order ds os) ∙ a.0) in
      clash (together (all asc (flat ds)) (all asc (flat os)) (order-asc ds b.0) (order-asc os b.1)) (sym asc-sum ∙ e))

  order-are : sums.cubes ≤ most_cubes → (sums.ascending && test) ≡ all_in_order raw
  order-are few = elim (decided sums.ascending) [ inl u ↦ ap (◌&& test) u ∙ up-order few u | inr u ↦ ap (◌&& test) u ∙ sym (down-order u) ]

  -- ---- the verdict

  abbrev net : Net
  net = raw_net raw

  module _ (r : Result (Unit {0}) Fault) (judged : r ≡ judged_of bits sums z apart words counts) where
    judged-is : r ≡ verdict (padding (drop t.at bits)) (summed raw) (all_in_order raw)
    judged-is =
        judged ∙ ap (λ q. verdict (padding (drop t.at bits)) q (sums.ascending && test)) summed-are
        ∙ verdict-same (padding (drop t.at bits)) (summed raw) (sums.ascending && test) (all_in_order raw) (λ q. order-are (few-cubes q))

    outcome-is : judge_raw (nodes_at bits z) ≡ outcome_of net r
    unfolding judge_raw
    outcome-is = ap judge_raw raw-got ∙ picked-is (padding (drop t.at bits)) (summed raw) (all_in_order raw) net ∙ ap (outcome_of net) (sym judged-is)

    pub whole-refused : (e : Fault) → r ≡ Err e → judge_raw (nodes_at bits z) ≡ refuses (number e)
    whole-refused e k = outcome-is ∙ ap (outcome_of net) k

  module _ (judged : Ok tt ≡ judged_of bits sums z apart words counts) where
    passed : (summed raw ≡ true) × (all_in_order raw ≡ true)
    passed = verdict-yes (padding (drop t.at bits)) (summed raw) (all_in_order raw) (sym (judged-is (Ok tt) judged))

    whole-few : d.cubes + t.cubes ≤ most_cubes
    whole-few = few-cubes passed.0

    whole-up : sums.ascending ≡ true
    whole-up = (both sums.ascending _ (order-are whole-few ∙ passed.1)).0

    nodes-are : nodes net ≡ os ++ ds
    nodes-are = ap (os ++◌) (numbered-cubes z.inputs ds)

    module _ (new : List ℕ) (c : Placed words new t.cubes (fitting words t.cubes (take (d.cubes - 0) (cubes_of apart)))) where
      -- the divisors' cubes stand after the outputs'
      new-stand : Front new most_cubes (flat os ++ flat ds)
      new-stand =
          let e : d.cubes - 0 ≡ length (flat ds) = omega (arith, divisor-cubes) in
          let q : take (d.cubes - 0) (cubes_of apart) ≡ flat ds = ap (λ n. take n (cubes_of apart)) e ∙ front-own (apart-stand whole-few whole-up) in
          let s = words-stand whole-few whole-up in
          let r : t.cubes + length (flat ds) ≤ length (cubes_of words) = omega (arith, divisor-cubes, whole-few, front-places s) in
          front-then s (omega (arith, divisor-cubes, output-cubes, whole-few))
          (subst (λ n. Placed words new n (flat ds)) output-cubes (placed-fitting (flat ds) r (placed-as (ap (fitting words t.cubes) q) c)))

      all_laid : LaidNodes new counts (total length (os ++ ds)) (os ++ ds)
      all_laid = record {
        place = refl;
        counts =
            let n : slots ≡ length (os ++ ds) = omega (arith, length-map os length, length-map ds length, length-append os ds) in
            counts-are ∙ sym (append_assoc (map length os) (map length ds) (replicate (node_slots - slots) 0))
            ∙ ap₂ (λ l m. l ++ replicate (node_slots - m) 0) (sym (map-append length os ds)) n;
        cubes =
            let n : most_cubes - length (flat os ++ flat ds) ≡ cube_slots - total length (os ++ ds) =
            omega (arith, length-append (flat os) (flat ds), flat-length os, flat-length ds, total-append length os ds) in
            new-stand.cubes ∙ ap₂ (λ p m. p ++ replicate m []) (sym (flat_append os ds)) n;
      }

      pub whole-given : Gives (judge_raw (nodes_at bits z)) (Ok (record { inputs = z.inputs; outputs = z.outputs; divisors = z.divisors; counts = counts; words = new }))
      whole-given = (
        net,
        outcome-is (Ok tt) judged,
        laid-holds all_laid net nodes-are refl (sym w.outputs.number) (sym (numbered-length z.inputs ds ∙ w.divisors.number)),
      )

-- ---- nodes that are not there

module _ (bits : List Bool) (z : Sizes) (k : ℕ) where
  pub divisors-refused : get_many (get_node (z.inputs + z.divisors)) z.divisors (drop head_size bits) ≡ bad k → judge_raw (nodes_at bits z) ≡ refuses k
  unfolding get_nodes judge_raw
  divisors-refused e = rw e

  pub outputs-refused : {d : State} {apart dc : List ℕ}
      → NodesGot z.divisors bits first (get_many (get_node (z.inputs + z.divisors)) z.divisors (drop head_size bits)) blank_words apart dc d
      → get_many (get_node (z.inputs + z.divisors)) z.outputs (drop d.at bits) ≡ bad k → judge_raw (nodes_at bits z) ≡ refuses k
  unfolding get_nodes judge_raw
  outputs-refused f e = rw (f.is, e)

-- ---- the fields before the nodes

module _ (bytes : List ℕ) where
  pub read-refused : (k : ℕ) → get_raw (bits_in bytes) ≡ bad k → read_image bytes ≡ refuses k
  unfolding read_image judge_raw
  read-refused k e = rw e

  pub read-on : (z : Sizes) → get_raw (bits_in bytes) ≡ nodes_at (bits_in bytes) z → read_image bytes ≡ judge_raw (nodes_at (bits_in bytes) z)
  unfolding read_image
  read-on z e = rw e

-- ---- as it is handed back

pub refused-told : {o : Return} {r : Handed} (e : Fault) → o ≡ refuses (number e) → Told (refuses (number e)) r → Told o r
refused-told e k h = rw k h

pub given-told : {o : Return} {r : Handed} {n : Network} → Gives o (Ok n) → Carries n r → Told o r
given-told {r = r} g h = subst (λ (o : Return). Told o r) (sym g.1) (h.0, subst (λ (p : Network). Holds p g.0) (sym h.1) g.2)
