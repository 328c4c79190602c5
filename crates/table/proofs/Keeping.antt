-- A table that is accepted is a network by the rules, which every operation on networks takes. Assumes nothing.
use Prim.Native.Nat.{ℕ, ◌*◌, ◌/◌, ◌<◌, ◌≤◌}
use mathlib.Core.Path.{◌≡◌, refl, sym, ap, ◌∙◌, subst}
use mathlib.Core.{Bool.true, Bool.false, Option.Option, Option.some}
use mathlib.Core.List.Memᴰ
use mathlib.Core.List.{List, [], map, append-nil}
use native.Mathlib.Nat.{mul-le-mul_left}
use native.Mathlib.Omega.{arith}
use lib.ListN.{length, length-map}
use Rattle.sets.{specs.Lists.total, specs.Lists.from, specs.Masks.bit, proofs.Rows.from-length}
use Rattle.sets.proofs.Lists.{◌∈◌, total-map, total-le, total-times}
use Rattle.expression.specs.Expression.{literals_of, ordered, absorbed}
use Rattle.expression.proofs.{Absorbing.absorbed-length, Sorting.sort-length}
use Rattle.network.specs.Net.{Node, Net, nodes, cube_count, literal_count}
use Rattle.network.specs.{Evaluation.evaluate, Handed.Holds, Rules.Lawful, Answers.evaluated, declared.Network.Network}
use Rattle.network.specs.Meaning.{Through, itself, others}
use Rattle.network.specs.Held.{most_literals, numbered, net_of, rules}
use Rattle.network.{specs.declared.Number.TheVariants.Is, proofs.Evaluating.evaluate-past, proofs.Handing.holds-net, proofs.Ruling.holds-lawful}
use Rattle.table_rows.specs.Lines.{CubeLine}
use Rattle.table_columns.specs.Columns.{or_zero}
use Rattle.table.specs.Table.{most_rows, State, cubes_for, output_for, table_net, accepted, read_text}
use Rattle.table.specs.Written.{inputs_of, outputs_of, cube_lines_of, some_covers}
use Rattle.table.specs.{Answers.Told, Meaning.Complete, Meaning.Says, declared.Answer.TheVariants.Read}
use Rattle.table.{specs.declared.Table.Table, proofs.Telling.told-accepted}
use Rattle.table.proofs.{Marking.rows-exchange, Refusals.accepted-complete, Writing.read-lines}
use Rattle.table.proofs.Outputs.{output-reads, output-literals, outputs-are, outputs-ordered, outputs-rows}

module _ {s : State} {n m : ℕ} (c : Complete s n m) where
  tall : or_zero s.tall ≡ m
  tall = ap or_zero c.tall

  outputs-list : (table_net s).outputs ≡ map (output_for s.lines) (from 0 m)
  unfolding table_net
  outputs-list = ap (λ (k : ℕ). map (output_for s.lines) (from 0 k)) tall

  nodes-list : nodes (table_net s) ≡ map (output_for s.lines) (from 0 m)
  unfolding table_net
  nodes-list = append-nil (table_net s).outputs ∙ outputs-list

  outputs-number : length (table_net s).outputs ≡ m
  outputs-number = ap length outputs-list ∙ length-map (from 0 m) (output_for s.lines) ∙ from-length 0 m

  rows : total (λ j. length (cubes_for j s.lines)) (from 0 m) ≤ most_rows
  rows = omega (arith, rows-exchange m s.lines (λ l i. (c.shaped l i).marks), c.rows)

  -- at most 1,024 cubes
  pub table-cubes : cube_count (table_net s) ≤ most_rows
  table-cubes =
      omega (
        arith,
        ap (total length) nodes-list,
        total-map length (output_for s.lines) (from 0 m),
        total-le (λ j. length (output_for s.lines j)) (λ j. length (cubes_for j s.lines)) (from 0 m)
            (λ j i. omega (arith, sort-length (absorbed (cubes_for j s.lines)), absorbed-length (cubes_for j s.lines))),
        rows,
      )

  -- at most 32,768 literals
  pub table-literals : literal_count (table_net s) ≤ most_literals
  table-literals =
      omega (
        arith,
        ap (total literals_of) nodes-list,
        total-map literals_of (output_for s.lines) (from 0 m),
        total-le (λ j. literals_of (output_for s.lines j)) (λ j. length (cubes_for j s.lines) * n) (from 0 m)
            (λ j i. output-literals n s.lines j (λ l i. (c.shaped l i).places)),
        total-times (λ j. length (cubes_for j s.lines)) n (from 0 m),
        mul-le-mul_left (total (λ j. length (cubes_for j s.lines)) (from 0 m)) c.inputs.1,
        rows,
      )

  in-outputs : (f : List (List ℕ)) → f ∈ nodes (table_net s) → f ∈ (table_net s).outputs
  unfolding table_net
  in-outputs f i = subst (λ (l : List (List (List ℕ))). f ∈ l) (append-nil (table_net s).outputs) i

  table-inputs : (table_net s).inputs ≡ n
  unfolding table_net
  table-inputs = ap or_zero c.wide

  no-divisors : (table_net s).divisors ≡ []
  unfolding table_net
  no-divisors = refl

  through-none : {u v : ℕ} → Through (table_net s) u v → ⊥
  through-none (itself {e = e} i j d) = Memᴰ.not-nil (subst (λ (l : List Node). e ∈ l) no-divisors i)
  through-none (others {e = e} i j d t) = Memᴰ.not-nil (subst (λ (l : List Node). e ∈ l) no-divisors i)

  within-inputs : (f : List (List ℕ)) → f ∈ (table_net s).outputs → (k : List ℕ) → k ∈ f → (x : ℕ) → x ∈ k → x / 2 < n
  within-inputs f i k j x d = let o = outputs-are s f i in
      output-reads n s.lines o.0 (λ l e. (c.shaped l e).places) k (subst (λ (g : List (List ℕ)). k ∈ g) o.1 j) x d

  -- the network of an accepted table is by the rules
  pub table-lawful : Lawful (table_net s)
  unfolding numbered
  table-lawful =
      let wide = table-inputs in
      let none = ap (length {A = Node}) no-divisors in
      record {
        inputs = (omega (arith, c.inputs), omega (arith, c.inputs));
        outputs = (omega (arith, outputs-number, c.outputs), omega (arith, outputs-number, c.outputs));
        within = record { variables = omega (arith, c.inputs); cubes = omega (arith, table-cubes); literals = table-literals };
        good = record {
          expressions = λ f i. (outputs-ordered s f (in-outputs f i)).0;
          known = λ f i v d. omega (arith, within-inputs f (in-outputs f i) d.0 d.1 d.2.0 d.2.1, d.2.2);
          in_turn = no-divisors ∙ sym (ap (λ (l : List Node). numbered (table_net s).inputs (map (λ (e : Node). e.cubes) l)) no-divisors);
          acyclic = λ v t. through-none t;
        };
      }

  -- ---- the struct that holds it

  module _ (r : Network) (h : Holds r (table_net s)) where
    pub table-net : net_of r ≡ table_net s
    table-net = holds-net r (table_net s) h table-lawful.good.in_turn

    pub table-rules : rules r ≡ true
    table-rules = holds-lawful r (table_net s) h table-lawful

-- ---- what reading a table hands back

module _ (t : List ℕ) (r : Table) (o : Told (read_text t) r) (e : r.answer ≡ Read) where
  final : State
  final = (told-accepted r (read_text t) o e).0

  is : read_text t ≡ accepted final
  unfolding final
  is = (told-accepted r (read_text t) o e).1

  written : Says t final
  written = read-lines t final is

  whole : Complete final (inputs_of t) (outputs_of t)
  whole = let c = (accepted-complete t final is).2 in
      subst (λ (k : ℕ). Complete final k (outputs_of t)) (same c.wide written.wide) (subst (Complete final _) (same c.tall written.tall) c)
    where
      same : {p : Option ℕ} {i j : ℕ} → p ≡ some i → p ≡ some j → i ≡ j
      same h k = cc

  holds : Holds r.network (table_net final)
  holds = (rw is at o).1

  net : net_of r.network ≡ table_net final
  net = table-net whole r.network holds

  -- its network is that of the table
  pub read-net : (s : State) × (read_text t ≡ accepted s) × (net_of r.network ≡ table_net s)
  read-net = (final, is, net)

  -- as many inputs and outputs as `.i` and `.o` say
  pub read-sizes : (r.network.inputs ≡ inputs_of t) × (r.network.outputs ≡ outputs_of t)
  read-sizes = (holds.inputs ∙ table-inputs whole, holds.outputs ∙ outputs-number whole)

  -- it keeps the rules
  pub read-rules : rules r.network ≡ true
  read-rules = table-rules whole r.network holds

  -- the answer has output j at bit j: on exactly when some cube line of the text with a `1` for output j covers the setting; other bits are zero
  pub read-outputs : (x : ℕ) → (y : ℕ) × (evaluated r.network x ≡ Is y)
      × ((j : ℕ) → j < outputs_of t → bit y j ≡ some_covers (cube_lines_of t) x j)
      × ((j : ℕ) → outputs_of t ≤ j → bit y j ≡ false)
  unfolding evaluated
  read-outputs x = (
    evaluate (table_net final) x,
    rw read-rules (ap (λ (k : Net). Is (evaluate k x)) net),
    λ j h. outputs-rows whole x j h ∙ ap (λ (l : List CubeLine). some_covers l x j) written.lines,
    λ j h. evaluate-past (table_net final) x j (omega (arith, outputs-number whole)),
  )

  -- its cubes stand in cube order
  pub read-ordered : (f : List (List ℕ)) → f ∈ nodes (net_of r.network) → ordered f ≡ true
  read-ordered f i = (outputs-ordered final f (in-outputs whole f (subst (λ (k : Net). f ∈ nodes k) net i))).1
