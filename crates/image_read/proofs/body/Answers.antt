-- `image_read::body` meets its contract. The divisors are those of the definition, and the outputs; then the verdict on all that was read, and
-- the network of it. Assumes nothing.
use Prim.Native.Nat.{ℕ, ◌+◌, ◌-◌}
use mathlib.Core.Path.{sym, ◌∙◌}
use mathlib.Core.List.{◌++◌}
use borrow.Author.Rules.{rules}
use lib.ListN.{length, take, drop}
use Rattle.image_fields.specs.Fields.{bits_in}
use Rattle.image_laws.specs.{Reading.get_many, Reading.get_node, Widths.head_size}
use Rattle.image_read.specs.Parts.{NodesAre, first, second, blank_words}
use Rattle.image_read.proofs.Telling.{AllRead, blank_counts, half_counts, divisor-slots, output-slots, counts-stand, whole-refused, whole-given}
use Rattle.image_read.proofs.Telling.{divisors-refused, outputs-refused}
use Rattle.image_read.proofs.body.Goals as goal
use Rattle.image_read.proofs.body.Goals.{After-nodes, After-nodes-2, In_ok-o}

divisors-are : (c : After-nodes) → let z = c.args.z in
    NodesAre z.divisors (bits_in c.args.bytes.now) first (get_many (get_node (z.inputs + z.divisors)) z.divisors (drop head_size (bits_in c.args.bytes.now)))
    blank_words c.nodes.new.words c.nodes.new.counts c.nodes.result
divisors-are c =
    let z = c.args.z in
    let n : ℕ = length (take (z.outputs + z.divisors - z.outputs) (drop z.outputs blank_counts)) in
    let x : NodesAre n (bits_in c.args.bytes.now) first (get_many (get_node (z.inputs + z.divisors)) n (drop head_size (bits_in c.args.bytes.now)))
    blank_words c.nodes.new.words c.nodes.new.counts c.nodes.result = c.nodes.ensures in
    rw (divisor-slots z c.requires) at x

outputs-are : (c : After-nodes-2) → let z = c.args.z in
    NodesAre z.outputs (bits_in c.args.bytes.now) (second c.in_ok-d.d) (get_many (get_node (z.inputs + z.divisors)) z.outputs (drop c.in_ok-d.d.at (bits_in c.args.bytes.now)))
    blank_words c.nodes-2.new.words c.nodes-2.new.counts c.nodes-2.result
outputs-are c =
    let z = c.args.z in
    let n : ℕ = length (take z.outputs (half_counts z c.nodes.new.counts)) in
    let x : NodesAre n (bits_in c.args.bytes.now) (second c.in_ok-d.d) (get_many (get_node (z.inputs + z.divisors)) n (drop c.in_ok-d.d.at (bits_in c.args.bytes.now)))
    blank_words c.nodes-2.new.words c.nodes-2.new.counts c.nodes-2.result = c.nodes-2.ensures in
    rw (output-slots z c.requires c.nodes.new.counts) at x

all-read : (c : In_ok-o) → AllRead (bits_in c.args.bytes.now) c.args.z c.in_ok-d.d c.in_ok-o.o c.nodes.new.words c.nodes-2.new.words c.nodes.new.counts c.nodes-2.new.counts
    (c.nodes-2.new.counts ++ drop c.args.z.outputs (half_counts c.args.z c.nodes.new.counts))
all-read c = record {
  sized = c.requires;
  divisors = rw c.in_ok-d.was at (divisors-are (goal.at.In_ok-o c).After-nodes);
  outputs = rw c.in_ok-o.was at (outputs-are (goal.at.In_ok-o c).After-nodes-2);
  stand = counts-stand c.args.z c.requires c.nodes.new.counts c.nodes-2.new.counts;
}

pub returns-in_err-d : goal.returns-in_err-d
returns-in_err-d c =
    let q = divisors-refused (bits_in c.args.bytes.now) c.args.z _ (rw c.in_err-d.was at (divisors-are (goal.at.returns-in_err-d c).After-nodes)) in
    search (rules, q)

pub returns-in_err-o : goal.returns-in_err-o
returns-in_err-o c =
    let q = outputs-refused (bits_in c.args.bytes.now) c.args.z _ (rw c.in_ok-d.was at (divisors-are (goal.at.returns-in_err-o c).After-nodes))
    (rw c.in_err-o.was at (outputs-are (goal.at.returns-in_err-o c).After-nodes-2)) in
    search (rules, q)

pub returns-in_err-judge : goal.returns-in_err-judge
returns-in_err-judge c =
    let q = whole-refused (all-read (goal.at.returns-in_err-judge c).In_ok-o) c.judge.result c.judge.ensures _ c.in_err-judge.was in
    search (rules, q)

pub returns : goal.returns
returns c = whole-given (all-read (goal.at.returns c).In_ok-o) (sym c.in_ok-judge.was ∙ c.judge.ensures) _ c.copy.ensures
