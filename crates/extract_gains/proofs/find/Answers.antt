-- The answers of `extract_gains::find`.
use native.Mathlib.Omega.{arith}
use mathlib.Core.List.{List}
use Prim.Native.Nat.{ℕ}
use Rattle.extract_gains.specs.{Parts.Chained}
use Rattle.extract_gains.proofs.Chains.{Entered, reached-head, reached-entry, reached-end}
use Rattle.extract_gains.proofs.Chains.{link-before, reached-link, entry-within, entry_found}
use Rattle.extract_gains.proofs.find.Goals as goal
use Rattle.extract_gains.proofs.find.Goals.{In-loop-at}

pub loop-at-init : goal.loop-at-init
loop-at-init c k = rw c.head_of.ensures.is (reached-head c.args.t.now c.args.key k)

-- in a turn of the loop the search stands at an entry
abbrev table : In-loop-at → List ℕ
table c = c.args.t.now

at_entry : (c : In-loop-at) → Chained (table c)
    → Entered (table c) c.args.key c.loop-at.at
at_entry c k = reached-entry (c.loop-at.invariant k) c.loop-at-test.true

pub returns-then-at : goal.returns-then-at
returns-then-at c k e b q = omega (arith, entry-within k (at_entry (goal.at.returns-then-at c).In-loop-at k))

pub returns-then-t-at : goal.returns-then-t-at
returns-then-t-at c = (omega arith, λ k. entry_found (at_entry (goal.at.returns-then-t-at c).In-loop-at k) c.if-t-at.true)

pub returns-then-next-at : goal.returns-then-next-at
returns-then-next-at c k e b q =
    omega (arith, link-before k (at_entry (goal.at.returns-then-next-at c).In-loop-at k))

pub loop-at-preserved : goal.loop-at-preserved
loop-at-preserved c k =
    reached-link k (at_entry (goal.at.loop-at-preserved c).In-loop-at k) c.if-t-at.false

pub returns : goal.returns
returns c k = reached-end (c.loop-at.invariant k) c.loop-at-test.false
