-- `extract_step::step_in` meets its contract: unfit, numbers, or what the step comes to. Assumes nothing.
use Prim.Native.Nat.{ℕ, ◌+◌, ◌≤◌}
use mathlib.Core.Path.{◌≡◌, sym, ap, ◌∙◌}
use mathlib.Core.Bool.{true}
use native.Mathlib.Omega.{arith}
use Rattle.network.specs.{Net.variables, Held.net_of, Held.most_variables, Handed.Shaped, Parts.held_in, declared.Network.Network}
use Rattle.network.proofs.Handing.{shape_of, shape-words}
use Rattle.cube.specs.Cube.{width}
use Rattle.extract_tidy.{specs.Tidy.arranged, proofs.Arranged.arranged-sized}
use Rattle.extract_divisor.specs.Divisor.{divisor_of}
use Rattle.extract_fit.{specs.Fitness.fitting, proofs.Fitting.fitting-more}
use Rattle.extract_step.specs.Replace.{outcome_of}
use Rattle.extract_step.proofs.Answering.{arranged-source, arranged-variables, room-full}
use Rattle.extract_step.proofs.step_in.Goals as goal
use Rattle.extract_step.proofs.step_in.Goals.{After-is_fit, Else-counts-ne-NODE_SLOTS, Else-not-are_arranged, Else-not-is_fit, Start}

-- ---- what holds there

-- the network that is lent
abbrev lent : Start → Network
lent s = let a = s.args in held_in a.inputs a.outputs a.divisors a.counts.now a.words.now

shape : (c : Else-counts-ne-NODE_SLOTS) → let a = c.args in Shaped (held_in a.inputs a.outputs a.divisors a.counts.now a.words.now)
shape c = shape_of _ c.if-counts-ne-NODE_SLOTS.false c.if-words-ne-WORD_SLOTS.false

-- it stands in cube order, and so within the limits
tidy : (c : Else-not-are_arranged) → let a = c.args in arranged (held_in a.inputs a.outputs a.divisors a.counts.now a.words.now) ≡ true
tidy c = sym c.are_arranged.ensures ∙ c.if-not-are_arranged.false

few : (n : Network) → Shaped n → arranged n ≡ true → n.inputs + n.divisors ≤ most_variables
few n s t = (arranged-sized n t s).variables

-- what the divisor was found to be
tested : (c : After-is_fit) → let a = c.args in let n = held_in a.inputs a.outputs a.divisors a.counts.now a.words.now in
    Shaped n → arranged n ≡ true → fitting (variables (net_of n)) (divisor_of a.d) ≡ c.is_fit.result
tested c s t =
    let a = c.args in
    ap (λ (v : ℕ). fitting v (divisor_of a.d)) (arranged-variables (held_in a.inputs a.outputs a.divisors a.counts.now a.words.now) s t) ∙ sym c.is_fit.ensures

pub returns-then-words-ne-WORD_SLOTS : goal.returns-then-words-ne-WORD_SLOTS
returns-then-words-ne-WORD_SLOTS c = record {
  shaped = λ s. absurd (omega (arith, c.if-words-ne-WORD_SLOTS.true, shape-words _ s));
  other = λ f. c.refused.ensures;
}

pub returns-then-not-are_arranged : goal.returns-then-not-are_arranged
unfolding outcome_of
returns-then-not-are_arranged c = record {
  shaped = λ s. rw (sym c.are_arranged.ensures ∙ c.if-not-are_arranged.true) c.refused-then-not-are_arranged.ensures;
  other = λ f. absurd (f (shape (goal.at.returns-then-not-are_arranged c).Else-counts-ne-NODE_SLOTS));
}

pub overflow_add-v : goal.overflow_add-v
overflow_add-v c =
    let l = few _ (shape (goal.at.overflow_add-v c).Else-counts-ne-NODE_SLOTS) (tidy (goal.at.overflow_add-v c).Else-not-are_arranged) in
    omega (arith, l)

pub returns-then-not-is_fit : goal.returns-then-not-is_fit
unfolding outcome_of
returns-then-not-is_fit c =
    let z = shape (goal.at.returns-then-not-is_fit c).Else-counts-ne-NODE_SLOTS in
    let t = tidy (goal.at.returns-then-not-is_fit c).Else-not-are_arranged in
    record {
      shaped = λ s. rw (t, tested (goal.at.returns-then-not-is_fit c).After-is_fit z t ∙ c.if-not-is_fit.true) c.refused-then-not-is_fit.ensures;
      other = λ f. absurd (f z);
    }

pub returns-then-v-ge-MOST_VARIABLES : goal.returns-then-v-ge-MOST_VARIABLES
unfolding outcome_of
returns-then-v-ge-MOST_VARIABLES c =
    let z = shape (goal.at.returns-then-v-ge-MOST_VARIABLES c).Else-counts-ne-NODE_SLOTS in
    let t = tidy (goal.at.returns-then-v-ge-MOST_VARIABLES c).Else-not-are_arranged in
    let e = tested (goal.at.returns-then-v-ge-MOST_VARIABLES c).After-is_fit z t ∙ c.if-not-is_fit.false in
    record {
      shaped = λ s. rw (t, e, room-full (lent (goal.at.returns-then-v-ge-MOST_VARIABLES c).Start) s t (divisor_of c.args.d) c.if-v-ge-MOST_VARIABLES.true)
          c.refused-then-v-ge-MOST_VARIABLES.ensures;
      other = λ f. absurd (f z);
    }

pub made-requires : goal.made-requires
made-requires c =
    let z = shape (goal.at.made-requires c).Else-counts-ne-NODE_SLOTS in
    let t = tidy (goal.at.made-requires c).Else-not-are_arranged in
    record {
      source = arranged-source (lent (goal.at.made-requires c).Start) z t c.if-v-ge-MOST_VARIABLES.false;
      number = c.if-v-ge-MOST_VARIABLES.false;
      divisor = fitting-more _ width _ (few _ z t) (sym c.is_fit.ensures ∙ c.if-not-is_fit.false);
    }

pub returns : goal.returns
unfolding outcome_of
returns c =
    let z = shape (goal.at.returns c).Else-counts-ne-NODE_SLOTS in
    let t = tidy (goal.at.returns c).Else-not-are_arranged in
    let e = tested (goal.at.returns c).After-is_fit z t ∙ c.if-not-is_fit.false in
    record { shaped = λ s. rw (t, e) c.made.ensures; other = λ f. absurd (f z) }
