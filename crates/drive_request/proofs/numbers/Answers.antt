-- The answers of `drive_request::numbers`, whose loop's invariant stands beside. Assumes nothing.
use mathlib.Core.Path.{sym, ap, ◌∙◌}
use mathlib.Core.List.{◌∷◌, map}
use Rattle.drive_request.specs.Numbers.{number_of, numbers_of}
use Rattle.drive_request.proofs.Storing.{storing-as, storing-none, storing-full, storing-next, storing-done, stored-within}
use Rattle.drive_request.proofs.numbers.Goals as goal

pub returns-in_err-v-clause-stored : goal.returns-in_err-v-clause-stored
returns-in_err-v-clause-stored c =
    let e = ap (map number_of) c.in-Some.ensures.steps ∙ ap (λ o. o ∷ numbers_of c.next.new.self.0.now) (sym c.number.ensures ∙ c.in_err-v.was) in
    rw c.from_residual.ensures (storing-none (storing-as e c.loop-word.invariant))

pub returns-then-n-pool-clause-stored : goal.returns-then-n-pool-clause-stored
returns-then-n-pool-clause-stored c =
    let e = ap (map number_of) c.in-Some.ensures.steps ∙ ap (λ o. o ∷ numbers_of c.next.new.self.0.now) (sym c.number.ensures ∙ c.in_ok-v.was) in
    storing-full (storing-as e c.loop-word.invariant) c.if-n-pool.true

pub loop-word-preserved : goal.loop-word-preserved
loop-word-preserved c =
    let e = ap (map number_of) c.in-Some.ensures.steps ∙ ap (λ o. o ∷ numbers_of c.next.new.self.0.now) (sym c.number.ensures ∙ c.in_ok-v.was) in
    storing-next (storing-as e c.loop-word.invariant) c.if-n-pool.false

pub returns-clause-stored : goal.returns-clause-stored
returns-clause-stored c = storing-done (storing-as (ap (map number_of) c.in-None.ensures.steps.0) c.loop-word.invariant)

pub returns-clause-within : goal.returns-clause-within
returns-clause-within c = stored-within (storing-done (storing-as (ap (map number_of) c.in-None.ensures.steps.0) c.loop-word.invariant))
