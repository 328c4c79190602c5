-- `division::divide` meets its contract: the refusals in their order, then what the steps leave. Assumes nothing.
use mathlib.Core.Path.{◌≡◌, sym, ◌∙◌, ap}
use Rattle.expression.specs.{Words.cubes_of, Words.Appends, Expression.sort, Answers.refusal_of}
use Rattle.division.specs.Division.{quotient, remainder}
use Rattle.division.proofs.{Listing.front-part}
use Rattle.division.proofs.Refusing.{Admissible, admitted-known, told-early, told-late}
use Rattle.division.proofs.Whole.{blank, blank-room, sorted-room, sorted-ready, listed-quotient, quotient-order, listed-remainder}
use Rattle.division.proofs.divide.Goals as goal
use Rattle.division.proofs.divide.Goals.{After-part-cubes, After-part-rest, After-part-whole, In_default}

pub returns-in-Refused : goal.returns-in-Refused
returns-in-Refused c = told-early _ _ _ _ _ (sym (ap refusal_of c.in-Refused.is) ∙ c.admit-v.ensures)

-- neither expression is refused, and the divisor has a cube
admission : (c : In_default) → Admissible c.args.f.now c.args.d.now
admission c = admitted-known _ _ (sym c.admit-v.ensures ∙ ap refusal_of c.in_default.is)

-- the dividend, in cube order
dividend : (c : After-part-cubes) → cubes_of c.part-cubes.result.now ≡ sort (cubes_of c.args.f.now)
dividend c = front-part c.copy_sorted-n.ensures _ c.part-cubes.ensures.0

module _ (c : After-part-rest) where
  accepted : Admissible c.args.f.now c.args.d.now
  accepted = admitted-known _ _ (sym c.admit-v.ensures ∙ ap refusal_of c.in_default.is)

  sorted : cubes_of c.part-cubes.result.now ≡ sort (cubes_of c.args.f.now)
  sorted = front-part c.copy_sorted-n.ensures _ c.part-cubes.ensures.0

  -- the quotient, listed
  quotients : Appends blank c.list_quotient_sorted-k.new.to 0 (quotient (cubes_of c.args.f.now) (cubes_of c.args.d.now)) c.list_quotient_sorted-k.result
  quotients = listed-quotient accepted _ sorted c.list_quotient_sorted-k.ensures

  whole : cubes_of c.part-whole.result.now ≡ quotient (cubes_of c.args.f.now) (cubes_of c.args.d.now)
  whole = front-part quotients _ c.part-whole.ensures.0

  -- the remainder, listed
  remainders : Appends blank c.list_spared-m.new.to 0 (remainder (cubes_of c.args.f.now) (cubes_of c.args.d.now)) c.list_spared-m.result
  remainders = listed-remainder accepted _ sorted _ whole c.list_spared-m.ensures

  rest : cubes_of c.part-rest.result.now ≡ remainder (cubes_of c.args.f.now) (cubes_of c.args.d.now)
  rest = front-part remainders _ c.part-rest.ensures.0

-- the quotient at the call that lists the remainder
whole-there : (c : After-part-whole) → cubes_of c.part-whole.result.now ≡ quotient (cubes_of c.args.f.now) (cubes_of c.args.d.now)
whole-there c =
    let e : cubes_of c.part-cubes.result.now ≡ sort (cubes_of c.args.f.now) = front-part c.copy_sorted-n.ensures _ c.part-cubes.ensures.0 in
    let a : Admissible c.args.f.now c.args.d.now = admitted-known _ _ (sym c.admit-v.ensures ∙ ap refusal_of c.in_default.is) in
    front-part (listed-quotient a _ e c.list_quotient_sorted-k.ensures) _ c.part-whole.ensures.0

pub copy_sorted-n-requires : goal.copy_sorted-n-requires
copy_sorted-n-requires c = blank-room (admission (goal.at.copy_sorted-n-requires c).In_default)

pub list_quotient_sorted-k-requires : goal.list_quotient_sorted-k-requires
list_quotient_sorted-k-requires c = sorted-ready (admission (goal.at.list_quotient_sorted-k-requires c).In_default) _ (dividend (goal.at.list_quotient_sorted-k-requires c).After-part-cubes)

pub list_spared-m-requires : goal.list_spared-m-requires
list_spared-m-requires c =
    let e = dividend (goal.at.list_spared-m-requires c).After-part-cubes in
    let a = admission (goal.at.list_spared-m-requires c).In_default in
    record {
      room = sorted-room a _ e;
      order = quotient-order a _ e _ (whole-there (goal.at.list_spared-m-requires c).After-part-whole);
    }

pub returns : goal.returns
returns c =
    let l = (goal.at.returns c).After-part-rest in
    told-late _ _ _ _ _ _ _ (accepted l) (whole l) (rest l) c.hand_over.ensures
