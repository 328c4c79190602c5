-- `blif_read::read` meets its contract: 14 for the form and a gap, then 15, then 10, by what the passes found. Assumes nothing.
use Prim.Native.Nat.{◌≤◌}
use borrow.Author.Rules.{rules}
use Rattle.sets.specs.Word.{largest}
use Rattle.blif_read.proofs.Telling.{formless-told, gap-told, once-told, many-told, inputs-below, can-build, finish-told}
use Rattle.blif_read.proofs.read.Goals as goal

pub returns-in_default : goal.returns-in_default
returns-in_default c = formless-told c.in_default.ensures c.refuse.ensures

pub returns-then-not-is_gapless : goal.returns-then-not-is_gapless
returns-then-not-is_gapless c =
    let small : c.in-Some.v.outputs ≤ largest = search rules in
    gap-told c.in-Some.ensures small _ c.is_gapless.ensures c.if-not-is_gapless.true c.refuse-then-not-is_gapless.ensures

pub returns-then-not-is_once : goal.returns-then-not-is_once
returns-then-not-is_once c =
    let small : c.in-Some.v.outputs ≤ largest = search rules in
    once-told c.in-Some.ensures small _ c.is_gapless.ensures c.if-not-is_gapless.false _ c.is_once.ensures c.if-not-is_once.true
    c.refuse-then-not-is_once.ensures

pub returns-then-not-is_few : goal.returns-then-not-is_few
returns-then-not-is_few c =
    let small : c.in-Some.v.outputs ≤ largest = search rules in
    many-told c.in-Some.ensures small _ c.is_gapless.ensures c.if-not-is_gapless.false _ c.is_once.ensures c.if-not-is_once.false _ c.is_few.ensures
    c.if-not-is_few.true c.refuse-then-not-is_few.ensures

pub overflow_sub-v : goal.overflow_sub-v
overflow_sub-v c =
    let small : c.in-Some.v.outputs ≤ largest = search rules in
    inputs-below c.in-Some.ensures small _ c.is_gapless.ensures c.if-not-is_gapless.false _ c.is_once.ensures c.if-not-is_once.false

pub finish-requires : goal.finish-requires
finish-requires c =
    let small : c.in-Some.v.outputs ≤ largest = search rules in
    can-build c.in-Some.ensures small _ c.is_gapless.ensures c.if-not-is_gapless.false _ c.is_once.ensures c.if-not-is_once.false _ c.is_few.ensures
    c.if-not-is_few.false

pub returns : goal.returns
returns c =
    let small : c.in-Some.v.outputs ≤ largest = search rules in
    finish-told c.in-Some.ensures small _ c.is_gapless.ensures c.if-not-is_gapless.false _ c.is_once.ensures c.if-not-is_once.false _ c.is_few.ensures
    c.if-not-is_few.false _ c.finish.ensures
