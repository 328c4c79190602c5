-- The answers of `extract_step::Source::write`.
use Prim.Native.Nat.{ℕ, ◌<◌}
use mathlib.Core.Path.{sym, ap, ◌∙◌}
use mathlib.Core.List.{List, [], ◌∷◌, map, map-append}
use native.Mathlib.Omega.{arith}
use lib.ListN.{length, length-map}
use Rattle.std.specs.Prelude.{Option}
use Rattle.std.specs.{List.filter_map, Option.option_map}
use Rattle.std.proofs.lemmas.Iterator.Consumers.{YieldsList-at, YieldsList-turn}
use Rattle.cube.specs.Cube.{lits}
use Rattle.expression.{specs.Words.cubes_of, proofs.Words.cubes-few, proofs.Chains.each-list}
use Rattle.expression.proofs.Placing.{appends-as, appends-put}
use Rattle.extract_divisor.specs.Divisor.{divisor_of}
use Rattle.extract_step.specs.Parts.{fate}
use Rattle.extract_step.proofs.Becoming.{left-length, left-none, left-one}
use Rattle.extract_step.proofs.Source.write.Goals as goal
use Rattle.extract_step.proofs.Source.write.Goals.{In-Some, Start}

abbrev fates : Start → List ℕ → Option (List ℕ)
fates s = let a = s.args.self in fate a.literal.0 (divisor_of a.divisor) (cubes_of a.cubes.now)

-- so far there are no more cubes than were passed, and there is room for this one
inside : (c : In-Some) → c.loop-c.to < length (cubes_of c.args.out.now)
inside c =
    let a = c.args.self in
    let t = YieldsList-turn (YieldsList-at c.into_iter-c-iterator.ensures.into_iter_gives (each-list c.each-c-items.ensures))
    c.loop-c.yielded _ c.loop-c.yielded_by _ c.next.new.self c.in-Some.c c.in-Some.is c.next.ensures.steps in
    omega (
      arith,
      t.0,
      c.requires,
      c.loop-c.invariant.next,
      left-length (fate a.literal.0 (divisor_of a.divisor) (cubes_of a.cubes.now)) (map lits c.loop-c.yielded),
      length-map c.loop-c.yielded lits,
    )

pub overflow_add-to : goal.overflow_add-to
overflow_add-to c = omega (arith, inside (goal.at.overflow_add-to c).In-Some, cubes-few c.args.out.now)

pub loop-c-preserved-in-Some-remake : goal.loop-c-preserved-in-Some-remake
loop-c-preserved-in-Some-remake c =
    let p = goal.at.loop-c-preserved-in-Some-remake c in
    let g = fates p.Start in
    appends-as (sym (ap (filter_map g) (map-append lits c.loop-c.yielded (c.in-Some.c ∷ []))
    ∙ left-one g (map lits c.loop-c.yielded) (lits c.in-Some.c) (lits c.in-Some-remake.left) (sym c.remake.ensures ∙ ap (option_map lits) c.in-Some-remake.is)))
    (appends-put c.loop-c.invariant (inside p.In-Some) c.put_cube.ensures)

pub loop-c-preserved : goal.loop-c-preserved
loop-c-preserved c =
    let g = fates (goal.at.loop-c-preserved c).Start in
    appends-as (sym (ap (filter_map g) (map-append lits c.loop-c.yielded (c.in-Some.c ∷ []))
    ∙ left-none g (map lits c.loop-c.yielded) (lits c.in-Some.c) (sym c.remake.ensures ∙ ap (option_map lits) c.in_default.is)))
    c.loop-c.invariant
