-- The answers of `image_number::copy`.
use borrow.Author.Rules.{rules}
use Prim.Native.Nat.{◌<◌}
use mathlib.Core.Path.{◌≡◌, sym, ap, ◌∙◌}
use mathlib.Core.List.{[], map}
use native.Mathlib.Omega.{arith}
use lib.ListN.{length, get_or, length-map, length-append}
use lib.Seq.{take_all}
use Rattle.std.specs.Iterator.{YieldsFirstBy}
use Rattle.std.specs.Iterator.Adapters.{enumerate_steps}
use Rattle.std.specs.List.{enumerate_from}
use Rattle.std.proofs.lemmas.Iterator.{YieldsList}
use Rattle.std.proofs.lemmas.Iterator.Consumers.{YieldsList-at, YieldsList-turn, YieldsList-end}
use Rattle.std.proofs.lemmas.List.FromFn.{length-enumerate_from}
use Rattle.sets.proofs.Rows.{get_d_map}
use Rattle.cube.specs.Cube.{lits}
use Rattle.expression.{proofs.Words.cubes-few, specs.Words.cubes_of, proofs.Chains.left}
use Rattle.expression.proofs.Placing.{placed-none, placed-as, copied_next}
use Rattle.image_number.specs.Parts.{cube_by}
use Rattle.image_number.proofs.Copying.{numbered-list, numbered-turn}
use Rattle.image_number.proofs.copy.Goals as goal
use Rattle.image_number.proofs.copy.Goals.{After-into_iter-i-iterator, In-Some}

-- what the loop goes through
road : (c : After-into_iter-i-iterator) → YieldsList (enumerate_steps (YieldsFirstBy lits left)) (λ p. (p.0, lits p.1)) c.into_iter-i-iterator.result
    (enumerate_from 0 (cubes_of c.args.f.now))
road c = YieldsList-at c.into_iter-i-iterator.ensures.into_iter_gives (numbered-list c.enumerate-i-items.ensures.source c.enumerate-i-items.ensures.count c.each.ensures)

-- the cube of a turn
turn : (c : In-Some) → let f = cubes_of c.args.f.now in let k = length c.loop-i.yielded in
    (k < length f) × (c.in-Some.i ≡ k) × (lits c.in-Some.c ≡ get_or f k [])
turn c = numbered-turn _ _ _ _ (YieldsList-turn (road (goal.at.In-Some c).After-into_iter-i-iterator) c.loop-i.yielded _ c.loop-i.yielded_by _ c.next.new.self (c.in-Some.i, c.in-Some.c) c.in-Some.is c.next.ensures.steps)

pub loop-i-init : goal.loop-i-init
loop-i-init c =
    let e = cubes-few c.args.f.now in
    record { goes_on = search (rules, e); ends = search rules; put = placed-none _ _ }

pub overflow_add-at : goal.overflow_add-at
overflow_add-at c = let t = turn (goal.at.overflow_add-at c).In-Some in omega (arith, c.requires.1, t.0, t.1, cubes-few c.args.out.now)

pub loop-i-preserved : goal.loop-i-preserved
loop-i-preserved c =
    let t = turn (goal.at.loop-i-preserved c).In-Some in
    let f = cubes_of c.args.f.now in
    let g = cube_by c.args.places.now in
    let k = length c.loop-i.yielded in
    let e = c.new_cube.ensures ∙ ap g t.2 ∙ sym (get_d_map g f k [] [] t.0) in
    record {
      goes_on = search rules;
      ends = search rules;
      put = rw (length-append c.loop-i.yielded _)
          (copied_next (map g f) (omega (arith, t.0, length-map f g)) (omega (arith, c.requires.1, t.0)) c.loop-i.invariant.put e (rw t.1 at c.put_cube.ensures));
    }

pub returns : goal.returns
returns c =
    let f = cubes_of c.args.f.now in
    let g = cube_by c.args.places.now in
    let q = YieldsList-end (road (goal.at.returns c).After-into_iter-i-iterator) c.loop-i.yielded _ c.loop-i.yielded_by _ c.next.new.self c.in-None.is c.next.ensures.steps in
    placed-as (take_all (length c.loop-i.yielded) (map g f) (omega (arith, q.1, length-enumerate_from 0 f, length-map f g))) c.loop-i.invariant.put
