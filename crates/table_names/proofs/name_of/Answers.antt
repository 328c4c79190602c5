-- The answers of `table_names::name_of`.
use Rattle.std.proofs.Common.{◌≡◌, ◌∙◌, ◌+◌, ◌<◌, ◌≤◌, ℕ, List, [], ◌∷◌, sym, ap, arith, eqb, length, get_or, drop, rules, tests}
use Rattle.std.proofs.lemmas.Iterator.{Splits.YieldsList-from_slice_split, Consumers.YieldsList-turn, Consumers.YieldsList-end}
use Rattle.std.proofs.lemmas.{List.length_push, Bool.Decides.nat_tests}
use lib.ListN.{drop_of_length-le}
use Rattle.sets.proofs.Places.{drop-next}
use Rattle.table_lines.{specs.Text.lines_of, proofs.Lining.lines-split}
use Rattle.table_names.specs.Names.{named, first_name, name_of}
use Rattle.table_names.proofs.Naming.{no_bytes, name-found, name-closed, name-later, name-few, name-many}
use Rattle.table_names.proofs.name_of.Goals as goal
use Rattle.table_names.proofs.name_of.Goals.{After-named-name, After-begins_cube}

pub returns-then-i-ge100 : goal.returns-then-i-ge100
returns-then-i-ge100 c = sym (name-many _ _ c.if-i-ge100.true)

pub loop-line-init : goal.loop-line-init
loop-line-init c = name-few _ _ c.if-i-ge100.false

-- the line of a turn is the next of the lines
turn : (c : After-named-name) → let k = length c.loop-line.yielded in let ls = lines_of c.args.table.now in
    (k < length ls) × (c.in-Some.line.now ≡ get_or ls k c.in-Some.line.now)
turn c = rw (lines-split c.args.table.now) at (YieldsList-turn
    (YieldsList-from_slice_split _ (λ b. eqb b 10) c.args.table.now (cc) (cc)
    (ap (λ s. s.pred) c.into_iter-line-iterator.ensures.into_iter_gives ∙ c.split-line-items.ensures.closure) (λ x b q k. search (rules, tests)))
    c.loop-line.yielded _ c.loop-line.yielded_by _ _ c.in-Some.line c.in-Some.is c.next.ensures.steps)

-- it is the first of those that are left
left : (c : After-named-name) → let l = c.in-Some.line.now in let k = length c.loop-line.yielded in
    name_of c.args.i c.args.table.now ≡ first_name c.args.i (l ∷ drop (k + 1) (lines_of c.args.table.now))
left c =
    let t = turn c in
    let l = c.in-Some.line.now in
    let k = length c.loop-line.yielded in
    c.loop-line.invariant ∙ ap (first_name c.args.i) (drop-next (lines_of c.args.table.now) k l t.0)
    ∙ ap (λ (x : List ℕ). first_name c.args.i (x ∷ drop (k + 1) (lines_of c.args.table.now))) (sym t.1)

-- it names nothing
unnamed : (c : After-begins_cube) → named c.args.i c.in-Some.line.now ≡ []
unnamed c = let h : length c.named-name.result.now ≤ 0 = grind (arith, nat_tests) in sym c.named-name.ensures ∙ no_bytes _ h

pub returns-then-not-is_empty : goal.returns-then-not-is_empty
returns-then-not-is_empty c =
    let w = (goal.at.returns-then-not-is_empty c).After-named-name in
    let h : 0 < length c.named-name.result.now = grind (arith, nat_tests) in
    c.named-name.ensures ∙ sym (left w ∙ name-found _ _ _ (omega (arith, ap length c.named-name.ensures)))

pub returns-then-begins_cube : goal.returns-then-begins_cube
returns-then-begins_cube c =
    let w = goal.at.returns-then-begins_cube c in
    sym (left w.After-named-name ∙ name-closed _ _ _ (unnamed w.After-begins_cube) (sym c.begins_cube.ensures ∙ c.if-begins_cube.true))

pub loop-line-preserved : goal.loop-line-preserved
loop-line-preserved c =
    let w = goal.at.loop-line-preserved c in
    left w.After-named-name ∙ name-later _ _ _ (unnamed w.After-begins_cube) (sym c.begins_cube.ensures ∙ c.if-begins_cube.false)
    ∙ ap (λ (k : ℕ). first_name c.args.i (drop k (lines_of c.args.table.now))) (sym (length_push c.loop-line.yielded c.in-Some.line))

pub returns : goal.returns
unfolding first_name
returns c =
    let e = YieldsList-end
    (YieldsList-from_slice_split _ (λ b. eqb b 10) c.args.table.now (cc) (cc)
    (ap (λ s. s.pred) c.into_iter-line-iterator.ensures.into_iter_gives ∙ c.split-line-items.ensures.closure) (λ x b q k. search (rules, tests)))
    c.loop-line.yielded _ c.loop-line.yielded_by _ _ c.in-None.is c.next.ensures.steps in
    let n : length (lines_of c.args.table.now) ≤ length c.loop-line.yielded = omega (arith, e.1, ap length (lines-split c.args.table.now)) in
    sym (c.loop-line.invariant ∙ ap (first_name c.args.i) (drop_of_length-le (lines_of c.args.table.now) n))
