-- `extract_step::made` meets its contract: the nodes are laid rewritten, and the divisor's own after them where there is room. Assumes nothing.
use Prim.Native.Nat.{◌+◌, ◌-◌, ◌≤◌}
use mathlib.Core.Path.{◌≡◌, refl, ap, ◌∙◌}
use native.Mathlib.Omega.{arith}
use lib.ListN.{set}
use Rattle.expression.specs.Answers.{capped}
use Rattle.network.specs.Net.{nodes, cube_count, literal_count}
use Rattle.network.specs.{Held.most_cubes, Handed.LaidNodes}
use Rattle.extract_tidy.proofs.Laid.{laid-places}
use Rattle.extract_step.proofs.Answering.{after, rewritten, next-number, laid-as, laid-few, laid-count, laid-literals, step-laid, step-held}
use Rattle.extract_step.proofs.Answering.{room-rows, room-over, room-literals, room-made}
use Rattle.extract_step.proofs.made.Goals as goal
use Rattle.extract_step.proofs.made.Goals.{After-literals-literals, After-put_nodes-to, After-put_own-end}

-- ---- what holds there

-- the nodes rewritten by the plain literal of the next free number
laid : (c : After-put_nodes-to) → LaidNodes c.put_nodes-to.new.out c.put_nodes-to.new.sizes c.put_nodes-to.result (rewritten c.requires)
laid c = laid-as c.requires (omega (arith, c.plain-x.ensures, c.requires.number)) c.put_nodes-to.ensures

-- the divisor's own node stands after the others
whole : (w : After-put_own-end) → let a = w.args in
    LaidNodes w.put_own-end.new.out (set w.put_nodes-to.new.sizes (a.m + a.k) (w.put_own-end.result - w.put_nodes-to.result))
    w.put_own-end.result (nodes (after w.requires))
whole w = step-laid w.requires (laid-as w.requires (omega (arith, w.plain-x.ensures, w.requires.number)) w.put_nodes-to.ensures) w.put_own-end.ensures

rows : (w : After-put_own-end) → cube_count (after w.requires) ≤ most_cubes
rows w =
    let r = w.requires in
    let l = laid-as r (omega (arith, w.plain-x.ensures, r.number)) w.put_nodes-to.ensures in
    omega (arith, laid-count r l, w.own_size.ensures, laid-few r l)

counted : (c : After-literals-literals) → c.literals-literals.result ≡ capped (literal_count (after c.requires))
counted c =
    let r = c.requires in
    let l = laid-as r (omega (arith, c.plain-x.ensures, r.number)) c.put_nodes-to.ensures in
    c.literals-literals.ensures ∙ ap capped (laid-literals r (step-laid r l c.put_own-end.ensures) c.part.ensures.0)

pub overflow_sub-to : goal.overflow_sub-to
overflow_sub-to c = omega (arith, laid-few c.requires (laid (goal.at.overflow_sub-to c).After-put_nodes-to))

pub returns-then-own_size-to : goal.returns-then-own_size-to
returns-then-own_size-to c =
    let r = c.requires in
    rw (room-rows r (omega (arith, laid-count r (laid (goal.at.returns-then-own_size-to c).After-put_nodes-to), c.own_size.ensures))) c.refused.ensures

pub put_own-end-requires : goal.put_own-end-requires
put_own-end-requires c =
    let r = c.requires in
    let f = laid-few r (laid (goal.at.put_own-end-requires c).After-put_nodes-to) in
    (r.divisor, omega (arith, f, laid-places (laid (goal.at.put_own-end-requires c).After-put_nodes-to) f, c.own_size.ensures))

pub returns-then-literals-gt-MOST_LITERALS : goal.returns-then-literals-gt-MOST_LITERALS
returns-then-literals-gt-MOST_LITERALS c =
    rw (room-over c.requires (rows (goal.at.returns-then-literals-gt-MOST_LITERALS c).After-put_own-end) (counted (goal.at.returns-then-literals-gt-MOST_LITERALS c).After-literals-literals) c.if-literals-gt-MOST_LITERALS.true) c.refused-then-literals-gt-MOST_LITERALS.ensures

pub returns : goal.returns
returns c =
    let r = c.requires in
    rw (room-made r (rows (goal.at.returns c).After-put_own-end) (counted (goal.at.returns c).After-literals-literals) c.if-literals-gt-MOST_LITERALS.false) (
      refl,
      record { held = step-held r (whole (goal.at.returns c).After-put_own-end); number = omega (arith, next-number r, r.number); literals = room-literals r (rows (goal.at.returns c).After-put_own-end) (counted (goal.at.returns c).After-literals-literals) c.if-literals-gt-MOST_LITERALS.false },
    )
