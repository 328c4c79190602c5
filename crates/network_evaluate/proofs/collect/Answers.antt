-- The answers of `network_evaluate::collect`.
use Prim.Native.Nat.{ℕ, ◌<◌, ◌≤◌, ◌-◌, ◌^◌}
use mathlib.Core.Path.{◌≡◌, refl, sym, ◌∙◌, ap, subst}
use mathlib.Core.Bool.{Bool, true, false, cond}
use mathlib.Core.List.{List, [], map}
use mir.Val.{bool_byte}
use native.Mathlib.Omega.{arith}
use lib.ListN.{length}
use Rattle.sets.specs.Masks.{packed}
use Rattle.cube.specs.Cube.{lits}
use Rattle.network.{specs.Parts.nodes_of, proofs.Parts.nodes-length, proofs.Parts.nodes-at, proofs.Parts.outputs-are, specs.Held.most_outputs}
use Rattle.network_known.specs.Known.{some_within}
use Rattle.network_evaluate.proofs.Settling.{Collected, collected-none, collected-small, collected-more, collected-all}
use Rattle.network_evaluate.proofs.collect.Goals as goal
use Rattle.network_evaluate.proofs.collect.Goals.{At-loop-i, Start}

byte-is : (b : Bool) → bool_byte b ≡ cond b 1 0
byte-is true = refl
byte-is false = refl

byte-few : (b : Bool) → bool_byte b ≤ 1
byte-few true = omega arith
byte-few false = omega arith

abbrev held : Start → List (List (List ℕ))
held s = let n = s.args.n.now in nodes_of n.outputs n.counts n.words

many : (s : Start) → length (held s) ≡ s.args.n.now.outputs
many s = let n = s.args.n.now in nodes-length n.counts n.words n.outputs (omega (arith, s.requires.counted))

small : (l : At-loop-i) → l.loop-i.r < 2 ^ most_outputs
small l = collected-small _ _ l.loop-i.i l.loop-i.r l.loop-i.invariant (omega (arith, many (goal.at.At-loop-i l).Start, l.requires.narrow))

pub loop-i-init : goal.loop-i-init
loop-i-init c = collected-none _ _ _ (omega (arith, many (goal.at.loop-i-init c).Start))

pub overflow_mul-r : goal.overflow_mul-r
overflow_mul-r c = omega (arith, small (goal.at.overflow_mul-r c).At-loop-i)

pub overflow_add-r : goal.overflow_add-r
overflow_add-r c = omega (arith, small (goal.at.overflow_add-r c).At-loop-i, c.from.ensures, byte-few c.within.result)

pub loop-i-preserved : goal.loop-i-preserved
loop-i-preserved c =
    let n = c.args.n.now in
    let s = (goal.at.loop-i-preserved c).Start in
    collected-more _ (held s) [] c.loop-i.i (c.loop-i.i - 1) c.loop-i.r _ c.within.result (omega arith) (omega (arith, many s)) c.loop-i.invariant
    (ap (some_within (lits c.args.t)) (nodes-at n.counts n.words n.outputs (c.loop-i.i - 1) (omega arith) ∙ sym c.node-f.ensures.0) ∙ sym c.within.ensures)
    (omega (arith, c.from.ensures, byte-is c.within.result))

pub returns : goal.returns
returns c =
    let n = c.args.n.now in
    let s = (goal.at.returns c).Start in
    collected-all _ (held s) c.loop-i.r (subst (λ x. Collected (some_within (lits c.args.t)) (held s) x c.loop-i.r) (omega arith) c.loop-i.invariant)
    ∙ ap (λ fs. packed (map (some_within (lits c.args.t)) fs)) (sym (outputs-are n.counts n.words n.outputs n.divisors))
