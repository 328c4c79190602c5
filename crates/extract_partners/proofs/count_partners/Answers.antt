-- The answers of `extract_partners::count_partners`.
use Prim.Native.Nat.{ℕ, ◌<◌}
use mathlib.Core.Path.{◌≡◌, refl}
use native.Mathlib.Omega.{arith}
use lib.ListN.{length, get_or}
use Rattle.expression.specs.Words.{cubes_of}
use Rattle.extract_partners.specs.Table.{place_of}
use Rattle.extract_partners.proofs.Chains.{Walk, walk_first, walk_end, walk_at, walk-place, walk-below, walk-falls, walk-met, walk-passed}
use Rattle.extract_partners.proofs.count_partners.Goals as goal
use Rattle.extract_partners.proofs.count_partners.Goals.{At-loop-at, In-loop-at, then-r-at, else-r-at}

pub loop-at-init : goal.loop-at-init
loop-at-init c s l =
    walk_first _ _ _ _ _ _ s l _ _ _ (omega arith) refl

-- in a turn of the loop the walk stands at a removal
going : (h : At-loop-at) → Walk (cubes_of h.args.f.now) h.args.ws.now h.args.r.now h.args.e
    (get_or h.args.ws.now h.args.e 0) h.args.code h.requires.0 h.requires.3 h.args.t.now h.args.g.now h.loop-at.t h.loop-at.g h.loop-at.at
going h = h.loop-at.invariant h.requires.0 h.requires.3

entry : (c : In-loop-at) → ℕ
entry c = (walk_at _ _ _ _ _ _ c.requires.0 c.requires.3 (c.loop-at.invariant c.requires.0 c.requires.3) c.loop-at-test.true).entry

place : (c : In-loop-at) → c.loop-at.at ≡ place_of (entry c)
unfolding entry
place c = walk-place _ _ _ _ _ _ c.requires.0 c.requires.3 (c.loop-at.invariant c.requires.0 c.requires.3) c.loop-at-test.true

within : (c : In-loop-at) → (entry c < length c.args.ws.now) × (entry c < 16384)
unfolding entry
within c =
    let b = walk-below _ _ _ _ _ _ c.requires.0 c.requires.3 (c.loop-at.invariant c.requires.0 c.requires.3) c.loop-at-test.true in
    (omega (arith, c.requires.1), omega (arith, c.requires.1, c.requires.2))

pub loop-at-smaller : goal.loop-at-smaller
loop-at-smaller c =
    omega (arith, walk-falls _ _ _ _ _ _ c.requires.0 c.requires.3 (going (goal.at.loop-at-smaller c).At-loop-at) c.loop-at-test.true)

pub loop-at-preserved : goal.loop-at-preserved
loop-at-preserved c s l =
    let n = c.loop-at.invariant s l in
    elim c.if-r-at.branch [
      | then-r-at w ↦ rw (w.t-is, w.g-is)
          (walk-met _ _ _ _ _ _ s l n c.loop-at-test.true (omega (arith, walk-place _ _ _ _ _ _ s l n c.loop-at-test.true)) refl
          w.count_use.ensures)
      | else-r-at w ↦ rw (w.t-is, w.g-is) (walk-passed _ _ _ _ _ _ s l n c.loop-at-test.true w.if-r-at.false refl)
    ]

pub returns : goal.returns
returns c = walk_end _ _ _ _ _ _ c.requires.0 c.requires.3 (going (goal.at.returns c).At-loop-at) c.loop-at-test.false

pub overflow_add-at : goal.overflow_add-at
overflow_add-at c = omega (arith, place c, within c)

pub offset_bounds-r-at : goal.offset_bounds-r-at
offset_bounds-r-at c = omega (arith, place c, within c)

pub bounds-r-at : goal.bounds-r-at
bounds-r-at c = omega (arith, place (goal.at.bounds-r-at c).In-loop-at, within (goal.at.bounds-r-at c).In-loop-at)

pub offset_bounds-ws-at : goal.offset_bounds-ws-at
offset_bounds-ws-at c = omega (arith, place (goal.at.offset_bounds-ws-at c).In-loop-at, within (goal.at.offset_bounds-ws-at c).In-loop-at)

pub bounds-ws-at : goal.bounds-ws-at
bounds-ws-at c = omega (arith, place (goal.at.bounds-ws-at c).In-loop-at, within (goal.at.bounds-ws-at c).In-loop-at)

pub offset_bounds-r-at-in-loop-at : goal.offset_bounds-r-at-in-loop-at
offset_bounds-r-at-in-loop-at c = omega (arith, place (goal.at.offset_bounds-r-at-in-loop-at c).In-loop-at, within (goal.at.offset_bounds-r-at-in-loop-at c).In-loop-at)

pub bounds-r-at-in-loop-at : goal.bounds-r-at-in-loop-at
bounds-r-at-in-loop-at c = omega (arith, place (goal.at.bounds-r-at-in-loop-at c).In-loop-at, within (goal.at.bounds-r-at-in-loop-at c).In-loop-at)
