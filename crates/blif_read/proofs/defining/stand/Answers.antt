-- The answers of `blif_read::defining::stand`.
use mathlib.Core.Path.{◌∙◌}
use Rattle.blif_read.proofs.Counting.{tally-next, tally-done}
use Rattle.blif_read.proofs.defining.stand.Goals as goal

pub loop-b-preserved : goal.loop-b-preserved
loop-b-preserved c = (
  c.in-Some.ensures.size ∙ c.loop-b.invariant.0,
  λ m bs f b k. tally-next f (c.loop-b.invariant.1 m bs f b k) c.in-Some.ensures (λ b e r. r),
)

pub returns : goal.returns
returns c = λ m bs f b k.
    let x = c.loop-b.invariant.1 m bs f b k in
    let q = c.in_default.ensures in
    rw (q.none m x.place.rest f x.place.blocks x.place.small).1 (tally-done f x q)
