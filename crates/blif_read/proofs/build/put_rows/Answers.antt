-- The answers of `blif_read::build::put_rows`.
use mathlib.Core.Path.{refl}
use native.Mathlib.Omega.{arith}
use borrow.Author.Rules.{rules}
use Rattle.blif_read.proofs.Putting.{rows-first, rows_next, rows-over, rows-full, rows_all}
use Rattle.blif_read.proofs.build.put_rows.Goals as goal

pub loop-i-init : goal.loop-i-init
loop-i-init c = (refl, λ ws more g h l. rows-first _ _ h l)

pub returns-in_default : goal.returns-in_default
returns-in_default c = record {
  within = omega (arith, c.number-room.ensures);
  put = λ ws more g k l. let t = c.loop-i.invariant.1 ws more g k l in rows_all t (rows-over t c.in_default.ensures);
}

pub loop-i-preserved : goal.loop-i-preserved
loop-i-preserved c = (
  search rules,
  λ ws more o d l. rows_next (c.loop-i.invariant.1 ws more o d l) o c.in-Some.ensures c.read_signs.ensures c.put_cube.ensures,
)

pub returns : goal.returns
returns c = record {
  within = omega (arith, c.saturating_sub.ensures, c.number-room.ensures);
  put = λ ws more g k l.
      let t = c.loop-i.invariant.1 ws more g k l in
      let q = rows_all t (rows-full t (omega (arith, c.number-room.ensures))) in
      (omega (arith, q.0, c.saturating_sub.ensures, c.number-room.ensures), q.1);
}
