-- `blif_read::build::put_named` meets its contract: the block found is the one that defines the name, and where there is one, it is found.
-- Assumes nothing.
use mathlib.Core.Path.{sym, ap, ◌∙◌}
use native.Mathlib.Omega.{arith}
use lib.ListN.{length}
use Rattle.expression.{proofs.Sorting.sort-length, proofs.Placing.placed-as}
use Rattle.blif_read.proofs.{Summing.one_block, Building.one-cubes, Building.small-in}
use Rattle.blif_read.proofs.build.put_named.Goals as goal

pub returns-in-None : goal.returns-in-None
returns-in-None c =
    (λ m bs h k l one small room. let b = one_block _ bs one in absurd (c.in-None.ensures m bs h k l b.0 b.1 (sym b.2)), omega arith)

pub returns-in-Some : goal.returns-in-Some
returns-in-Some c = (
  λ m bs h k l one small room.
      let g = c.in-Some.ensures m bs h k l in
      let e = one-cubes _ bs g.block one g.inside g.name in
      let q = sort-length g.block.cubes in
      let a = c.put_node.ensures.0 m g.block g.more h (small-in bs l g.inside) g.is (small g.block g.inside)
      (omega (arith, ap length e)) in
      (a.0 ∙ sym q ∙ ap length (sym e), placed-as (sym e) a.1),
  c.put_node.ensures.1,
)
