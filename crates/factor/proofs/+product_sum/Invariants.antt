-- The cycle of calls {product, sum} ends: the sum's measure is the number of literals, the product's one more. Assumes nothing.
use Prim.Native.Nat.{suc}
use Rattle.expression.specs.{Words.cubes_of, Expression.literals_of}
use Rattle.factor.proofs.+product_sum.Given as goal

abbrev pub decreases-product : goal.decreases-product
decreases-product l = suc (literals_of (cubes_of l.w.now))

abbrev pub decreases-sum : goal.decreases-sum
decreases-sum l = literals_of (cubes_of l.w.now)
