-- `image_write::node_bits` meets its contract: a node of few cubes has few literals. Assumes nothing.
use Prim.Native.Nat.{ℕ}
use mathlib.Core.{Path.◌≡◌, Path.◌∙◌, List.List}
use native.Mathlib.Omega.{arith}
use borrow.Author.Tests.{lt-ltb}
use Rattle.expression.{specs.Words.cubes_of, specs.Expression.literals_of, proofs.Words.literals-most}
use Rattle.image_laws.proofs.Fielding.{node-bits-length}
use Rattle.image_write.proofs.node_bits.Goals as goal
use Rattle.image_write.proofs.node_bits.Goals.{After-literals}

abbrev words : After-literals → List ℕ
words c = c.args.f.now

-- nothing is capped
literals-are : (c : After-literals) → c.literals.result ≡ literals_of (cubes_of (words c))
literals-are c =
    c.literals.ensures ∙ rw (lt-ltb (literals_of (cubes_of (words c))) 18446744073709551616 (omega (arith, literals-most (words c), c.requires)))

pub returns : goal.returns
returns c =
    let n = c.number-cubes.ensures in
    let t = literals-are c in
    (omega (arith, node-bits-length (cubes_of (words c))), omega (arith, literals-most (words c), c.requires))

pub overflow_mul-result : goal.overflow_mul-result
overflow_mul-result c = omega (arith, literals-are c, literals-most (words c), c.requires)

pub overflow_add-result : goal.overflow_add-result
overflow_add-result c = omega (arith, literals-are c, literals-most (words c), c.requires, c.number-cubes.ensures)

pub overflow_add-result-2 : goal.overflow_add-result-2
overflow_add-result-2 c = omega (arith, literals-are c, literals-most (words c), c.requires, c.number-cubes.ensures)
