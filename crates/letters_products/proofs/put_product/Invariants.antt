-- `letters_products::put_product` meets its contract. The loop's invariant: the literals that have not come are due. Assumes nothing.
use Rattle.cube.specs.Cube.{lits}
use Rattle.letters.proofs.Laying.{Due}
use Rattle.letters_products.specs.Products.{cube_text}
use Rattle.letters_products.proofs.Texts.{starred}
use Rattle.letters_products.proofs.put_product.Given as goal

abbrev pub invariant-loop-l : goal.invariant-loop-l
invariant-loop-l l = Due l.fn.o l.fn.at (cube_text (lits l.fn.c)) l.o l.p (starred (lits l.l-iterator.rest))
