-- `extract_choice::count_in` meets its contract. The loop's invariant: what is counted and what is left make up all. Assumes nothing.
use Rattle.cube.specs.Cube.{lits}
use Rattle.expression.specs.Words.{cubes_of}
use Rattle.extract_choice.proofs.Counting.{Counting}
use Rattle.extract_choice.proofs.count_in.Given as goal

abbrev pub invariant-loop-c : goal.invariant-loop-c
invariant-loop-c l = Counting (lits l.a) (lits l.b) (cubes_of l.s) (cubes_of l.c-iterator.words.now) l.r
