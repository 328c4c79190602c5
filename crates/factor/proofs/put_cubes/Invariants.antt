-- `factor::put_cubes` meets its contract. The loop's invariant: the cubes that have not come are due. Assumes nothing.
use Rattle.expression.specs.Words.{cubes_of}
use Rattle.factor.specs.Text.{sum_text}
use Rattle.letters.proofs.Laying.{Due}
use Rattle.factor.proofs.Texts.{plussed}
use Rattle.factor.proofs.put_cubes.Given as goal

abbrev pub invariant-loop-c : goal.invariant-loop-c
invariant-loop-c l = Due l.fn.o l.fn.at (sum_text (cubes_of l.fn.f)) l.o l.p (plussed (cubes_of l.c-iterator.words.now))
