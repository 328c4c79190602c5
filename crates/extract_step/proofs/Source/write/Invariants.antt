-- `extract_step::Source::write` meets its contract. The loop's invariant: what the cubes passed become stands from place `at` on. Assumes nothing.
use Rattle.std.proofs.Common.{map}
use Rattle.std.specs.List.{filter_map}
use Rattle.cube.specs.Cube.{lits}
use Rattle.expression.specs.Words.{cubes_of, Appends}
use Rattle.extract_divisor.specs.Divisor.{divisor_of}
use Rattle.extract_step.specs.Parts.{fate}
use Rattle.extract_step.proofs.Source.write.Given as goal

abbrev pub invariant-loop-c : goal.invariant-loop-c
invariant-loop-c l =
    Appends l.initial.out l.out l.at (filter_map (fate l.self.literal.0 (divisor_of l.self.divisor) (cubes_of l.self.cubes.now)) (map lits l.yielded)) l.to
