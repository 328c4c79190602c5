-- The answers of the next word.
use Prim.Native.Nat.{◌≤◌}
use Rattle.std.proofs.Common.{ap, rules, arith, length}
use Rattle.std.proofs.lemmas.Grind.{common_steps}
use Rattle.drive_request.proofs.Splitting.{words-none, words-first}
use Rattle.drive_request.proofs.WordsIterator.next.Goals as goal

pub returns-then-is_empty-clause-steps : goal.returns-then-is_empty-clause-steps
returns-then-is_empty-clause-steps c = let e = words-none c.args.self.now.0.now (grind (arith, common_steps)) in (e, e)

pub returns-clause-steps : goal.returns-clause-steps
returns-clause-steps c =
    let h : 1 ≤ length c.args.self.now.0.now = grind (arith, common_steps) in
    let e = words-first c.args.self.now.0.now h in grind (arith, common_steps, e)

pub returns-clause-goes : goal.returns-clause-goes
returns-clause-goes c =
    let h : 1 ≤ length c.args.self.now.0.now = grind (arith, common_steps) in
    let e = ap length (words-first c.args.self.now.0.now h) in search (rules, e)
