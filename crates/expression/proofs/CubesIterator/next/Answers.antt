-- The answers of the next cube.
use Prim.Native.Nat.{ℕ, ◌-◌, ◌≤◌}
use mathlib.Core.Path.{◌≡◌, ◌∙◌, ap, sym}
use mathlib.Core.List.{List, ◌∷◌}
use native.Mathlib.Omega.{arith}
use borrow.Author.Rules.{rules}
use lib.ListN.{length, take, drop, get_or}
use lib.Seq.{take_all}
use Rattle.sets.specs.Masks.{literals}
use Rattle.cube.specs.Cube.{width}
use Rattle.expression.specs.Words.{cubes_of}
use Rattle.expression.proofs.Words.{cubes-first, cubes-none}
use Rattle.expression.proofs.CubesIterator.next.Goals as goal

pub returns-in_default-clause-steps : goal.returns-in_default-clause-steps
returns-in_default-clause-steps c = (cubes-none _ c.in_default.len_below, cubes-none _ c.in_default.len_below)

pub returns-clause-steps : goal.returns-clause-steps
returns-clause-steps c = cubes-first _ c.in-len2-up.len_at_least

pub returns-clause-goes : goal.returns-clause-goes
returns-clause-goes c = let e = ap length (cubes-first _ c.in-len2-up.len_at_least) in search (rules, e)
