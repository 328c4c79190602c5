-- The meaning of a cube, and of this crate's answers.
use Rattle.std.specs.Prelude.{ℕ, ◌*◌, ◌^◌, List, Bool, cond, ◌&&◌, ltb}
use Rattle.std.proofs.Math.Option.{Option, none, some}
use Rattle.sets.specs.{Sets.insert, Sets.before, Masks.literals}
use Rattle.std.specs.Prelude.{Some, None}
use Rattle.std.specs.Prelude as std
use Rattle.std.specs.declared.cmp.Ordering.{Ordering}
use Rattle.std.specs.declared.cmp.Ordering.TheVariants.{Less, Equal, Greater}
use Rattle.cube.specs.declared.{Cube.Cube, Literal.Literal}

-- how many variables a cube has places for
abbrev pub width : ℕ
width = 64

-- a cube's literals, ascending
abbrev pub lits : Cube → List ℕ
lits c = literals width c.plain c.negated

-- both masks are words of that many bits
abbrev pub fit_cube : Cube → Bool
fit_cube c = ltb c.plain (2 ^ width) && ltb c.negated (2 ^ width)

-- one literal more; a number past the last literal names none, and adds none
abbrev pub joined : ℕ → List ℕ → List ℕ
joined l c = cond (ltb l (2 * width)) (insert l c) c

-- the literal found, if any
abbrev pub answer : std.Option Literal → Option ℕ
answer (Some l) = some l.0
answer None = none

unfoldable pub order_of : List ℕ → List ℕ → Ordering
order_of a b = cond (before a b) Less (cond (before b a) Greater Equal)
