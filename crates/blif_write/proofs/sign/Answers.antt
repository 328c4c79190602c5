-- `blif_write::sign` meets its contract: the plain literal decides, and then the negated one. Assumes nothing.
use Prim.Native.Nat.{ℕ}
use mathlib.Core.Path.{◌≡◌, sym, ap, ◌∙◌}
use mathlib.Core.Bool.{Bool}
use mathlib.Core.List.{List}
use native.Mathlib.Omega.{arith}
use Rattle.sets.specs.{Literal.plain_of, Literal.negated_of, Sets.mem}
use Rattle.cube.specs.Cube.{lits}
use Rattle.blif_laws.specs.Text.{sign_of}
use Rattle.blif_write.proofs.sign.Goals as goal

-- whether a set has a literal, by what was tested
had : (c : List ℕ) (l k : ℕ) (x : Bool) → l ≡ k → x ≡ mem k c → mem l c ≡ x
had c l k x e h = ap (λ (j : ℕ). mem j c) e ∙ sym h

pub returns-then-has : goal.returns-then-has
unfolding sign_of
returns-then-has c =
    rw (had (lits c.args.c) (plain_of c.args.v) c.plain.result.0 _ (omega (arith, c.plain.ensures, c.requires)) c.if-has.ensures)

pub returns-then-has-2 : goal.returns-then-has-2
unfolding sign_of
returns-then-has-2 c = rw (
  had (lits c.args.c) (plain_of c.args.v) c.plain.result.0 _ (omega (arith, c.plain.ensures, c.requires)) c.if-has.ensures,
  had (lits c.args.c) (negated_of c.args.v) c.negated.result.0 _ (omega (arith, c.negated.ensures, c.requires)) c.if-has-2.ensures,
)

pub returns-else-has-2 : goal.returns-else-has-2
unfolding sign_of
returns-else-has-2 c = rw (
  had (lits c.args.c) (plain_of c.args.v) c.plain.result.0 _ (omega (arith, c.plain.ensures, c.requires)) c.if-has.ensures,
  had (lits c.args.c) (negated_of c.args.v) c.negated.result.0 _ (omega (arith, c.negated.ensures, c.requires)) c.if-has-2.ensures,
)
