-- Marks: raised by no number, and by one list after another. Assumes nothing.
use Prim.Native.Nat.{ℕ, ◌+◌}
use mathlib.Core.Path.{refl, ◌∙◌}
use mathlib.Core.Bool.{cond}
use mathlib.Core.List.{List, [], ◌++◌}
use native.Mathlib.Omega.{arith}
use lib.Dec.{eqb}
use Rattle.sets.proofs.{Lists.total-append}
use Rattle.blif_lines.specs.Marking.{Raised}

-- ---- raised

pub raised-none : (base : ℕ) (o : List ℕ) → Raised base [] o o
raised-none base o = record { size = refl; each = λ i h k. omega arith }

pub raised-on : {base : ℕ} {l m o p q : List ℕ} → Raised base l o p → Raised base m p q → Raised base (l ++ m) o q
raised-on {base} {l} {m} {o} {p} {q} x y = record {
  size = y.size ∙ x.size;
  each = λ i h k.
      let a = x.each i h k in
      let b = y.each i (omega (arith, x.size)) (omega (arith, a)) in
      omega (arith, a, b, total-append (λ u. cond (eqb (base + i) u) 1 0) l m);
}
