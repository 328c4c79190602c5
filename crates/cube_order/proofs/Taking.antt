-- The literals of a cube taken one after the other, the smallest first. Assumes nothing.
use Prim.Native.Nat.{ℕ, ◌*◌, ◌<◌}
use mathlib.Core.Path.{◌≡◌, refl, sym, ◌∙◌, ap}
use mathlib.Core.{Bool.true, Bool.cond, Option.none, Option.some}
use mathlib.Core.List.{List, [], ◌∷◌}
use native.Mathlib.Omega.{arith}
use lib.Dec.{leb}
use borrow.Author.Tests.{le-leb, lt-ltb}
use Rattle.sets.specs.Sets.{asc, insert, without, first_from}
use Rattle.sets.proofs.{First.some-not-none, Removal.without-here, Removal.without-absent, Sets.head-once}
use Rattle.cube.specs.Cube.{lits, answer, joined, width}
use Rattle.std.specs.Prelude as std
use Rattle.std.specs.Prelude.{Some, None}
use Rattle.cube.specs.declared.{Cube.Cube}
use Rattle.cube.{specs.declared.Literal.Literal, proofs.Lits.lits-asc, proofs.Lits.first-inside}

first-none : (c : List ℕ) → first_from 0 c ≡ none → c ≡ []
unfolding first_from
first-none [] h = refl
first-none (x ∷ c) h = some-not-none {x = x} (cond (leb 0 x) (some x) (first_from 0 c)) (rw (le-leb 0 x (omega arith))) h

first_some : (c : List ℕ) (x : ℕ) → asc c ≡ true → first_from 0 c ≡ some x → c ≡ x ∷ without c (x ∷ [])
unfolding first_from
first_some [] x a h = some-not-none {x = x} none h refl
first_some (y ∷ c) x a h =
    let s : some y ≡ some x = rw (le-leb 0 y (omega arith)) at h in
    let e : x ≡ y = cc in
    rw e (ap (y ∷◌) (sym (without-here y c ∙ without-absent y c (head-once y c a))))

-- the cube of one literal
joined-one : (x : ℕ) (e : List ℕ) → x < 2 * width → e ≡ [] → joined x e ≡ x ∷ []
unfolding insert
joined-one x e h z = rw (z, lt-ltb x (2 * width) h)

-- what is found in a cube is its smallest literal, and the cube is that literal and what is left
module _ (c : Cube) {f : std.Option Literal} (h : answer f ≡ first_from 0 (lits c)) where
  pub taken_none : f ≡ None → lits c ≡ []
  taken_none e = first-none (lits c) (sym h ∙ ap answer e)

  module _ {l : Literal} (e : f ≡ Some l) where
    told : first_from 0 (lits c) ≡ some l.0
    told = sym h ∙ ap answer e

    pub taken-small : l.0 < 2 * width
    taken-small = first-inside c 0 l.0 (sym told)

    pub taken-some : lits c ≡ l.0 ∷ without (lits c) (l.0 ∷ [])
    taken-some = first_some (lits c) l.0 (lits-asc c) told

    pub taken_next : {a b d : List ℕ} → a ≡ [] → b ≡ joined l.0 a → d ≡ without (lits c) b → lits c ≡ l.0 ∷ d
    taken_next {a} z p q = taken-some ∙ ap (l.0 ∷◌) (ap (without (lits c)) (sym (p ∙ joined-one l.0 a taken-small z)) ∙ sym q)
