-- What a set of variables becomes where a variable is asked for, and where one is taken out. Assumes nothing.
use Prim.Native.Nat.{ℕ, ◌+◌, ◌/◌, ◌%◌}
use mathlib.Core.Path.{◌≡◌, refl, sym, ap, ap₂, ◌∙◌}
use mathlib.Core.Bool.{Bool, true, false, cond, not, ◌&&◌, ◌||◌, and-true, and-false}
use mathlib.Core.List.{List, [], ◌∷◌}
use native.Mathlib.Omega.{arith}
use lib.Dec.{leb, eqb}
use borrow.Author.Tests.{eq-eqb, ne_eqb, le-leb, lt-leb}
use Rattle.sets.{specs.Lists.keep, specs.Literal.plain_of, specs.Sets.mem, specs.Sets.without, proofs.Sets.keep-mem, proofs.Sets.without-mem}
use Rattle.sets.proofs.Truth.{compared, below, equal, beyond}
use Rattle.network_reads.{specs.Reading.Marks, proofs.Marking.marks-none, proofs.Marking.marks-plain}
use Rattle.network_hangs.specs.Parts.{Makes}

-- ---- a list where the set has a variable, and nothing where it does not

module _ {set : List ℕ} (v : ℕ) where
  pub asked-yes : {r : List ℕ} (f : List ℕ) → mem (plain_of v) set ≡ true → Marks r f → Makes set r (λ l. cond (mem v l) f [])
  asked-yes f e p = record { each = λ l q. rw (sym (marks-plain q v) ∙ e) p }

  pub asked-no : {r : List ℕ} (f : List ℕ) → mem (plain_of v) set ≡ false → r ≡ [] → Makes set r (λ l. cond (mem v l) f [])
  asked-no f e p = record { each = λ l q. rw (sym (marks-plain q v) ∙ e) (marks-none p) }

-- ---- the variables from n on

pub above-first : (set : List ℕ) → Makes set set (keep (λ u. leb 0 u))
above-first set = record {
  each = λ l p. record {
    each = λ x. p.each x
        ∙ ap (eqb (x % 2) 0 &&◌) (sym (keep-mem (λ u. leb 0 u) (x / 2) l ∙ ap (mem (x / 2) l &&◌) (le-leb 0 (x / 2) (omega arith)) ∙ and-true (mem (x / 2) l)));
  };
}

-- one variable taken out
pub above-next : {set left r one : List ℕ} (v : ℕ) → Marks one (v ∷ []) → r ≡ without left one → Makes set left (keep (λ u. leb v u))
    → Makes set r (keep (λ u. leb (v + 1) u))
unfolding mem
above-next {set} {left} {r} {one} v s e m = record {
  each = λ l p. record {
    each = λ x.
        ap (mem x) e ∙ without-mem x left one
        ∙ ap₂ (λ (a b : Bool). a && not b) ((m.each l p).each x ∙ ap (eqb (x % 2) 0 &&◌) (keep-mem (λ u. leb v u) (x / 2) l)) (s.each x)
        ∙ turn (x / 2) (eqb (x % 2) 0) (mem (x / 2) l)
        ∙ ap (eqb (x % 2) 0 &&◌) (sym (keep-mem (λ u. leb (v + 1) u) (x / 2) l));
  };
}
  where
    turn : (u : ℕ) (b a : Bool) → ((b && (a && leb v u)) && not (b && (eqb u v || false))) ≡ (b && (a && leb (v + 1) u))
    turn u b a = elim (compared u v) [
      | below h _ _ ↦ rw (lt-leb v u h, lt-leb (v + 1) u (omega arith), ne_eqb u v (λ q. omega arith), and-false a, and-false b)
      | equal h _ _ ↦ rw (le-leb v u (omega arith), lt-leb (v + 1) u (omega arith), eq-eqb u v h, and-true a, and-false a, and-true b, and-false b) (here b)
      | beyond h _ _ ↦ rw (le-leb v u (omega arith), le-leb (v + 1) u (omega arith), ne_eqb u v (λ q. omega arith), and-false b) (and-true (b && (a && true)))
    ]
      where
        here : (b : Bool) → ((b && a) && not b) ≡ false
        here true = and-false a
        here false = refl
