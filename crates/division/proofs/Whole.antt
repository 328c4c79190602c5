-- What the steps of a division leave: the dividend in cube order, the quotient and the remainder, each in a room of its own. Assumes nothing.
use Prim.Native.Nat.{ℕ, ◌*◌, ◌≤◌}
use mathlib.Core.Path.{◌≡◌, sym, ◌∙◌, ap, subst}
use mathlib.Core.{Bool.true, List.List}
use lib.ListN.{length, replicate, length-replicate}
use Rattle.sets.specs.Lists.{keep}
use Rattle.expression.specs.Words.{cube_words, cubes_of, Appends}
use Rattle.expression.{specs.Expression.sort, specs.Expression.ordered, specs.Answers.most_handed, proofs.Words.room-cubes}
use Rattle.expression.proofs.{Placing.appends-as, Sorting.sort-length, Sorting.expression-sort}
use Rattle.division.specs.Division.{quotient, remainder}
use Rattle.division.specs.Parts.{OrderedRoom, unsorted_quotient, spared, spared_of}
use Rattle.division.proofs.{Quotients.quotient-form, Making.made-quotient, Making.made-remainder}
use Rattle.division.proofs.Refusing.{Admissible}

-- a room for an expression handed in
abbrev pub blank : List ℕ
blank = replicate (cube_words * most_handed) 0

blank-length : length (cubes_of blank) ≡ most_handed
blank-length = room-cubes blank most_handed (length-replicate {A = ℕ} (cube_words * most_handed) 0)

module _ {f d : List ℕ} (m : Admissible f d) where
  pub blank-room : length (cubes_of f) ≤ length (cubes_of blank)
  blank-room = subst (λ n. length (cubes_of f) ≤ n) (sym blank-length) m.dividend.few

  module _ (s : List ℕ) (e : cubes_of s ≡ sort (cubes_of f)) where
    pub sorted-room : length (cubes_of s) ≤ length (cubes_of blank)
    sorted-room = rw (e, sort-length (cubes_of f)) blank-room

    pub sorted-ready : OrderedRoom s blank
    sorted-ready = record { order = rw e (expression-sort (cubes_of f) m.dividend.cubes).1; room = sorted-room }

    pub listed-quotient : {old new : List ℕ} {n : ℕ} → Appends old new 0 (sort (unsorted_quotient (cubes_of s) (cubes_of d))) n
        → Appends old new 0 (quotient (cubes_of f) (cubes_of d)) n
    listed-quotient l =
        appends-as (ap (λ g. sort (unsorted_quotient g (cubes_of d))) e
        ∙ made-quotient (cubes_of f) (cubes_of d) m.dividend.cubes m.divisor.cubes m.filled) l

    module _ (q : List ℕ) (h : cubes_of q ≡ quotient (cubes_of f) (cubes_of d)) where
      pub quotient-order : ordered (cubes_of q) ≡ true
      quotient-order = rw h (quotient-form (cubes_of f) (cubes_of d) m.dividend.cubes m.divisor.cubes).1

      pub listed-remainder : {old new : List ℕ} {n : ℕ} → Appends old new 0 (spared_of q d s) n → Appends old new 0 (remainder (cubes_of f) (cubes_of d)) n
      listed-remainder l =
          appends-as
          (ap (λ g. keep (spared g (cubes_of d)) (cubes_of s)) h ∙ ap (keep (spared (quotient (cubes_of f) (cubes_of d)) (cubes_of d))) e
          ∙ made-remainder (cubes_of f) (cubes_of d) m.dividend.cubes m.divisor.cubes m.filled) l
