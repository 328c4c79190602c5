-- What holds after each line that goes on: the numbers are in range, the rows few enough, the cube lines of the shape that `.i` and `.o` say. Assumes nothing.
use Prim.Native.Nat.{ℕ, ◌+◌, ◌≤◌}
use mathlib.Core.Path.{◌≡◌, refl, sym, subst}
use mathlib.Core.{Logic.⊎_elim, Bool.true, Option.Option}
use mathlib.Core.List.Memᴰ
use mathlib.Core.List.{List, [], ◌∷◌}
use native.Mathlib.Omega.{arith}
use lib.ListN.{length, length-append}
use borrow.Author.Tests.{le-leb}
use Rattle.sets.proofs.Lists.{◌∈◌, total-append}
use Rattle.network.specs.Held.{most_inputs, most_outputs, up_to}
use Rattle.table_rows.{specs.Lines.CubeLine, specs.Lines.rows_in, specs.Meaning.LineOf, proofs.Writing.line-shaped}
use Rattle.table_columns.specs.Columns.{or_zero}
use Rattle.table.specs.Table.{State, start}
use Rattle.table.specs.Meaning.{Bounded, Timely, Goes, blank, inputs, outputs, products, cube, Reads, nothing, line}

pub start-bounded : Bounded start
start-bounded = record { wide = refl; tall = refl; rows = omega arith; shaped = λ l m. absurd (Memᴰ.not-nil m) }

up-to : (most n : ℕ) → 1 ≤ n → n ≤ most → up_to most n ≡ true
up-to most n a b = rw (le-leb 1 n a, le-leb n most b)

-- in time there is no cube line
none_in : {x : CubeLine} {o : Option ℕ} {l : List CubeLine} → Timely o l → x ∈ l → ⊥
none_in {x} h m = Memᴰ.not-nil (subst (λ (z : List CubeLine). x ∈ z) h.first m)

pub goes-bounded : {s t : State} {c : List ℕ} → Bounded s → Goes s c t → Bounded t
goes-bounded g (blank k) = g
goes-bounded g (inputs n k h a b) = record { wide = up-to most_inputs n a b; tall = g.tall; rows = g.rows; shaped = λ x i. absurd (none_in h i) }
goes-bounded g (outputs n k h a b) = record { wide = g.wide; tall = up-to most_outputs n a b; rows = g.rows; shaped = λ x i. absurd (none_in h i) }
goes-bounded g (products n k h b) = record { wide = g.wide; tall = g.tall; rows = g.rows; shaped = g.shaped }
goes-bounded {s} {c = c} g (cube n m l k p q e h) = record {
  wide = g.wide;
  tall = g.tall;
  rows = omega (arith, total-append rows_in s.lines (l ∷ []));
  shaped = λ x i. ⊎_elim (λ a. g.shaped x a) (λ a. subst (LineOf _ _) (sym (Memᴰ.eq_of_singleton a)) this) (Memᴰ.append_cases s.lines i);
}
  where
    this : LineOf (or_zero s.wide) (or_zero s.tall) l
    this = rw (p, q) (line-shaped n m c l e)

-- one cube line is added at most
pub goes-more : {s t : State} {c : List ℕ} → Goes s c t → length t.lines ≤ length s.lines + 1
goes-more (blank k) = omega arith
goes-more (inputs n k h a b) = omega arith
goes-more (outputs n k h a b) = omega arith
goes-more (products n k h b) = omega arith
goes-more {s} (cube n m l k p q e h) = omega (arith, length-append s.lines (l ∷ []))

-- what holds after each line holds after them all
pub read-bounded : {s t : State} {ls : List (List ℕ)} → Reads s ls t → Bounded s → Bounded t
read-bounded nothing g = g
read-bounded (line e r) g = read-bounded r (goes-bounded g e)
