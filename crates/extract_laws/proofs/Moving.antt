-- What a network allows: nothing where no divisor has a weight above 0, else the best step, unless the numbers or the rows are used up. Assumes nothing.
use mathlib.Core.Path.{◌≡◌, refl, subst}
use mathlib.Core.Logic.{◌↔◌}
use mathlib.Core.Bool.{Bool, true, false, cond}
use mathlib.Core.Option.{Option, none, some}
use lib.Dec.{ltb}
use lib.IntN.{pos}
use lib.Signed.{lt_z}
use borrow.Author.Tests.{ltb-true, ltb-false, lt-ltb, le-ltb}
use Rattle.sets.proofs.{Truth.clash, Orders.not_after}
use Rattle.network.specs.Net.{Net, variables, cube_count}
use Rattle.network.specs.Held.{most_variables, most_cubes}
use Rattle.extract_laws.specs.Divisor.{Divisor}
use Rattle.extract_laws.specs.Extract.{weight, best, step}
use Rattle.extract_laws.specs.Run.{numbers, rows, Move, finished, stuck, makes, room_for, choose, move_of}
use Rattle.extract_laws.specs.Meaning.{Foremost, Worth, Done, Allows}
use Rattle.extract_laws.specs.Meaning.Allows.{nothing, no_number, no_rows, next}
use Rattle.extract_laws.proofs.Choosing.{heavier-order, best-iff, best_none, best-unique}

module _ (n : Net) where
  -- where a divisor has a weight above 0, not nothing is left
  pub worth-done : {d : Divisor} → Worth n d → Done n → ⊥
  worth-done {d} w h = clash w.above (h d w.best.chosen)

  -- and it is one divisor
  pub worth-one : {d e : Divisor} → Worth n d → Worth n e → d ≡ e
  worth-one {d} {e} w v = best-unique n d e w.best v.best

  move-allows : Allows n (move_of n)
  unfolding move_of choose room_for
  move-allows = go (best n) refl
    where
      fits : (d : Divisor) → Worth n d → (b c : Bool) → ltb (variables n) most_variables ≡ b → ltb most_cubes (cube_count (step n d)) ≡ c
          → Allows n (cond b (cond c (stuck rows) (makes d)) (stuck numbers))
      fits d w true true p q = no_rows w (ltb-true _ _ p) (ltb-true _ _ q)
      fits d w true false p q = next w (ltb-true _ _ p) (ltb-false _ _ q)
      fits d w false c p q = no_number w (ltb-false _ _ p)

      weigh : (d : Divisor) → Foremost n d → (b : Bool) → lt_z (pos 0) (weight n d) ≡ b
          → Allows n (cond b (cond (ltb (variables n) most_variables) (cond (ltb most_cubes (cube_count (step n d))) (stuck rows) (makes d)) (stuck numbers))
          finished)
      weigh d t true p = fits d (record { best = t; above = p }) (ltb (variables n) most_variables) (ltb most_cubes (cube_count (step n d))) refl refl
      weigh d t false p = nothing (λ e m. not_after (λ u v. lt_z v u) heavier-order (weight n e) (weight n d) (pos 0) (t.heaviest e m) p)

      go : (o : Option Divisor) → best n ≡ o → Allows n (choose n o)
      go none e = nothing (λ d m. absurd (best_none n e d m))
      go (some d) e = weigh d ((best-iff n d).0 e) (lt_z (pos 0) (weight n d)) refl

  allows-move : {m : Move} → Allows n m → move_of n ≡ m
  unfolding move_of choose room_for
  allows-move (nothing h) = go (best n) refl
    where
      go : (o : Option Divisor) → best n ≡ o → choose n o ≡ finished
      go none e = refl
      go (some d) e = rw (h d ((best-iff n d).0 e).chosen)
  allows-move (no_number {d = d} w l) = rw ((best-iff n d).1 w.best, w.above, le-ltb (variables n) most_variables l)
  allows-move (no_rows {d = d} w l k) = rw ((best-iff n d).1 w.best, w.above, lt-ltb (variables n) most_variables l, lt-ltb most_cubes (cube_count (step n d)) k)
  allows-move (next {d = d} w l k) = rw ((best-iff n d).1 w.best, w.above, lt-ltb (variables n) most_variables l, le-ltb most_cubes (cube_count (step n d)) k)

  -- what a network allows, in the order done, numbers, rows
  pub move-iff : (m : Move) → (move_of n ≡ m) ↔ Allows n m
  move-iff m = (λ e. subst (Allows n) e move-allows, allows-move)
