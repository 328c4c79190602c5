-- The lines of a report as the paper prints them. By the clauses of the texts. Assumes nothing.
use Prim.Native.Nat.{ℕ, suc}
use mathlib.Core.Path.{◌≡◌, refl}
use mathlib.Core.List.{List, [], ◌∷◌, ◌++◌}
use lib.IntN.{ℤ, pos, negsuc}
use Rattle.letters.specs.Letters.{decimal}
use Rattle.letters_products.specs.{Products.literal_text, Products.cube_text, Spelled.spelled, Spelled.between}
use Rattle.extract_laws.specs.Divisor.{Divisor, pair, sum}
use Rattle.extract_laws.specs.Run.{Stop, done, asked, numbers, rows, Made}
use Rattle.table.specs.declared.Refusal.{Refusal}
use Rattle.report.specs.Report.{divisor_text, integer, step_line, step_lines, stop_text, run_text, refusal_text}

pub pair-printed : (p q : ℕ) → divisor_text (pair p q) ≡ between "*" (literal_text p ∷ literal_text q ∷ [])
unfolding divisor_text cube_text between spelled
pair-printed p q = refl

pub sum-printed : (a b : List ℕ) → divisor_text (sum a b) ≡ between " + " (cube_text a ∷ cube_text b ∷ [])
unfolding divisor_text between spelled
sum-printed a b = refl

-- a number, and the number below zero with `-` before it
pub weight-printed : (n : ℕ) → (integer (pos n) ≡ decimal n) × (integer (negsuc n) ≡ spelled "-" ++ decimal (suc n))
unfolding integer spelled
weight-printed n = (refl, refl)

pub step-printed : (v : ℕ) (d : Divisor) (w l : ℤ) → step_line v d w l ≡ spelled "x" ++ (decimal v ++
    (spelled " = " ++ (divisor_text d ++ (spelled " weight " ++ (integer w ++ (spelled " now " ++ (integer l ++ spelled "\n")))))))
unfolding step_line spelled
step-printed v d w l = refl

pub run-printed : (a : ℕ) (l : List Made) (e : ℕ) (r : Stop) → run_text a l e r ≡ spelled "start " ++ (decimal a ++
    (spelled "\n" ++ (step_lines l ++ (spelled "end " ++ (decimal e ++ stop_text r)))))
unfolding run_text spelled
run-printed a l e r = refl

pub stop-printed : (stop_text done ≡ spelled " done\n") × (stop_text asked ≡ spelled " asked\n")
    × (stop_text numbers ≡ spelled " numbers\n") × (stop_text rows ≡ spelled " rows\n")
unfolding stop_text spelled
stop-printed = (refl, refl, refl, refl)

pub refusal-printed : (q : Refusal)
    → refusal_text q ≡ spelled "refused " ++ (decimal q.number ++
    (spelled " at line " ++ (decimal q.line ++ (spelled " column " ++ (decimal q.column ++ spelled "\n")))))
unfolding refusal_text spelled
refusal-printed q = refl
