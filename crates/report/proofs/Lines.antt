-- The lines of a report as they are written: words, numbers and divisors one after the other. Assumes nothing.
use Prim.Native.Nat.{ℕ, ◌+◌, ◌<◌}
use mathlib.Core.Path.{◌≡◌, refl, sym, ◌∙◌, ap}
use mathlib.Core.List.{List, [], ◌∷◌, ◌++◌, map}
use native.Mathlib.Omega.{arith}
use lib.IntN.{pos}
use lib.ListN.{length, get_or, drop, length-map}
use Rattle.sets.proofs.Places.{drop-next}
use Rattle.letters.specs.Letters.{decimal, name_text}
use Rattle.letters_products.specs.Products.{literal_text, cube_text}
use Rattle.extract_laws.specs.Divisor.{Divisor, pair, sum}
use Rattle.extract_laws.specs.Run.{Stop, Made}
use Rattle.extract.specs.Answers.{made_of, no_made, stop_of, made_in}
use Rattle.extract.specs.declared.Made as declared
use Rattle.table.specs.declared.Refusal.{Refusal}
use Rattle.report.specs.Parts.{run_of}
use Rattle.report.proofs.Counting.{made-at}
use Rattle.report.specs.declared.findings.Findings.{Findings}
use Rattle.report.specs.Report.{divisor_text, integer, step_line, step_lines, stop_text, run_text, refusal_text}

-- a word and a number after it
abbrev pub field : List ℕ → ℕ → List ℕ
field w n = w ++ decimal n

abbrev pub line_end : List ℕ
line_end = 10 ∷ []

-- ` + `, ` = `, ` weight `, ` now `
abbrev pub plus_word : List ℕ
plus_word = 32 ∷ 43 ∷ 32 ∷ []

abbrev pub equals_word : List ℕ
equals_word = 32 ∷ 61 ∷ 32 ∷ []

abbrev pub weight_word : List ℕ
weight_word = 32 ∷ 119 ∷ 101 ∷ 105 ∷ 103 ∷ 104 ∷ 116 ∷ 32 ∷ []

abbrev pub now_word : List ℕ
now_word = 32 ∷ 110 ∷ 111 ∷ 119 ∷ 32 ∷ []

-- `start `, `end `, `refused `, ` at line `, ` column `
abbrev pub start_word : List ℕ
start_word = 115 ∷ 116 ∷ 97 ∷ 114 ∷ 116 ∷ 32 ∷ []

abbrev pub end_word : List ℕ
end_word = 101 ∷ 110 ∷ 100 ∷ 32 ∷ []

abbrev pub refused_word : List ℕ
refused_word = 114 ∷ 101 ∷ 102 ∷ 117 ∷ 115 ∷ 101 ∷ 100 ∷ 32 ∷ []

abbrev pub line_word : List ℕ
line_word = 32 ∷ 97 ∷ 116 ∷ 32 ∷ 108 ∷ 105 ∷ 110 ∷ 101 ∷ 32 ∷ []

abbrev pub column_word : List ℕ
column_word = 32 ∷ 99 ∷ 111 ∷ 108 ∷ 117 ∷ 109 ∷ 110 ∷ 32 ∷ []

-- ---- each text in the order in which it is written

pub pair-start : (p q : ℕ) → divisor_text (pair p q) ≡ literal_text p ++ (42 ∷ literal_text q)
unfolding divisor_text cube_text
pair-start p q = refl

pub sum-start : (a b : List ℕ) → divisor_text (sum a b) ≡ cube_text a ++ (plus_word ++ cube_text b)
unfolding divisor_text
sum-start a b = refl

pub step_start : (v : ℕ) (d : Divisor) (w n : ℕ) → step_line v d (pos w) (pos n) ≡ name_text 120 v ++
    (equals_word ++ (divisor_text d ++ (field weight_word w ++ (field now_word n ++ line_end))))
unfolding step_line integer
step_start v d w n = refl

pub lines_none : step_lines [] ≡ []
unfolding step_lines
lines_none = refl

pub lines-first : (m : Made) (l : List Made) {w : ℕ} → pos w ≡ m.weight
    → step_lines (m ∷ l) ≡ step_line m.number m.divisor (pos w) (pos m.literals) ++ step_lines l
unfolding step_lines
lines-first m l e = ap (λ z. step_line m.number m.divisor z (pos m.literals) ++ step_lines l) (sym e)

-- the steps from i on
pub made-next : (s : List declared.Made) (i : ℕ) → i < length s → drop i (map made_of s) ≡ made_of (get_or s i no_made) ∷ drop (i + 1) (map made_of s)
made-next s i h =
    drop-next (map made_of s) i (made_of no_made) (omega (arith, length-map s made_of))
    ∙ ap (◌∷ drop (i + 1) (map made_of s)) (made-at s i)

pub run-start : (a : ℕ) (l : List Made) (e : ℕ) (r : Stop)
    → run_text a l e r ≡ field start_word a ++ (line_end ++ (step_lines l ++ (field end_word e ++ stop_text r)))
unfolding run_text
run-start a l e r = refl

pub refusal-start : (q : Refusal)
    → refusal_text q ≡ field refused_word q.number ++ (field line_word q.line ++ (field column_word q.column ++ line_end))
unfolding refusal_text
refusal-start q = refl

-- ---- what was found

pub found-start : (f : Findings) → run_of f ≡ field start_word f.start ++
    (line_end ++ (step_lines (made_in f.steps) ++ (field end_word f.end ++ stop_text (stop_of f.stop))))
unfolding run_of
found-start f = run-start _ _ _ _
