-- Printed forms that the paper fixes, as a table of its own beside the numbered cases: a row is what is printed and its text, one test says whether it holds.
use Rattle.std.specs.Prelude.{ℕ, List, [], ◌∷◌, ℤ, pos, negsuc}
use Prim.Native.String.{String}
use mathlib.Core.{Path.◌≡◌, Bool.Bool}
use Rattle.sets.specs.Sets.{same}
use Rattle.letters_products.specs.Spelled.{spelled}
use Rattle.factor.specs.{Form.form_of, Text.form_text}
use Rattle.extract_laws.specs.Divisor.{Divisor, pair, sum}
use Rattle.extract_laws.specs.Run.{Stop, done, asked, numbers, rows}
use Rattle.report.specs.Report.{divisor_text, integer, step_line, run_text, refusal_text, report_of}

pub data Printed : Type 0 where
  -- an expression, factored
  factored : List (List ℕ) → Printed
  -- a divisor
  divisor : Divisor → Printed
  -- a weight
  weighing : ℤ → Printed
  -- the line of a step: its number, the divisor, the weight and the literals left
  step : ℕ → Divisor → ℤ → ℕ → Printed
  -- a run of no step: the literals, and the reason to stop
  idle : ℕ → Stop → Printed
  -- a refusal: its number, line and column
  refusal : ℕ → ℕ → ℕ → Printed
  -- the report on a table text
  report : String → Printed

unfoldable pub bytes_of : Printed → List ℕ
bytes_of (factored f) = form_text (form_of f)
bytes_of (divisor d) = divisor_text d
bytes_of (weighing w) = integer w
bytes_of (step v d w l) = step_line v d w (pos l)
bytes_of (idle l r) = run_text l [] l r
bytes_of (refusal k l c) = refusal_text (record { number = k; line = l; column = c })
bytes_of (report t) = report_of (spelled t)

pub data Example : Type 0 where
  row : Printed → String → Example

unfoldable pub is_printed : Example → Bool
is_printed (row p t) = same (bytes_of p) (spelled t)

-- what a row says
abbrev pub Prints : Example → Type 0
Prints (row p t) = bytes_of p ≡ spelled t

-- ---- the table: literal 2v is plain and 2v + 1 negated

unfoldable pub printed_forms : List Example
printed_forms =
    -- `+` between cubes, `*` between literals, `x3` and `x3'`
    row (factored ((6 ∷ []) ∷ [])) "x3"
    ∷ row (factored ((7 ∷ []) ∷ [])) "x3'"
    ∷ row (factored ((21 ∷ []) ∷ [])) "x10'"
    ∷ row (factored ((0 ∷ 3 ∷ []) ∷ [])) "x0*x1'"
    ∷ row (factored ((0 ∷ 2 ∷ 5 ∷ []) ∷ (7 ∷ []) ∷ [])) "x0*x1*x2'+x3'"
    -- the form of Q in parentheses, always; that of R after a `+`, if R has cubes
    ∷ row (factored ((0 ∷ 2 ∷ []) ∷ (0 ∷ 4 ∷ []) ∷ [])) "x0*(x1+x2)"
    ∷ row (factored ((1 ∷ 2 ∷ []) ∷ (1 ∷ 5 ∷ []) ∷ (4 ∷ 7 ∷ []) ∷ [])) "x0'*(x1+x2')+x2*x3'"
    ∷ row (factored ((0 ∷ 2 ∷ 4 ∷ []) ∷ (0 ∷ 2 ∷ 6 ∷ []) ∷ [])) "x0*(x1*(x2+x3))"
    ∷ row (factored ((0 ∷ 2 ∷ 4 ∷ []) ∷ (0 ∷ 2 ∷ 6 ∷ []) ∷ (0 ∷ 8 ∷ []) ∷ (9 ∷ []) ∷ [])) "x0*(x1*(x2+x3)+x4)+x4'"
    -- a pair, a part of two likewise
    ∷ row (divisor (pair 0 2)) "x0*x1"
    ∷ row (divisor (sum (0 ∷ []) (2 ∷ []))) "x0 + x1"
    ∷ row (divisor (sum (0 ∷ []) (2 ∷ 5 ∷ []))) "x0 + x1*x2'"
    -- a signed number
    ∷ row (weighing (pos 0)) "0"
    ∷ row (weighing (pos 2)) "2"
    ∷ row (weighing (negsuc 0)) "-1"
    ∷ row (weighing (negsuc 11)) "-12"
    -- lines
    ∷ row (step 4 (sum (0 ∷ []) (2 ∷ [])) (pos 2) 6) "x4 = x0 + x1 weight 2 now 6\n"
    ∷ row (step 10 (pair 0 3) (pos 1) 12) "x10 = x0*x1' weight 1 now 12\n"
    ∷ row (idle 0 done) "start 0\nend 0 done\n"
    ∷ row (idle 8 asked) "start 8\nend 8 asked\n"
    ∷ row (idle 8 numbers) "start 8\nend 8 numbers\n"
    ∷ row (idle 8 rows) "start 8\nend 8 rows\n"
    ∷ row (refusal 2 3 7) "refused 2 at line 3 column 7\n"
    ∷ row (refusal 5 0 0) "refused 5 at line 0 column 0\n"
    -- whole reports: the paper's example, and a refusal alone
    ∷ row (report ".i 4\n.o 1\n1-1- 1\n1--1 1\n-11- 1\n-1-1 1\n.e\n") "start 8\nx4 = x0 + x1 weight 2 now 6\nend 6 done\n"
    ∷ row (report ".i 4\n.o 1\n1-1-\n.e\n") "refused 2 at line 3 column 5\n"
    ∷ row (report "") "refused 5 at line 0 column 0\n"
    -- columns: the first byte that no good line could hold there
    ∷ row (report ".i 1 2\n") "refused 2 at line 1 column 6\n"
    ∷ row (report ".e x\n") "refused 2 at line 1 column 4\n"
    ∷ row (report ".i 4\n.o 2\n0101 11 1\n") "refused 2 at line 3 column 9\n"
    ∷ row (report ".i 123456\n") "refused 2 at line 1 column 9\n"
    ∷ row (report ".i4\n") "refused 2 at line 1 column 3\n"
    ∷ row (report ".i 4\n.o 1\n01 1\n") "refused 2 at line 3 column 3\n"
    ∷ row (report ".i 4\n.i 4x\n") "refused 2 at line 2 column 5\n"
    -- a line that merely ends too soon: its length plus 1, counted before comment and blanks come off
    ∷ row (report ".en\n") "refused 2 at line 1 column 4\n"
    ∷ row (report ".\n") "refused 2 at line 1 column 2\n"
    ∷ row (report ".en \r\n") "refused 2 at line 1 column 6\n"
    ∷ row (report ".i 4\n.o 1\n01  #\n") "refused 2 at line 3 column 6\n"
    -- a cube line is good only where `.i` and `.o` are known
    ∷ row (report "0101 1\n") "refused 2 at line 1 column 1\n"
    ∷ row (report ".i 4\n -101 1\n") "refused 2 at line 2 column 2\n"
    -- repeated, too late, `.e` with 2: the first byte that isn't blank
    ∷ row (report ".i 4\n  .i 4\n") "refused 2 at line 2 column 3\n"
    ∷ row (report ".i 1\n.o 1\n1 1\n .p 1\n") "refused 2 at line 4 column 2\n"
    ∷ row (report ".i 4\n .e\n") "refused 2 at line 2 column 2\n"
    -- 3: the first digit; 4: the point of `.e`
    ∷ row (report " .i  33\n") "refused 3 at line 1 column 6\n"
    ∷ row (report ".i 1\n.o 1\n.p 2\n1 1\n  .e\n") "refused 4 at line 5 column 3\n"
    ∷ []
