-- The report on a table text, as bytes. Every line ends with LF.
use Rattle.std.specs.Prelude.{ℕ, suc, List, [], ◌∷◌, ◌++◌, ℤ, pos, negsuc}
use Rattle.letters.specs.Letters.{decimal}
use Rattle.letters_products.specs.Products.{cube_text}
use Rattle.network.specs.Net.{Net, literal_count}
use Rattle.extract_laws.specs.Divisor.{Divisor, pair, sum}
use Rattle.extract_laws.specs.Run.{Stop, done, asked, numbers, rows, Made, Result, run, asked_steps}
use Rattle.table.specs.Table.{Outcome, accepted, refused, read_text, table_net}
use Rattle.table.specs.declared.Refusal.{Refusal}

-- a pair as a product; the parts of a sum likewise, with ` + ` between them
unfoldable pub divisor_text : Divisor → List ℕ
divisor_text (pair p q) = cube_text (p ∷ q ∷ [])
divisor_text (sum a b) = cube_text a ++ (32 ∷ 43 ∷ 32 ∷ cube_text b)

-- a number that may be below zero
unfoldable pub integer : ℤ → List ℕ
integer (pos n) = decimal n
integer (negsuc n) = 45 ∷ decimal (suc n)

-- `x4 = x0 + x1 weight 2 now 6`
unfoldable pub step_line : ℕ → Divisor → ℤ → ℤ → List ℕ
step_line v d weight now =
    120 ∷ (decimal v ++ (32 ∷ 61 ∷ 32 ∷
    (divisor_text d ++ (32 ∷ 119 ∷ 101 ∷ 105 ∷ 103 ∷ 104 ∷ 116 ∷ 32 ∷ (integer weight ++ (32 ∷ 110 ∷ 111 ∷ 119 ∷ 32 ∷ (integer now ++ (10 ∷ []))))))))

-- the steps in turn: each with the number of its node and the literal count after it
unfoldable pub step_lines : List Made → List ℕ
step_lines [] = []
step_lines (m ∷ l) = step_line m.number m.divisor m.weight (pos m.literals) ++ step_lines l

-- ` done`, ` asked`, ` numbers`, ` rows`
unfoldable pub stop_text : Stop → List ℕ
stop_text done = 32 ∷ 100 ∷ 111 ∷ 110 ∷ 101 ∷ 10 ∷ []
stop_text asked = 32 ∷ 97 ∷ 115 ∷ 107 ∷ 101 ∷ 100 ∷ 10 ∷ []
stop_text numbers = 32 ∷ 110 ∷ 117 ∷ 109 ∷ 98 ∷ 101 ∷ 114 ∷ 115 ∷ 10 ∷ []
stop_text rows = 32 ∷ 114 ∷ 111 ∷ 119 ∷ 115 ∷ 10 ∷ []

-- `start 8`, the steps, `end 6 done`
unfoldable pub run_text : ℕ → List Made → ℕ → Stop → List ℕ
run_text start steps end stop =
    115 ∷ 116 ∷ 97 ∷ 114 ∷ 116 ∷ 32 ∷ (decimal start ++ (10 ∷ (step_lines steps ++ (101 ∷ 110 ∷ 100 ∷ 32 ∷ (decimal end ++ stop_text stop)))))

-- `refused 2 at line 3 column 7`
unfoldable pub refusal_text : Refusal → List ℕ
refusal_text q =
    114 ∷ 101 ∷ 102 ∷ 117 ∷ 115 ∷ 101 ∷ 100 ∷ 32 ∷ (decimal q.number ++ (32 ∷ 97 ∷ 116 ∷ 32 ∷ 108 ∷ 105 ∷ 110 ∷ 101 ∷ 32 ∷
    (decimal q.line ++ (32 ∷ 99 ∷ 111 ∷ 108 ∷ 117 ∷ 109 ∷ 110 ∷ 32 ∷ (decimal q.column ++ (10 ∷ []))))))

-- a run on a network: the count at the end is over the network that is left
unfoldable pub ran_text : Net → Result → List ℕ
ran_text n r = run_text (literal_count n) r.steps (literal_count r.network) r.stop

unfoldable pub outcome_text : Outcome → List ℕ
outcome_text (accepted s) = ran_text (table_net s) (run asked_steps (table_net s))
outcome_text (refused q) = refusal_text q

unfoldable pub report_of : List ℕ → List ℕ
report_of t = outcome_text (read_text t)
