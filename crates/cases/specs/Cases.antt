-- The worked cases 1 to 12 as one table: a row is data, one test says whether it holds of the definitions.
use Rattle.std.specs.Prelude.{ℕ, Bool, false, ◌&&◌, List, [], ◌∷◌, map, eqb, length, ℤ, pos}
use Rattle.sets.specs.Sets.{same}
use Rattle.division.specs.Division.{quotient, remainder}
use Rattle.cokernel.specs.Cokernels.{cokernels}
use Rattle.factor.specs.{Form.form_of, Text.form_text}
use Rattle.network.specs.Net.{Net, literal_count, cubes_at}
use Rattle.extract_laws.specs.Divisor.{Divisor, sum, own}
use Rattle.extract_laws.specs.Extract.{weight}
use Rattle.extract_laws.specs.Run.{Stop, done, Made, Result, run, asked_steps}
use Rattle.image_laws.specs.{Image.image_of, Reading.read_image}
use Rattle.network.specs.Handed.{Return, gives, refuses}
use Rattle.cases.specs.Tests.{alike, equal_cubes, same_integer, same_divisor, same_stop, same_net}

pub data Case : Type 0 where
  -- the co-kernels of an expression
  has_cokernels : List (List ℕ) → List (List ℕ) → Case
  -- F by D gives a quotient and a remainder
  divides : List (List ℕ) → List (List ℕ) → List (List ℕ) → List (List ℕ) → Case
  -- the factored text of an expression, as bytes
  has_text : List (List ℕ) → List ℕ → Case
  -- the literal count of a network
  counts : Net → ℕ → Case
  -- the weight of a divisor in a network
  weighs : Net → Divisor → ℤ → Case
  -- the first step: the number that it gives, the divisor that it takes, and its weight
  takes : Net → ℕ → Divisor → ℤ → Case
  -- a run to its end: the steps made, the literals left, and the reason to stop
  ends : Net → ℕ → ℕ → Stop → Case
  -- the image after so many steps
  has_image : Net → ℕ → List ℕ → Case
  -- bytes that are read as the network after so many steps
  reads_back : List ℕ → Net → ℕ → Case

-- ---- the test

-- one step, with this divisor and weight, and the node of the number holds the divisor
unfoldable pub begins : Result → ℕ → Divisor → ℤ → Bool
begins r v d w =
    alike same_divisor (map (λ (s : Made). s.divisor) r.steps) (d ∷ [])
    && (alike same_integer (map (λ (s : Made). s.weight) r.steps) (w ∷ []) && equal_cubes (cubes_at v r.network.divisors) (own d))

-- so many steps made and literals left, and this reason
unfoldable pub finishes : Result → ℕ → ℕ → Stop → Bool
finishes r k l s = eqb (length r.steps) k && (eqb (literal_count r.network) l && same_stop r.stop s)

-- the bytes are accepted, as this network
unfoldable pub read_as : Return → Net → Bool
read_as (gives m) n = same_net m n
read_as (refuses k) n = false

unfoldable pub is_right : Case → Bool
is_right (has_cokernels f l) = equal_cubes (cokernels f) l
is_right (divides f d q r) = equal_cubes (quotient f d) q && equal_cubes (remainder f d) r
is_right (has_text f t) = same (form_text (form_of f)) t
is_right (counts n l) = eqb (literal_count n) l
is_right (weighs n d w) = same_integer (weight n d) w
is_right (takes n v d w) = begins (run 1 n) v d w
is_right (ends n k l s) = finishes (run asked_steps n) k l s
is_right (has_image n k b) = same (image_of (run k n).network) b
is_right (reads_back b n k) = read_as (read_image b) (run k n).network

-- ---- the expressions: letters are variables in order, literal 2v is plain and 2v + 1 negated

-- the network with one output
abbrev pub alone : ℕ → List (List ℕ) → Net
alone n f = record { inputs = n; outputs = f ∷ []; divisors = [] }

-- ac+ad+bc+bd
unfoldable pub f₁ : List (List ℕ)
f₁ = (0 ∷ 4 ∷ []) ∷ (0 ∷ 6 ∷ []) ∷ (2 ∷ 4 ∷ []) ∷ (2 ∷ 6 ∷ []) ∷ []

-- abd+a'b'd+a'cd
unfoldable pub f₆ : List (List ℕ)
f₆ = (0 ∷ 2 ∷ 6 ∷ []) ∷ (1 ∷ 3 ∷ 6 ∷ []) ∷ (1 ∷ 4 ∷ 6 ∷ []) ∷ []

-- on a,b,c,e,g,x: axe+ag+bcxe+bcg
unfoldable pub f₉ : List (List ℕ)
f₉ = (0 ∷ 6 ∷ 10 ∷ []) ∷ (0 ∷ 8 ∷ []) ∷ (2 ∷ 4 ∷ 6 ∷ 10 ∷ []) ∷ (2 ∷ 4 ∷ 8 ∷ []) ∷ []

-- abc+a'bc
unfoldable pub f₁₂ : List (List ℕ)
f₁₂ = (0 ∷ 2 ∷ 4 ∷ []) ∷ (1 ∷ 2 ∷ 4 ∷ []) ∷ []

-- the image of case 5
unfoldable pub image₅ : List ℕ
image₅ = 0x11 ∷ 0x80 ∷ 0x10 ∷ 0x04 ∷ 0x04 ∷ 0x00 ∷ 0x10 ∷ 0x40 ∷ 0x08 ∷ 0x10 ∷ 0x41 ∷ 0x00 ∷ 0x83 ∷ 0x08 ∷ []

-- ---- the table

unfoldable pub table : List Case
table =
    -- 1. F = ac+ad+bc+bd has co-kernels 1, a, b, c, d
    has_cokernels f₁ ([] ∷ (0 ∷ []) ∷ (2 ∷ []) ∷ (4 ∷ []) ∷ (6 ∷ []) ∷ [])
    -- 2. F/(a+b) = c+d, remainder none
    ∷ divides f₁ ((0 ∷ []) ∷ (2 ∷ []) ∷ []) ((4 ∷ []) ∷ (6 ∷ []) ∷ []) []
    -- 3. Its first step is x4 = x0 + x1, weight 2, then done at 6; the start is at 8
    ∷ counts (alone 4 f₁) 8
    ∷ takes (alone 4 f₁) 4 (sum (0 ∷ []) (2 ∷ [])) (pos 2)
    ∷ ends (alone 4 f₁) 1 6 done
    -- 4. Its text is x0*(x2+x3)+x1*(x2+x3)
    ∷ has_text f₁ (120 ∷ 48 ∷ 42 ∷ 40 ∷ 120 ∷ 50 ∷ 43 ∷ 120 ∷ 51 ∷ 41 ∷ 43 ∷ 120 ∷ 49 ∷ 42 ∷ 40 ∷ 120 ∷ 50 ∷ 43 ∷ 120 ∷ 51 ∷ 41 ∷ [])
    -- 5. Its image after the step is 11 80 10 04 04 00 10 40 08 10 41 00 83 08 (hex), and is read as the same network
    ∷ has_image (alone 4 f₁) 1 image₅
    ∷ reads_back image₅ (alone 4 f₁) 1
    -- 6. abd+a'b'd+a'cd: sum b'+c has weight 1 and ab+a'b' weight 0
    ∷ weighs (alone 4 f₆) (sum (3 ∷ []) (4 ∷ [])) (pos 1)
    ∷ weighs (alone 4 f₆) (sum (0 ∷ 2 ∷ []) (1 ∷ 3 ∷ [])) (pos 0)
    -- 7. Its co-kernels are a'd, d, in that order
    ∷ has_cokernels f₆ ((1 ∷ 6 ∷ []) ∷ (6 ∷ []) ∷ [])
    -- 8. It ends at 8 literals
    ∷ ends (alone 4 f₆) 1 8 done
    -- 9. axe+ag+bcxe+bcg: a+bc and xe+g both weigh 4, a+bc is taken, ending at 8
    ∷ weighs (alone 6 f₉) (sum (0 ∷ []) (2 ∷ 4 ∷ [])) (pos 4)
    ∷ weighs (alone 6 f₉) (sum (6 ∷ 10 ∷ []) (8 ∷ [])) (pos 4)
    ∷ takes (alone 6 f₉) 6 (sum (0 ∷ []) (2 ∷ 4 ∷ [])) (pos 4)
    ∷ ends (alone 6 f₉) 1 8 done
    -- 10. One cube: no co-kernel
    ∷ has_cokernels ((0 ∷ 2 ∷ []) ∷ []) []
    -- 11. The expression 1 has text 1, none has 0
    ∷ has_text ([] ∷ []) (49 ∷ [])
    ∷ has_text [] (48 ∷ [])
    -- 12. abc+a'bc: weight 1 for a+a'
    ∷ weighs (alone 3 f₁₂) (sum (0 ∷ []) (1 ∷ [])) (pos 1)
    ∷ []
