-- What the laws of extraction speak of: uses and bases, the best divisor, what a network allows, and how a run goes.
use Rattle.std.specs.Prelude.{ℕ, ◌<◌, ◌≤◌, ℤ, pos, ◌+ℤ◌, ◌-ℤ◌, length}
use mathlib.Core.{Path.◌≡◌, Logic.◌⊎◌, Bool.true, Bool.false}
use mathlib.Core.List.{List, [], ◌∷◌, ◌++◌, Memᴰ}
use Rattle.std.specs.Int.Signed.{lt_z}
use Rattle.sets.specs.Sets.{mem, sub, apart, asc, union, without, meet, before}
use Rattle.expression.specs.Expression.{expression}
use Rattle.network.specs.Net.{Net, nodes, variables, cube_count, literal_count}
use Rattle.network.specs.{Evaluation.evaluate, Meaning.Reads, Held.most_variables, Held.most_cubes}
pub use Rattle.network.specs.Rules.{Good, Within}
use Rattle.extract_laws.specs.Divisor.{Divisor, pair, sum, own, small, sound, use_of, hit}
use Rattle.extract_laws.specs.Extract.{weight, candidates, sooner, step}
use Rattle.extract_laws.specs.Run.{Stop, done, asked, numbers, rows, Made, Move, finished, stuck, makes, making, prepare, in_order}

-- ---- divisors, their uses and bases

-- what a sound sum is, part by part
pub record Parts (a b : List ℕ) : Type 0 where
  pub asc-a : asc a ≡ true
  pub asc-b : asc b ≡ true
  pub disjoint : apart a b ≡ true
  pub small-a : small a ≡ true
  pub small_b : small b ≡ true
  pub ordered : before a b ≡ true

-- the other cube of a use: the same base with b in place of a
abbrev pub other : List ℕ → List ℕ → List ℕ → List ℕ
other a b c = union (without c a) b

-- c is one of the two cubes of a use
pub record Use (a b : List ℕ) (f : List (List ℕ)) (c : List ℕ) : Type 0 where
  pub inside : sub a c ≡ true
  pub free : apart (without c a) b ≡ true
  pub partner : Memᴰ (other a b c) f

-- the other of the two is one the other way about, and leads back
pub record Partner (a b : List ℕ) (f : List (List ℕ)) (c : List ℕ) : Type 0 where
  pub inside : Memᴰ (other a b c) f
  pub turned : use_of b a f (other a b c) ≡ true
  pub base : without (other a b c) b ≡ without c a
  pub back : other b a (other a b c) ≡ c

-- c shares no literal with the parts, and with either it is a cube of f
pub record Base (a b : List ℕ) (f : List (List ℕ)) (c : List ℕ) : Type 0 where
  pub ascending : asc c ≡ true
  pub off-a : apart c a ≡ true
  pub off-b : apart c b ≡ true
  pub with-a : Memᴰ (union c a) f
  pub with-b : Memᴰ (union c b) f

-- c is a cube of a use: it has both literals, or it is a base with one of the parts
abbrev pub InUse : Divisor → List (List ℕ) → List ℕ → Type 0
InUse (pair p q) f c = (mem p c ≡ true) × (mem q c ≡ true)
InUse (sum a b) f c = (z : List ℕ) × Base a b f z × ((c ≡ union z a) ⊎ (c ≡ union z b))

-- a node of the network has a use of the divisor
abbrev pub Used : Net → Divisor → Type 0
Used n d = (f : List (List ℕ)) × Memᴰ f (nodes n) × ((c : List ℕ) × Memᴰ c f × (hit d f c ≡ true))

-- the divisors of a network, in the paper's words
pub data Divides (n : Net) : Divisor → Type 0 where
  -- two literals of one cube
  literals : {f : List (List ℕ)} {c : List ℕ} {p q : ℕ} → Memᴰ f (nodes n) → Memᴰ c f → Memᴰ p c → Memᴰ q c → p < q
      → Divides n (pair p q)
  -- two cubes of one node less their common base, where both parts have one or two literals, the smaller part first
  two_parts : {f : List (List ℕ)} {c e a b : List ℕ} → Memᴰ f (nodes n) → Memᴰ c f → Memᴰ e f
      → a ≡ without c (meet c e) → b ≡ without e (meet c e) → small a ≡ true → small b ≡ true → before a b ≡ true → Divides n (sum a b)

-- a divisor that a network can take: its own node is an expression over known variables
pub record Fit (n : Net) (d : Divisor) : Type 0 where
  pub whole : sound d ≡ true
  pub formed : expression (own d) ≡ true
  pub known : (v : ℕ) → Reads (own d) v → v < variables n

-- ---- the choice

-- which of two divisors of the same weight comes first: pairs before sums, then the smaller literal or part first, then the second
pub data ComesFirst : Divisor → Divisor → Type 0 where
  pair_then_sum : {p q : ℕ} {a b : List ℕ} → ComesFirst (pair p q) (sum a b)
  first_literal : {p q r s : ℕ} → p < r → ComesFirst (pair p q) (pair r s)
  second_literal : {p q r s : ℕ} → p ≡ r → q < s → ComesFirst (pair p q) (pair r s)
  -- parts are compared in cube order
  first_part : {a b c d : List ℕ} → before a c ≡ true → ComesFirst (sum a b) (sum c d)
  second_part : {a b c d : List ℕ} → a ≡ c → before b d ≡ true → ComesFirst (sum a b) (sum c d)

-- the divisor has the greatest weight, and of those that have it it is the first
pub record Foremost (n : Net) (d : Divisor) : Type 0 where
  pub chosen : Memᴰ d (candidates n)
  pub heaviest : (e : Divisor) → Memᴰ e (candidates n) → lt_z (weight n d) (weight n e) ≡ false
  pub first : (e : Divisor) → Memᴰ e (candidates n) → weight n e ≡ weight n d → sooner e d ≡ false

-- it is the best one, and its weight is above 0
pub record Worth (n : Net) (d : Divisor) : Type 0 where
  pub best : Foremost n d
  pub above : lt_z (pos 0) (weight n d) ≡ true

-- no divisor has a weight above 0
abbrev pub Done : Net → Type 0
Done n = (e : Divisor) → Memᴰ e (candidates n) → lt_z (pos 0) (weight n e) ≡ false

-- ---- what a network allows, and how a run goes

-- the best step alone is judged: first by the numbers, then by the rows
pub data Allows (n : Net) : Move → Type 0 where
  nothing : Done n → Allows n finished
  no_number : {d : Divisor} → Worth n d → most_variables ≤ variables n → Allows n (stuck numbers)
  no_rows : {d : Divisor} → Worth n d → variables n < most_variables → most_cubes < cube_count (step n d) → Allows n (stuck rows)
  next : {d : Divisor} → Worth n d → variables n < most_variables → cube_count (step n d) ≤ most_cubes → Allows n (makes d)

-- what is done to a network before each step: the inputs, the outputs and the divisors stay as many, literals and cubes become no more,
-- the rules, the cube order and the outputs for every setting are kept, and once is enough
pub record Prepares (p : Net → Net) : Type 0 where
  pub inputs : (n : Net) → (p n).inputs ≡ n.inputs
  pub outputs : (n : Net) → length (p n).outputs ≡ length n.outputs
  pub variables : (n : Net) → variables (p n) ≡ variables n
  pub cubes : (n : Net) → cube_count (p n) ≤ cube_count n
  pub literals : (n : Net) → literal_count (p n) ≤ literal_count n
  pub good : (n : Net) → Good n → Good (p n)
  pub order : (n : Net) → in_order n ≡ n → in_order (p n) ≡ p n
  pub evaluate : (n : Net) → Good n → (s : ℕ) → evaluate (p n) s ≡ evaluate n s
  pub once : (n : Net) → p (p n) ≡ p n

-- steps lead from a network that is prepared to another: each takes the best divisor of the network that it is made on
pub data Leads : Net → List Made → Net → Type 0 where
  stay : {n : Net} → Leads n [] n
  onward : {n m : Net} {l : List Made} (d : Divisor) → Worth n d → variables n < most_variables → cube_count (step n d) ≤ most_cubes
      → Leads (prepare (step n d)) l m → Leads n (making n d ∷ l) m

-- s is one of the steps l from n: those before it lead to the network that it is made on, whose best divisor it takes; it carries the
-- number and the literal count that the step gives, and the count is that of this network less the weight
pub record StepOf (n : Net) (l : List Made) (s : Made) : Type 0 where
  pub earlier : List Made
  pub later : List Made
  pub on : Net
  pub stands : l ≡ earlier ++ (s ∷ later)
  pub path : Leads n earlier on
  pub best : Worth on s.divisor
  pub is : s ≡ making on s.divisor
  pub falls : pos s.literals ≡ pos (literal_count on) -ℤ s.weight

-- why a run of k steps ends at a network after j of them: the first reason that applies
pub data Ends (k j : ℕ) (n : Net) : Stop → Type 0 where
  is_done : j ≤ k → Done n → Ends k j n done
  is_asked : {d : Divisor} → j ≡ k → Worth n d → Ends k j n asked
  is_numbers : {d : Divisor} → j < k → Worth n d → most_variables ≤ variables n → Ends k j n numbers
  is_rows : {d : Divisor} → j < k → Worth n d → variables n < most_variables → most_cubes < cube_count (step n d) → Ends k j n rows

-- the sum of the weights of steps
unfoldable pub fall : List Made → ℤ
fall [] = pos 0
fall (s ∷ l) = s.weight +ℤ fall l
