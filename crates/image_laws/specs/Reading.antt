-- Reading an image: fields in turn, then what is left over, then the sums, then the order.
use Rattle.std.specs.Prelude.{ℕ, zero, suc, ◌+◌, ◌/◌, Bool, true, cond, not, ◌&&◌, List, [], ◌∷◌, ◌++◌, leb, ltb, eqb, length, take, drop}
use Rattle.sets.specs.Lists.{all, total, pairwise}
use Rattle.sets.specs.{Literal.opposite_of, Sets.mem, Sets.asc}
use Rattle.image_fields.specs.Fields.{value_of, bits_in}
use Rattle.expression.specs.Expression.{loose, ordered, literals_of}
use Rattle.network.specs.Net.{Net}
use Rattle.network.specs.Held.{numbered, reach, most_variables, most_cubes, most_literals}
use Rattle.network.specs.Handed.{Return, gives, refuses}
use Rattle.image_laws.specs.Widths.{edition_field, edition1}

-- what is read and the bits after it, or the number of a refusal
pub data Parsed (A : Type 0) : Type 0 where
  got : A → List Bool → Parsed A
  bad : ℕ → Parsed A

module _ {A B : Type 0} where
  -- go on with what is read
  abbrev pub and_then : Parsed A → (A → List Bool → Parsed B) → Parsed B
  and_then (got x l) k = k x l
  and_then (bad e) k = bad e

-- a field of w bits: 11 where the image ends before its last bit, else 12 where its number is out of range
unfoldable pub get_field : ℕ → (ℕ → Bool) → List Bool → Parsed ℕ
get_field w ok l = cond (ltb (length l) w) (bad 11) (cond (ok (value_of (take w l))) (got (value_of (take w l)) (drop w l)) (bad 12))

module _ {A : Type 0} where
  -- so many of the same kind
  unfoldable pub get_many : (List Bool → Parsed A) → ℕ → List Bool → Parsed (List A)
  get_many g zero l = got [] l
  get_many g (suc k) l = and_then (g l) (λ x r. and_then (get_many g k r) (λ xs t. got (x ∷ xs) t))

-- a literal of v variables, not the opposite of one read before
abbrev pub allowed : ℕ → List ℕ → ℕ → Bool
allowed v seen x = ltb (x / 2) v && not (mem (opposite_of x) seen)

-- so many literals
unfoldable pub get_literals : ℕ → ℕ → List ℕ → List Bool → Parsed (List ℕ)
get_literals v zero seen l = got [] l
get_literals v (suc k) seen l =
    and_then (get_field edition1.literal (allowed v seen) l) (λ x r. and_then (get_literals v k (x ∷ seen) r) (λ xs t. got (x ∷ xs) t))

-- literal count at most v, and as many literals
unfoldable pub get_cube : ℕ → List Bool → Parsed (List ℕ)
get_cube v l = and_then (get_field edition1.literals (λ c. leb c v) l) (λ c r. get_literals v c [] r)

unfoldable pub get_node : ℕ → List Bool → Parsed (List (List ℕ))
get_node v l = and_then (get_field edition1.cubes (λ c. leb c most_cubes) l) (λ c r. get_many (get_cube v) c r)

-- the fields of an image as they stand
pub record Raw : Type 0 where
  pub inputs : ℕ
  pub divisors : List (List (List ℕ))
  pub outputs : List (List (List ℕ))

unfoldable pub get_nodes : ℕ → ℕ → ℕ → List Bool → Parsed Raw
get_nodes n m k l =
    and_then (get_many (get_node (n + k)) k l) (λ ds r. and_then (get_many (get_node (n + k)) m r)
    (λ os t. got (record { inputs = n; divisors = ds; outputs = os }) t))

unfoldable pub get_raw : List Bool → Parsed Raw
get_raw l =
    and_then (get_field edition_field (eqb edition1.number) l) (λ e r₁.
    and_then (get_field edition1.inputs (λ x. true) r₁) (λ a r₂.
    and_then (get_field edition1.outputs (λ x. true) r₂) (λ b r₃.
    and_then (get_field edition1.divisors (λ k. leb (suc a + k) most_variables) r₃) (λ k r₄. get_nodes (suc a) (suc b) k r₄))))

-- ---- the whole

abbrev pub raw_nodes : Raw → List (List (List ℕ))
raw_nodes r = r.divisors ++ r.outputs

abbrev pub raw_net : Raw → Net
raw_net r = record { inputs = r.inputs; outputs = r.outputs; divisors = numbered r.inputs r.divisors }

-- fewer bits than a byte, all zero
unfoldable pub padding : List Bool → Bool
padding l = ltb (length l) 8 && all not l

-- the sums of the counts as written
unfoldable pub summed : Raw → Bool
summed r = leb (total length (raw_nodes r)) most_cubes && leb (total literals_of (raw_nodes r)) most_literals

-- literals ascend, cubes stand in cube order, and none contains another
unfoldable pub in_the_order : List (List ℕ) → Bool
in_the_order f = all asc f && (ordered f && pairwise loose f)

-- each divisor, numbered from v on, reads earlier variables alone
unfoldable pub reads_earlier : ℕ → List (List (List ℕ)) → Bool
reads_earlier v [] = true
reads_earlier v (f ∷ l) = reach v f && reads_earlier (suc v) l

unfoldable pub all_in_order : Raw → Bool
all_in_order r = all in_the_order (raw_nodes r) && reads_earlier r.inputs r.divisors

-- then 11 for what is left over, 12 for the sums, 13 for the order
unfoldable pub judge_raw : Parsed Raw → Return
judge_raw (bad k) = refuses k
judge_raw (got r l) = cond (padding l) (cond (summed r) (cond (all_in_order r) (gives (raw_net r)) (refuses 13)) (refuses 12)) (refuses 11)

unfoldable pub read_image : List ℕ → Return
read_image bytes = judge_raw (get_raw (bits_in bytes))
