-- Tests of equality that compute, for what the cases speak of.
use Rattle.std.specs.Prelude.{ℕ, Bool, true, false, ◌&&◌, List, [], ◌∷◌, eqb, ℤ, pos, negsuc}
use Rattle.sets.specs.Sets.{same}
use Rattle.network.specs.Net.{Node, Net}
use Rattle.extract_laws.specs.Divisor.{Divisor, pair, sum}
use Rattle.extract_laws.specs.Run.{Stop, done, asked, numbers, rows}

module _ {A : Type 0} where
  -- as many elements, and the test passes place by place
  unfoldable pub alike : (A → A → Bool) → List A → List A → Bool
  alike t [] [] = true
  alike t [] (y ∷ m) = false
  alike t (x ∷ l) [] = false
  alike t (x ∷ l) (y ∷ m) = t x y && alike t l m

unfoldable pub equal_cubes : List (List ℕ) → List (List ℕ) → Bool
equal_cubes f g = alike same f g

unfoldable pub same_integer : ℤ → ℤ → Bool
same_integer (pos a) (pos b) = eqb a b
same_integer (pos a) (negsuc b) = false
same_integer (negsuc a) (pos b) = false
same_integer (negsuc a) (negsuc b) = eqb a b

unfoldable pub same_divisor : Divisor → Divisor → Bool
same_divisor (pair p q) (pair r s) = eqb p r && eqb q s
same_divisor (pair p q) (sum c d) = false
same_divisor (sum a b) (pair r s) = false
same_divisor (sum a b) (sum c d) = same a c && same b d

-- the reasons to stop, in the order in which they are tried
unfoldable pub turn : Stop → ℕ
turn done = 0
turn asked = 1
turn numbers = 2
turn rows = 3

unfoldable pub same_stop : Stop → Stop → Bool
same_stop r s = eqb (turn r) (turn s)

unfoldable pub equal_node : Node → Node → Bool
equal_node e g = eqb e.number g.number && equal_cubes e.cubes g.cubes

unfoldable pub same_net : Net → Net → Bool
same_net n m = eqb n.inputs m.inputs && (alike equal_cubes n.outputs m.outputs && alike equal_node n.divisors m.divisors)
