-- What the laws of orders speak of: a strict total order, and the cube order in the paper's words.
use Rattle.std.specs.Prelude.{ℕ, ◌<◌, ◌≡◌, Bool, true, false, List, ◌∷◌, ◌++◌}

-- a test that is a strict total order
pub record Strict {A : Type 0} (r : A → A → Bool) : Type 0 where
  pub irrefl : (x : A) → r x x ≡ false
  pub trans : (x y z : A) → r x y ≡ true → r y z ≡ true → r x z ≡ true
  pub linear : (x y : A) → r x y ≡ false → r y x ≡ false → x ≡ y

-- the first difference decides, a prefix comes first
pub data Earlier (a b : List ℕ) : Type 0 where
  prefix : (y : ℕ) (r : List ℕ) → b ≡ a ++ (y ∷ r) → Earlier a b
  differ : (x y : ℕ) (p r s : List ℕ) → a ≡ p ++ (x ∷ r) → b ≡ p ++ (y ∷ s) → x < y → Earlier a b
