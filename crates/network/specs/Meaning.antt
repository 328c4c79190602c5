-- What the listing and the evaluation are about: which variables are read, directly and through others, and which assignments fit a network.
use Rattle.std.specs.Prelude.{ℕ, ◌/◌, ◌<◌, ◌≤◌, Bool, true, false, not, eqb, length}
use mathlib.Core.{Path.◌≡◌, Logic.◌⊎◌}
use mathlib.Core.List.{List, [], ◌∷◌, map, Memᴰ}
use Rattle.sets.specs.Sets.{mem, asc}
use Rattle.expression.specs.Value.{lit, value}
use Rattle.network.specs.Net.{Node, Net, cubes_at}
use Rattle.network.specs.Listing.{ready, listing}

-- an expression reads the variable v: one of its cubes has a literal of v
abbrev pub Reads : List (List ℕ) → ℕ → Type 0
Reads f v = (c : List ℕ) × Memᴰ c f × ((l : ℕ) × Memᴰ l c × (v ≡ l / 2))

-- a divisor u reads the divisor v, itself or through others
pub data Through (n : Net) : ℕ → ℕ → Type 0 where
  itself : {e g : Node} → Memᴰ e n.divisors → Memᴰ g n.divisors → Reads e.cubes g.number → Through n e.number g.number
  others : {e g : Node} {v : ℕ} → Memᴰ e n.divisors → Memᴰ g n.divisors → Reads e.cubes g.number → Through n g.number v
      → Through n e.number v

-- v is listed next after the numbers of a: it is not among them, reads inputs and divisors among them only, and is the smallest such
pub record ListedNext (n : Net) (a : List ℕ) (v : ℕ) : Type 0 where
  pub node : Node
  pub inside : Memᴰ node n.divisors
  pub number : v ≡ node.number
  pub fresh : mem v a ≡ false
  pub allowed : ready n.inputs a (cubes_at v n.divisors) ≡ true
  pub least : (g : Node) → Memᴰ g n.divisors → mem g.number a ≡ false → ready n.inputs a g.cubes ≡ true → v ≤ g.number

-- the assignment a has the setting s on the inputs, and at each divisor the value of its expression
pub record Consistent (n : Net) (s a : ℕ → Bool) : Type 0 where
  pub inputs : (i : ℕ) → i < n.inputs → a i ≡ s i
  pub divisors : (e : Node) → Memᴰ e n.divisors → a e.number ≡ value (lit a) e.cubes

-- ---- what the rules on networks come to

-- two numbers are not the same
abbrev pub differ : ℕ → ℕ → Bool
differ x y = not (eqb x y)

-- the divisors have ascending numbers of their own, from the inputs on
pub record Distinct (n : Net) : Type 0 where
  pub ascending : asc (map (λ (e : Node). e.number) n.divisors) ≡ true
  pub above : (e : Node) → Memᴰ e n.divisors → n.inputs ≤ e.number

-- v is the number of a divisor
abbrev pub IsDivisor : Net → ℕ → Type 0
IsDivisor n v = (e : Node) × Memᴰ e n.divisors × (v ≡ e.number)

-- v is an input or the number of a divisor
abbrev pub IsVariable : Net → ℕ → Type 0
IsVariable n v = (v < n.inputs) ⊎ IsDivisor n v

-- the expressions read inputs and divisors only
pub record Closed (n : Net) : Type 0 where
  pub outputs : (f : List (List ℕ)) → Memᴰ f n.outputs → (v : ℕ) → Reads f v → IsVariable n v
  pub divisors : (e : Node) → Memᴰ e n.divisors → (v : ℕ) → Reads e.cubes v → IsVariable n v

-- numbers of their own, known variables, and every divisor listed
pub record Sound (n : Net) : Type 0 where
  pub distinct : Distinct n
  pub closed : Closed n
  pub whole : length (listing n) ≡ length n.divisors

-- ---- networks that differ in the order of cubes alone

-- two expressions have the same cubes
pub record SameCubes (f g : List (List ℕ)) : Type 0 where
  pub into : (c : List ℕ) → Memᴰ c f → Memᴰ c g
  pub back : (c : List ℕ) → Memᴰ c g → Memᴰ c f

-- r holds between the elements of two lists, place by place
pub data Along {A : Type 0} (r : A → A → Type 0) : List A → List A → Type 0 where
  end : Along r [] []
  on : {x y : A} {l m : List A} → r x y → Along r l m → Along r (x ∷ l) (y ∷ m)

-- two divisors have the same number and the same cubes
abbrev pub SameNode : Node → Node → Type 0
SameNode e g = (e.number ≡ g.number) × SameCubes e.cubes g.cubes

pub record Reordered (n m : Net) : Type 0 where
  pub inputs : n.inputs ≡ m.inputs
  pub outputs : Along SameCubes n.outputs m.outputs
  pub divisors : Along SameNode n.divisors m.divisors
