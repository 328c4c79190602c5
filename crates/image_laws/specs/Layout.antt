-- The fields of an image as they are met in turn, and where they come to a bad end.
use Rattle.std.specs.Prelude.{ℕ, zero, suc, ◌+◌, ◌<◌, ◌≡◌, Bool, true, false, List, [], ◌∷◌, ◌++◌, leb, eqb, length}
use Rattle.image_fields.specs.Fields.{value_of}
use Rattle.network.specs.Held.{most_variables, most_cubes}
use Rattle.image_laws.specs.{Widths.edition_field, Widths.edition1, Reading.allowed, Reading.Raw}

pub data Layout : Type 0 where
  -- no field more
  ends : Raw → Layout
  -- a field: its width, the numbers in range, and what follows each of them
  next : ℕ → (ℕ → Bool) → (ℕ → Layout) → Layout

-- so many of the same kind, and what follows them
unfoldable pub many_layout : {A : Type 0} → ((A → Layout) → Layout) → ℕ → (List A → Layout) → Layout
many_layout g zero k = k []
many_layout g (suc n) k = g (λ x. many_layout g n (λ xs. k (x ∷ xs)))

-- literals of v variables, none the opposite of one before
unfoldable pub literals_layout : ℕ → ℕ → List ℕ → (List ℕ → Layout) → Layout
literals_layout v zero seen k = k []
literals_layout v (suc n) seen k = next edition1.literal (allowed v seen) (λ x. literals_layout v n (x ∷ seen) (λ xs. k (x ∷ xs)))

-- a literal count, and the literals
unfoldable pub cube_layout : ℕ → (List ℕ → Layout) → Layout
cube_layout v k = next edition1.literals (λ c. leb c v) (λ c. literals_layout v c [] k)

-- a cube count, and each cube
unfoldable pub node_layout : ℕ → (List (List ℕ) → Layout) → Layout
node_layout v k = next edition1.cubes (λ c. leb c most_cubes) (λ c. many_layout (cube_layout v) c k)

-- each divisor, then each output
unfoldable pub nodes_layout : ℕ → ℕ → ℕ → Layout
nodes_layout n m k =
    many_layout (node_layout (n + k)) k (λ ds. many_layout (node_layout (n + k)) m (λ os. ends (record { inputs = n; divisors = ds; outputs = os })))

-- the edition, n-1, m-1 and k
unfoldable pub image_layout : Layout
image_layout =
    next edition_field (eqb edition1.number) (λ e.
    next edition1.inputs (λ x. true) (λ a.
    next edition1.outputs (λ x. true) (λ b.
    next edition1.divisors (λ k. leb (suc a + k) most_variables) (λ k. nodes_layout (suc a) (suc b) k))))

-- fields in range are met in turn, and where the next is due the bits are at such an end
pub data Meets (End : ℕ → (ℕ → Bool) → List Bool → Type 0) : Layout → List Bool → Type 0 where
  here : {w : ℕ} {ok : ℕ → Bool} {g : ℕ → Layout} {l : List Bool} → End w ok l → Meets End (next w ok g) l
  later : {w : ℕ} {ok : ℕ → Bool} {g : ℕ → Layout} {l : List Bool} (b : List Bool) → length b ≡ w → ok (value_of b) ≡ true → Meets End (g (value_of b)) l
      → Meets End (next w ok g) (b ++ l)

-- a whole field out of range, whatever follows
pub record Stray (w : ℕ) (ok : ℕ → Bool) (l : List Bool) : Type 0 where
  pub front : List Bool
  pub rest : List Bool
  pub bits : l ≡ front ++ rest
  pub whole : length front ≡ w
  pub out : ok (value_of front) ≡ false

-- a part of a field, maybe none of it
abbrev pub Cut : ℕ → (ℕ → Bool) → List Bool → Type 0
Cut w ok l = length l < w
