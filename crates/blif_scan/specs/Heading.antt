-- What the lines before the blocks hold.
use Rattle.std.specs.Prelude.{ℕ, Option, Some, None, ◌≤◌, ◌≡◌, Bool, not, ◌&&◌, List, [], ◌∷◌, ◌++◌, map, eqb, length}
use Rattle.letters_products.specs.Spelled.{spelled}
use Rattle.network.specs.Handed.{flat}
use Rattle.blif_laws.specs.Text.{spaced, ended, first_names, head_lines}
pub use Rattle.blif_laws.specs.Meaning.{Titled}
use Rattle.blif_scan.specs.{Scanning.left, Scanning.Forth, declared.Head.Head}

-- words with a space before each
abbrev pub led : List (List ℕ) → List ℕ
led ws = flat (map (λ u. 32 ∷ u) ws)

-- after a space stand so many names of the letter in turn, one or more, each but the last with a space after it; or none such do
abbrev pub TurnsAre : ℕ → List ℕ → ℕ → Option (ℕ × ℕ) → Type 0
TurnsAre b s at (Some (k, p)) = (32 ∷ left s at ≡ led (first_names b k) ++ (10 ∷ left s p)) × Forth s at p × (k ≤ length s)
TurnsAre b s at None = (k : ℕ) (r : List ℕ) → 32 ∷ left s at ≡ led (first_names b k) ++ (10 ∷ r) → ⊥

-- the line is the keyword and so many names of the letter in turn; or it is none such
abbrev pub ListIs : List ℕ → ℕ → List ℕ → ℕ → Option (ℕ × ℕ) → Type 0
ListIs w b s at (Some (k, p)) = (left s at ≡ spaced (w ∷ first_names b k) ++ (10 ∷ left s p)) × Forth s at p × (k ≤ length s)
ListIs w b s at None = (k : ℕ) (r : List ℕ) → left s at ≡ spaced (w ∷ first_names b k) ++ (10 ∷ r) → ⊥

-- neither space nor tab, CR or LF
abbrev pub is_plain : ℕ → Bool
is_plain b = not (eqb b 32) && (not (eqb b 9) && (not (eqb b 13) && not (eqb b 10)))

-- a text is a line of some model name that `line` puts it in, and then r
pub record Lined (line : List ℕ → List ℕ) (t r : List ℕ) : Type 0 where
  pub name : List ℕ
  pub titled : Titled name
  pub text : t ≡ line name ++ (10 ∷ r)

-- a line of a model name stands at a place; or none does
abbrev pub PlacedBy : (List ℕ → List ℕ) → List ℕ → ℕ → Option ℕ → Type 0
PlacedBy line s at (Some p) = Lined line (left s at) (left s p) × Forth s at p
PlacedBy line s at None = (r : List ℕ) → Lined line (left s at) r → ⊥

-- the name alone
abbrev pub WordIs : List ℕ → ℕ → Option ℕ → Type 0
WordIs = PlacedBy (λ w. w)

-- the first line: the name after `.model`
abbrev pub model_line : List ℕ → List ℕ
model_line w = spaced (spelled ".model" ∷ w ∷ [])

abbrev pub ModelIs : List ℕ → Option ℕ → Type 0
ModelIs s = PlacedBy model_line s 0

-- the lines before the blocks, under some model name
pub record Headed (t : List ℕ) (n m : ℕ) (r : List ℕ) : Type 0 where
  pub name : List ℕ
  pub titled : Titled name
  pub text : t ≡ ended (head_lines name n m) ++ r

abbrev pub HeadIs : List ℕ → Option Head → Type 0
HeadIs s (Some h) =
    Headed (left s 0) h.inputs h.outputs (left s h.first) × Forth s 0 h.first × (h.inputs ≤ length s) × (h.outputs ≤ length s)
HeadIs s None = (n m : ℕ) (r : List ℕ) → Headed (left s 0) n m r → ⊥
