-- What the joined text holds from a place on, byte by byte and word by word.
use Rattle.std.specs.Prelude.{ℕ, ◌+◌, ◌<◌, ◌≤◌, List, [], ◌∷◌, ◌++◌, eqb, length, get_or, drop}
use Rattle.std.specs.Prelude.{Option, Some, None}
use mathlib.Core.{Path.◌≡◌, Bool.Bool, Bool.◌&&◌}
use Rattle.sets.specs.Word.{largest}
use Rattle.letters.specs.Letters.{decimal}
use Rattle.blif_laws.specs.Text.{Name, variable, output, name_word}
use Rattle.blif_laws.specs.Reading.{joined}
pub use Rattle.blif_laws.specs.Meaning.{Starts, by_space, by_line, by_end}
use Rattle.blif_scan.specs.declared.{Ended.Ended, Label.Label}

-- what is left of the joined text from a place on
abbrev pub left : List ℕ → ℕ → List ℕ
left s at = joined (drop at s)

-- a place after another, in the text or at its end
pub record Forth (s : List ℕ) (at p : ℕ) : Type 0 where
  pub on : at < p
  pub within : p ≤ length s

-- a backslash stands at a place, right before an LF
abbrev pub is_joint : List ℕ → ℕ → Bool
is_joint s p = eqb (get_or s p 0) 92 && eqb (get_or s (p + 1) 0) 10

-- the next byte, and the place after it; or none is left
abbrev pub NextIs : List ℕ → ℕ → Option (ℕ × ℕ) → Type 0
NextIs s at (Some (b, p)) = (left s at ≡ b ∷ left s p) × Forth s at p
NextIs s at None = left s at ≡ []

-- the word w stands at a place, and what ends it; or it does not
abbrev pub EndedIs : List ℕ → ℕ → List ℕ → Option Ended → Type 0
EndedIs s at w (Some (Ended.Space p)) = (left s at ≡ w ++ (32 ∷ left s p)) × Forth s at p
EndedIs s at w (Some (Ended.Line p)) = (left s at ≡ w ++ (10 ∷ left s p)) × Forth s at p
EndedIs s at w (Some Ended.Finish) = left s at ≡ w
EndedIs s at w None = Starts (left s at) w → ⊥

-- the digit at a place; or none stands there
abbrev pub DigitIs : List ℕ → ℕ → Option (ℕ × ℕ) → Type 0
DigitIs s at (Some (d, p)) = (left s at ≡ (48 + d) ∷ left s p) × Forth s at p × (d < 10)
DigitIs s at None = (d : ℕ) (t : List ℕ) → d < 10 → left s at ≡ (48 + d) ∷ t → ⊥

-- the number stands at a place, and what ends it; or none that a machine word holds does
abbrev pub NumeralIs : List ℕ → ℕ → Option (ℕ × Ended) → Type 0
NumeralIs s at (Some (n, e)) = EndedIs s at (decimal n) (Some e)
NumeralIs s at None = (m : ℕ) → m ≤ largest → Starts (left s at) (decimal m) → ⊥

abbrev pub label_of : Label → Name
label_of (Label.Variable v) = variable v
label_of (Label.Output j) = output j

-- a name whose number a machine word holds
abbrev pub Small : Name → Type 0
Small (variable v) = v ≤ largest
Small (output j) = j ≤ largest

-- the name stands at a place, and what ends it; or no small name does
abbrev pub CalledIs : List ℕ → ℕ → Option (Label × Ended) → Type 0
CalledIs s at (Some (a, e)) = EndedIs s at (name_word (label_of a)) (Some e)
CalledIs s at None = (b : Name) → Small b → Starts (left s at) (name_word b) → ⊥
