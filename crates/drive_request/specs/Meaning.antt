-- How a line is written: what the laws of the words and groups speak of.
use Rattle.std.specs.Prelude.{ℕ, ◌≡◌, Bool, true, not, ◌&&◌, List, [], ◌∷◌, ◌++◌, eqb}
use Rattle.sets.specs.Lists.{all, is_nil}
use Rattle.drive_request.specs.Words.{is_part}

-- words one blank apart
unfoldable pub spread : List (List ℕ) → List ℕ
spread [] = []
spread (w ∷ []) = w
spread (w ∷ v ∷ ws) = w ++ (32 ∷ spread (v ∷ ws))

-- no blank is in it
abbrev pub is_clear : List ℕ → Bool
is_clear w = all (λ b. not (eqb b 32)) w

-- a word: a byte at least, and no blank
abbrev pub is_word : List ℕ → Bool
is_word w = not (is_nil w) && is_clear w

-- a lone `;`
abbrev pub mark : List ℕ
mark = 59 ∷ []

-- no word of a group is one
abbrev pub Unparted : List (List ℕ) → Type 0
Unparted g = all (λ v. not (is_part v)) g ≡ true
