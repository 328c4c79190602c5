-- Bytes as a quoted text spells them, and texts with one between them: the words in which laws and rows say what is printed.
use Rattle.std.specs.Prelude.{ℕ, List, [], ◌∷◌, ◌++◌}
use Prim.Native.Char.{code}
use Prim.Native.String.{String, [] as end, ◌∷◌ as front}

-- a byte for each character
unfoldable pub spelled : String → List ℕ
spelled end = []
spelled (front c s) = code c ∷ spelled s

unfoldable pub between : String → List (List ℕ) → List ℕ
between s [] = []
between s (t ∷ []) = t
between s (t ∷ u ∷ l) = t ++ (spelled s ++ between s (u ∷ l))
