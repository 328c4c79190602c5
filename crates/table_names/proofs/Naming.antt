-- The name of an input: what the first line of a text gives, and what the others give. Assumes nothing.
use Prim.Native.Nat.{ℕ, ◌<◌, ◌≤◌}
use mathlib.Core.Path.{◌≡◌, refl}
use mathlib.Core.Bool.{true, false, cond}
use mathlib.Core.List.{List, [], ◌∷◌}
use native.Mathlib.Omega.{arith}
use lib.ListN.{length}
use borrow.Author.Tests.{lt-ltb, le-ltb}
use Rattle.sets.specs.Lists.{is_nil}
use Rattle.table_lines.specs.Text.{trim_front, trim_end, lines_of}
use Rattle.table_names.specs.Names.{name_after, named, begins_cube, first_name, name_of}

-- ---- the parts of a line

pub name-there : (t n : List ℕ) → n ≡ trim_front t → length n < length t → trim_end n ≡ name_after t
unfolding name_after
name-there t n e h = rw (← e, lt-ltb (length n) (length t) h)

-- ---- a list of lines

module _ (i : ℕ) (l : List ℕ) (ls : List (List ℕ)) where
  pub name-found : 0 < length (named i l) → first_name i (l ∷ ls) ≡ named i l
  unfolding first_name
  name-found h = go (named i l) h
    where
      go : (n : List ℕ) → 0 < length n → cond (is_nil n) (cond (begins_cube l) [] (first_name i ls)) n ≡ n
      go [] k = absurd (omega arith)
      go (b ∷ t) k = refl

  pub name-closed : named i l ≡ [] → begins_cube l ≡ true → first_name i (l ∷ ls) ≡ []
  unfolding first_name
  name-closed e b = rw (e, b)

  pub name-later : named i l ≡ [] → begins_cube l ≡ false → first_name i (l ∷ ls) ≡ first_name i ls
  unfolding first_name
  name-later e b = rw (e, b)

-- ---- the lines of a text

pub no_bytes : (l : List ℕ) → length l ≤ 0 → l ≡ []
no_bytes [] h = refl
no_bytes (b ∷ t) h = absurd (omega arith)

module _ (i : ℕ) where
  pub name-few : (t : List ℕ) → i < 100 → name_of i t ≡ first_name i (lines_of t)
  unfolding name_of
  name-few t h = rw (lt-ltb i 100 h)

  pub name-many : (t : List ℕ) → 100 ≤ i → name_of i t ≡ []
  unfolding name_of
  name-many t h = rw (le-ltb i 100 h)
