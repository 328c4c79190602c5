-- Values read into a lent room.
use Rattle.std.specs.Prelude.{ℕ, suc, List, [], ◌∷◌, ltb, length, Option, None, Some}
use mathlib.Core.{Path.◌≡◌, Bool.cond}
use Rattle.std.proofs.lemmas.List.Edits.{sets}

-- the values before the first that is none
unfoldable pub values_of : List (Option ℕ) → List ℕ
values_of [] = []
values_of (None ∷ os) = []
values_of (Some v ∷ os) = v ∷ values_of os

-- how many values there are with n others, in a room for so many; nothing where one is none or has no room
unfoldable pub count_of : ℕ → ℕ → List (Option ℕ) → Option ℕ
count_of room n [] = Some n
count_of room n (None ∷ os) = None
count_of room n (Some v ∷ os) = cond (ltb n room) (count_of room (suc n) os) None

-- the values before the first that is none are stored from the front on, each for which there is room, and all are counted
pub record Stored (old new : List ℕ) (r : Option ℕ) (os : List (Option ℕ)) : Type 0 where
  pub answer : r ≡ count_of (length old) 0 os
  pub bytes : new ≡ sets old 0 (values_of os)
