-- Numbers in hex, and bytes of two digits each.
use Rattle.std.specs.Prelude.{ℕ, ◌+◌, ◌-◌, ◌*◌, Bool, true, false, cond, not, ◌&&◌, List, [], ◌∷◌, map, eqb, leb, ltb, length, Option, None, Some}
use Rattle.drive_request.specs.Words.{words_of}

-- the value of a lower-case hex digit; 16 for another byte
unfoldable pub digit_of : ℕ → ℕ
digit_of b = cond (leb 48 b && leb b 57) (b - 48) (cond (leb 97 b && leb b 102) (b - 87) 16)

-- the same, where the byte is such a digit
abbrev pub digit_in : ℕ → Option ℕ
digit_in b = cond (ltb (digit_of b) 16) (Some (digit_of b)) None

-- the number that digits write after those that wrote n; none where one is no digit
unfoldable pub hex_after : ℕ → List ℕ → Option ℕ
hex_after n [] = Some n
hex_after n (b ∷ t) = cond (ltb (digit_of b) 16) (hex_after (16 * n + digit_of b) t) None

-- one digit, or at most 16 of which the first is not `0`
unfoldable pub well_led : List ℕ → Bool
well_led [] = false
well_led (b ∷ []) = true
well_led (b ∷ d ∷ t) = not (eqb b 48) && leb (length (b ∷ d ∷ t)) 16

-- the number that a word is
unfoldable pub number_of : List ℕ → Option ℕ
number_of w = cond (well_led w) (hex_after 0 w) None

-- the numbers that a group is
abbrev pub numbers_of : List ℕ → List (Option ℕ)
numbers_of t = map number_of (words_of t)

-- two digits, a byte each time
unfoldable pub pairs_of : List ℕ → List (Option ℕ)
pairs_of [] = []
pairs_of (a ∷ []) = None ∷ []
pairs_of (a ∷ b ∷ t) = cond (ltb (digit_of a) 16 && ltb (digit_of b) 16) (Some (16 * digit_of a + digit_of b)) None ∷ pairs_of t

-- the bytes that a word is: two digits each, and `-` for none
unfoldable pub bytes_of : List ℕ → List (Option ℕ)
bytes_of [] = None ∷ []
bytes_of (a ∷ []) = cond (eqb a 45) [] (None ∷ [])
bytes_of (a ∷ b ∷ t) = pairs_of (a ∷ b ∷ t)
