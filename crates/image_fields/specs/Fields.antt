-- Bit fields, most significant bit first, and the bytes that they fill.
use Rattle.std.specs.Prelude.{ℕ, zero, suc, ◌+◌, ◌/◌, ◌^◌, Bool, false, cond, List, [], ◌∷◌, ◌++◌, length, take, drop, replicate}
use Rattle.sets.specs.Masks.{bit}

-- a field: its width in bits, and the number that it holds
pub record Field : Type 0 where
  pub width : ℕ
  pub value : ℕ

-- the lowest w bits of a number, most significant first
unfoldable pub bits_of : ℕ → ℕ → List Bool
bits_of zero v = []
bits_of (suc w) v = bit v w ∷ bits_of w v

-- the number whose bits these are, most significant first
unfoldable pub value_of : List Bool → ℕ
value_of [] = 0
value_of (b ∷ l) = cond b (2 ^ length l) 0 + value_of l

-- the bits of fields, one after the other
unfoldable pub field_bits : List Field → List Bool
field_bits [] = []
field_bits (f ∷ l) = bits_of f.width f.value ++ field_bits l

-- the bytes that so many bits take
abbrev pub bytes_for : ℕ → ℕ
bytes_for n = (n + 7) / 8

-- so many bytes of the bits, zero bits after them
unfoldable pub bytes_from : ℕ → List Bool → List ℕ
bytes_from zero l = []
bytes_from (suc k) l = value_of (take 8 (l ++ replicate 8 false)) ∷ bytes_from k (drop 8 l)

-- the bytes of the bits, with zero bits to the byte
abbrev pub bytes_of : List Bool → List ℕ
bytes_of l = bytes_from (bytes_for (length l)) l

-- the bits of bytes
unfoldable pub bits_in : List ℕ → List Bool
bits_in [] = []
bits_in (b ∷ l) = bits_of 8 b ++ bits_in l
