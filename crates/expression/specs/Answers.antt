-- What the answers of this crate mean, with the paper's numbers.
use Rattle.std.specs.Prelude.{ℕ, suc, ◌*◌, ◌%◌, ◌<◌, ◌≤◌, ◌≡◌, true, false, cond, ◌&&◌, ltb, length, get_or}
use mathlib.Core.List.{List, [], Memᴰ}
use Rattle.std.proofs.Math.Option.{Option, none, some}
use Rattle.sets.specs.{Lists.is_nil, Sets.sub, Sets.proper, Word.largest}
use Rattle.expression.specs.Words.{cube_words, cubes_of, spare_of}
use Rattle.expression.specs.{Expression.expression, declared.Verdict.Verdict}
use Rattle.expression.specs.declared.Verdict.TheVariants.{Accepted, Refused}
use Rattle.std.specs.Prelude as std
use Rattle.std.specs.Prelude.{Some, None}

-- how many cubes an expression handed in may have
abbrev pub most_handed : ℕ
most_handed = 1024

-- the refusal's number, if any
abbrev pub refusal_of : Verdict → Option ℕ
refusal_of Accepted = none
refusal_of (Refused n) = some n

-- 6: over 1,024 cubes, whole or begun; else 7: a word is left over, or the cubes are no expression
unfoldable pub refusal : List ℕ → Option ℕ
refusal ws = cond (ltb (cube_words * most_handed) (length ws)) (some 6) (cond (is_nil (spare_of ws) && expression (cubes_of ws)) none (some 7))

-- what is accepted: at most 1,024 cubes, no word left over, each cube with no variable both ways, and none containing or equal to another
abbrev pub Acceptable : List ℕ → Type 0
Acceptable ws =
    (length ws ≤ cube_words * most_handed) × (length ws % cube_words ≡ 0) × ((c : List ℕ) → Memᴰ c (cubes_of ws) → proper c ≡ true)
    × ((i j : ℕ) → i < length (cubes_of ws) → j < length (cubes_of ws) → (i ≡ j → ⊥) → sub (get_or (cubes_of ws) i []) (get_or (cubes_of ws) j []) ≡ false)

-- the place found, if any
abbrev pub place_of : std.Option ℕ → Option ℕ
place_of (Some i) = some i
place_of None = none

-- a count as 64 bits hold it: the largest number where it would pass
abbrev pub capped : ℕ → ℕ
capped n = cond (ltb n (suc largest)) n largest
