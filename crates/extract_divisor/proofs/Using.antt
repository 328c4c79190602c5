-- In cube order the test of a use finds the uses: halving finds a cube where it is one of them. Assumes nothing.
use Prim.Native.Nat.{ℕ}
use mathlib.Core.{Path.◌≡◌, Bool.true, List.List}
use Rattle.sets.specs.Sets.{union, without}
use Rattle.expression.specs.Expression.{ordered}
use Rattle.expression_survey.proofs.Searching.{find-has}
use Rattle.extract_laws.specs.Divisor.{use_of}
use Rattle.extract_divisor.specs.Divisor.{found_use}

pub found-use : (a b : List ℕ) (f : List (List ℕ)) (c : List ℕ) → ordered f ≡ true → found_use a b f c ≡ use_of a b f c
unfolding found_use use_of
found-use a b f c o = rw (find-has (union (without c a) b) f o)
