-- `cube::opposite` meets its contract: the lowest bit is the polarity. Assumes nothing.
use Prim.Native.Nat.{ℕ, zero, suc, ◌+◌, ◌-◌, ◌*◌, ◌/◌, ◌%◌, ◌<◌}
use mathlib.Core.Path.{◌≡◌, refl, ◌∙◌}
use native.Mathlib.Nat.{mod-lt, zero-lt-suc}
use native.Mathlib.Omega.{arith}
use lib.Bits.{bit_xor, differ, xor_step, xor_zero_r}
use Rattle.cube.proofs.opposite.Goals as goal

turned : (x : ℕ) → x < 2 → differ x 1 ≡ 1 - x
turned zero h = refl
turned (suc zero) h = refl
turned (suc (suc x)) h = absurd (omega arith)

flip : (l : ℕ) → bit_xor l 1 ≡ 2 * (l / 2) + (1 - l % 2)
flip l = xor_step l 1 ∙ omega (arith, xor_zero_r (l / 2), turned (l % 2) (mod-lt l (zero-lt-suc 1)))

pub returns : goal.returns
returns c = flip _
