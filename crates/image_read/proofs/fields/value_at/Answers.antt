-- The answers of `image_read::fields::value_at`.
use Prim.Native.Nat.{◌+◌, ◌-◌, ◌*◌, ◌/◌, ◌%◌}
use mathlib.Core.Path.{◌≡◌, sym, ap, ◌∙◌, refl}
use mathlib.Core.Bool.{cond}
use native.Mathlib.Omega.{arith}
use native.Mathlib.Numerals.{add-one}
use lib.ListN.{get_or, take, drop}
use Rattle.sets.specs.Masks.{bit}
use Rattle.image_fields.{specs.Fields.value_of, specs.Fields.bits_in, proofs.Bytes.value-next}
use Rattle.image_read.proofs.{Bits.value-small, Bits.bit-small}
use Rattle.image_read.proofs.fields.value_at.Goals as goal

pub loop-i-init : goal.loop-i-init
unfolding value_of
loop-i-init c = refl

pub overflow_mul-v : goal.overflow_mul-v
overflow_mul-v c =
    omega (arith, c.loop-i.invariant, value-small c.loop-i.i (drop c.args.at (bits_in c.args.bytes.now)) (omega (arith, c.requires.2)))

pub overflow_add-v : goal.overflow_add-v
overflow_add-v c =
    let q = c.args.at + c.loop-i.i in
    omega (
      arith,
      c.loop-i.invariant,
      value-small c.loop-i.i (drop c.args.at (bits_in c.args.bytes.now)) (omega (arith, c.requires.2)),
      c.bit_at.ensures,
      bit-small (bit (get_or c.args.bytes.now (q / 8) 0) (7 - q % 8)),
    )

pub loop-i-preserved : goal.loop-i-preserved
loop-i-preserved c =
    let bs = c.args.bytes.now in
    let e : 2 * c.loop-i.v + c.bit_at.result ≡ 2 * value_of (take c.loop-i.i (drop c.args.at (bits_in bs))) + cond
    (bit (get_or bs ((c.args.at + c.loop-i.i) / 8) 0) (7 - (c.args.at + c.loop-i.i) % 8)) 1 0 = omega (arith, c.loop-i.invariant, c.bit_at.ensures) in
    e ∙ sym (ap (λ n. value_of (take n (drop c.args.at (bits_in bs)))) (add-one c.loop-i.i)
    ∙ value-next bs c.args.at c.loop-i.i (omega (arith, c.requires.0)))
