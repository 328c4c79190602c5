-- A field that was read is the field of the definition. Assumes nothing.
use Prim.Native.Nat.{ℕ, ◌+◌}
use mathlib.Core.Path.{◌≡◌, refl, sym, ap, ◌∙◌}
use mathlib.Core.Bool.{Bool, true, false}
use mathlib.Core.List.{List}
use lib.ListN.{length, drop}
use lib.Seq.{drop-drop}
use borrow.Author.Tests.{lt-ltb, le-ltb}
use Rattle.image_laws.specs.Reading.{got, bad, get_field}
use Rattle.std.proofs.Common.{Option, Some, None, Result, Ok, Err, ok_or}
use Rattle.image_read.specs.declared.{Fault.Fault, Fault.TheVariants.Cut}
use Rattle.image_read.specs.Parts.{FieldIs}

module _ (w : ℕ) (ok : ℕ → Bool) (l : List Bool) where
  pub field_cut : FieldIs w l None → get_field w ok l ≡ bad 11
  unfolding get_field
  field_cut h = rw (lt-ltb (length l) w h)

  module _ (v : ℕ) (h : FieldIs w l (Some v)) where
    pub field-bad : ok v ≡ false → get_field w ok l ≡ bad 12
    unfolding get_field
    field-bad e = rw (le-ltb (length l) w h.0, sym h.1, e)

    field-here : ok v ≡ true → get_field w ok l ≡ got v (drop w l)
    unfolding get_field
    field-here e = rw (le-ltb (length l) w h.0, sym h.1, e)

pub field-got : (w : ℕ) (ok : ℕ → Bool) (bits : List Bool) (at v : ℕ) → FieldIs w (drop at bits) (Some v) → ok v ≡ true
    → get_field w ok (drop at bits) ≡ got v (drop (at + w) bits)
field-got w ok bits at v h e = field-here w ok (drop at bits) v h e ∙ ap (got v) (drop-drop w at bits)

-- ---- a field that has to be there

pub field_some : (o : Option ℕ) {r : Result ℕ Fault} {v : ℕ} → r ≡ ok_or o Cut → r ≡ Ok v → o ≡ Some v
field_some None e h = cc
field_some (Some x) e h = cc

pub field_none : (o : Option ℕ) {r : Result ℕ Fault} {e : Fault} → r ≡ ok_or o Cut → r ≡ Err e → (o ≡ None) × (e ≡ Cut)
field_none None e h = (refl, cc)
field_none (Some x) e h = (cc, cc)
