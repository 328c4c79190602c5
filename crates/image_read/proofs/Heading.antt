-- The fields before the first node. Assumes nothing.
use Prim.Native.Nat.{ℕ, suc, ◌+◌, ◌^◌, ◌<◌}
use mathlib.Core.Path.{◌≡◌, refl, sym, ap, subst, ◌∙◌}
use mathlib.Core.Bool.{Bool, true, false}
use mathlib.Core.{List.List, Logic.⊎_elim}
use native.Mathlib.Omega.{arith}
use native.Mathlib.Numerals.{add-one}
use lib.Dec.{leb, eqb}
use lib.ListN.{drop}
use borrow.Author.Tests.{ne_eqb, eq-eqb, leb-true}
use Rattle.sets.proofs.Truth.{decided}
use Rattle.network.specs.Held.{most_variables}
use Rattle.image_laws.specs.Widths.{edition_field, edition1, head_size}
use Rattle.image_laws.specs.Reading.{bad, and_then, get_field, get_nodes, get_raw}
use Rattle.image_read.specs.Parts.{FieldIs, sizes_of, HeadIs}
use Rattle.std.proofs.Common.{Some, None, Result}
use Rattle.image_read.specs.declared.{Sizes.Sizes, Fault.Fault}
use Rattle.image_read.proofs.Bits.{value-below}
use Rattle.image_read.proofs.Fielding.{field_cut, field-bad, field-got}

-- a field of w bits holds a number below the power
pub field_below : (w v : ℕ) (l : List Bool) → FieldIs w l (Some v) → v < 2 ^ w
field_below w v l h = subst (λ n. n < 2 ^ w) (sym h.1) (value-below w l)

-- where the fields begin
abbrev pub inputs_at : ℕ
inputs_at = edition_field

abbrev pub outputs_at : ℕ
outputs_at = inputs_at + edition1.inputs

abbrev pub divisors_at : ℕ
divisors_at = outputs_at + edition1.outputs

module _ (bits : List Bool) where
  pub edition-cut : FieldIs edition_field bits None → get_raw bits ≡ bad 11
  unfolding get_raw
  edition-cut h = rw (field_cut edition_field (eqb edition1.number) bits h)

  module _ (e : ℕ) (h : FieldIs edition_field bits (Some e)) where
    pub edition-bad : (e ≡ edition1.number → ⊥) → get_raw bits ≡ bad 12
    unfolding get_raw
    edition-bad d = rw (field-bad edition_field (eqb edition1.number) bits e h (ne_eqb edition1.number e (λ q. d (sym q))))

    module _ (one : e ≡ edition1.number) where
      yes : eqb edition1.number e ≡ true
      yes = eq-eqb edition1.number e (sym one)

      pub inputs-cut : FieldIs edition1.inputs (drop inputs_at bits) None → get_raw bits ≡ bad 11
      unfolding get_raw
      inputs-cut q = rw (field-got edition_field (eqb edition1.number) bits 0 e h yes, field_cut edition1.inputs (λ x. true) (drop inputs_at bits) q)

      module _ (a : ℕ) (ha : FieldIs edition1.inputs (drop inputs_at bits) (Some a)) where
        pub outputs-cut : FieldIs edition1.outputs (drop outputs_at bits) None → get_raw bits ≡ bad 11
        unfolding get_raw
        outputs-cut q = rw (
          field-got edition_field (eqb edition1.number) bits 0 e h yes,
          field-got edition1.inputs (λ x. true) bits inputs_at a ha refl,
          field_cut edition1.outputs (λ x. true) (drop outputs_at bits) q,
        )

      module _ (a : ℕ) (ha : FieldIs edition1.inputs (drop inputs_at bits) (Some a)) (b : ℕ)
          (hb : FieldIs edition1.outputs (drop outputs_at bits) (Some b)) where
        abbrev test : ℕ → Bool
        test k = leb (suc a + k) most_variables

        outputs-on : get_raw bits ≡ and_then (get_field edition1.divisors test (drop divisors_at bits)) (λ k r. get_nodes (suc a) (suc b) k r)
        unfolding get_raw
        outputs-on = rw (
          field-got edition_field (eqb edition1.number) bits 0 e h yes,
          field-got edition1.inputs (λ x. true) bits inputs_at a ha refl,
          field-got edition1.outputs (λ x. true) bits outputs_at b hb refl,
        )

        pub divisors-cut : FieldIs edition1.divisors (drop divisors_at bits) None → get_raw bits ≡ bad 11
        divisors-cut q = outputs-on ∙ rw (field_cut edition1.divisors test (drop divisors_at bits) q) refl

        module _ (k : ℕ) (hk : FieldIs edition1.divisors (drop divisors_at bits) (Some k)) where
          sizes-on : test k ≡ true → get_raw bits ≡ get_nodes (suc a) (suc b) k (drop head_size bits)
          sizes-on q = outputs-on ∙ rw (field-got edition1.divisors test bits divisors_at k hk q) refl

          sizes-off : test k ≡ false → get_raw bits ≡ bad 12
          sizes-off q = outputs-on ∙ rw (field-bad edition1.divisors test (drop divisors_at bits) k hk q) refl

          -- all fields are there
          pub sizes-are : (r : Result Sizes Fault) → r ≡ sizes_of a b k → HeadIs bits r
          sizes-are r e' = subst (HeadIs bits) (sym e') (⊎_elim few many (decided (leb (a + 1 + k) most_variables)))
            where
              same : leb (a + 1 + k) most_variables ≡ test k
              same = ap (λ n. leb (n + k) most_variables) (add-one a)

              few : leb (a + 1 + k) most_variables ≡ true → HeadIs bits (sizes_of a b k)
              few q = rw q (record {
                is = sizes-on (sym same ∙ q) ∙ rw (add-one a, add-one b) refl;
                sized = record { outputs = omega (arith, field_below edition1.outputs b (drop outputs_at bits) hb); variables = leb-true _ most_variables q };
              })

              many : leb (a + 1 + k) most_variables ≡ false → HeadIs bits (sizes_of a b k)
              many q = rw q (sizes-off (sym same ∙ q))
