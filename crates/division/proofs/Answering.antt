-- The contract of a division leaves one answer, and one content of both rooms. Assumes nothing.
use Prim.Native.Nat.{ℕ}
use mathlib.Core.Path.{◌≡◌, sym, ◌∙◌}
use mathlib.Core.{Bool.true, List.List}
use mathlib.Core.Option.{Option, none, some}
use Rattle.expression.proofs.Words.{fit, written_one}
use Rattle.division.specs.{Answers.Told, declared.Division.Division}

module _ (f d q r : List ℕ) {q₁ r₁ q₂ r₂ : List ℕ} {a b : Division} (h : fit q₁ ≡ true) (k : fit r₁ ≡ true) (h' : fit q₂ ≡ true) (k' : fit r₂ ≡ true) where
  pub told-one : (o : Option ℕ) → Told o f d q r q₁ r₁ a → Told o f d q r q₂ r₂ b → (a ≡ b) × (q₁ ≡ q₂) × (r₁ ≡ r₂)
  told-one (some n) (e, u, v) (e', u', v') = (e ∙ sym e', u ∙ sym u', v ∙ sym v')
  told-one none (e, u, v) (e', u', v') = (e ∙ sym e', written_one h h' u u', written_one k k' v v')
