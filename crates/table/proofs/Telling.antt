-- No two answers to one text differ, and an answer says what the outcome is. Assumes nothing.
use Prim.Native.Nat.{ℕ}
use mathlib.Core.Path.{◌≡◌, refl, sym, ◌∙◌, ap}
use native.Mathlib.Omega.{arith}
use Rattle.network.proofs.Handing.{Typed, holds-one, blank-one}
use Rattle.table.specs.Table.{State, Outcome, accepted, refused, table_net}
use Rattle.table.specs.{Answers.Told, declared.Refusal.Refusal, declared.Answer.TheVariants.Read, declared.Answer.TheVariants.Refused}
use Rattle.table.specs.declared.Table.{Table}

-- two answers to one text are the same
pub told-one : (o : Outcome) (r p : Table) → Typed r.network → Typed p.network → Told o r → Told o p → r ≡ p
told-one (accepted s) r p x y a b = λ i. record {
  answer = (a.0 ∙ sym b.0) i;
  network = holds-one r.network p.network (table_net s) x y a.1 b.1 i;
}
told-one (refused q) r p x y a b = λ i. record { answer = (a.0 ∙ sym b.0) i; network = blank-one r.network p.network a.1 b.1 i }

module _ (r : Table) where
  pub told-accepted : (o : Outcome) → Told o r → r.answer ≡ Read → (s : State) × (o ≡ accepted s)
  told-accepted (accepted s) h e = (s, refl)
  told-accepted (refused q) h e = let a = h.0 in let z : ◌≡◌ {A = ℕ} 0 1 = cc in absurd (omega arith)

  pub told-refused : (o : Outcome) → Told o r → (q : Refusal) → r.answer ≡ Refused q → o ≡ refused q
  told-refused (accepted s) h q e = let a = h.0 in let z : ◌≡◌ {A = ℕ} 0 1 = cc in absurd (omega arith)
  told-refused (refused p) h q e = let a = h.0 in let x : p ≡ q = cc in ap refused x
