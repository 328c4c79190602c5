-- What is told of an answer: by the rules or refused by 10, and no two answers differ. Assumes nothing.
use Prim.Native.Nat.{ℕ}
use mathlib.Core.Path.{◌≡◌, sym, ◌∙◌}
use mathlib.Core.{Logic.inl, Logic.inr, Bool.true, Bool.false}
use Rattle.sets.proofs.Truth.{decided}
use native.Mathlib.Omega.{arith}
use Rattle.expression.specs.declared.Verdict.TheVariants.{Accepted, Refused}
use Rattle.network.specs.{Net.Net, Held.rules, declared.Network.Network, declared.Handed.Handed}
use Rattle.network.specs.Handed.{Typed, Holds, AllZero, Return, gives, refuses, Told, by_rules}
use Rattle.network.proofs.Handing.{holds-one, blank-one}

-- no two answers differ
pub told-one : (o : Return) (r p : Handed) → Typed r.network → Typed p.network → Told o r → Told o p → r ≡ p
told-one (gives m) r p a b (x, h) (y, k) = λ i. record { answer = (x ∙ sym y) i; network = holds-one r.network p.network m a b h k i }
told-one (refuses n) r p a b (x, h) (y, k) = λ i. record { answer = (x ∙ sym y) i; network = blank-one r.network p.network h k i }

-- ---- for a network handed in

module _ (n : Network) (m : Net) (r : Handed) where
  pub told-gives : rules n ≡ true → Told (gives m) r → Told (by_rules n m) r
  told-gives e t = rw e t

  pub told-refuses : rules n ≡ false → Told (refuses 10) r → Told (by_rules n m) r
  told-refuses e t = rw e t

  -- accepted, it is by the rules
  pub told-accepted : Told (by_rules n m) r → r.answer ≡ Accepted → (rules n ≡ true) × Holds r.network m
  told-accepted t a = elim (decided (rules n)) [
    | inl e ↦ (e, (rw e at t).1)
    | inr e ↦ let q = (rw e at t).0 in let z : ◌≡◌ {A = ℕ} 0 1 = cc in absurd (omega arith)
  ]

  -- refused, it breaks one, and the network is zero
  pub told-refused : (k : ℕ) → Told (by_rules n m) r → r.answer ≡ Refused k → (rules n ≡ false) × AllZero r.network
  told-refused k t a = elim (decided (rules n)) [
    | inl e ↦ let q = (rw e at t).0 in let z : ◌≡◌ {A = ℕ} 0 1 = cc in absurd (omega arith)
    | inr e ↦ (e, (rw e at t).1)
  ]
