-- A struct by the rules means a lawful network, one that holds a lawful network is by the rules, and the judgement says which. Assumes nothing.
use Prim.Native.Nat.{ℕ}
use mathlib.Core.Path.{◌≡◌, sym, ap, ◌∙◌, subst}
use mathlib.Core.{Logic.inl, Logic.inr, Bool.true, Bool.false}
use native.Mathlib.Omega.{arith}
use lib.ListN.{length}
use Rattle.sets.{specs.Lists.total, proofs.Truth.decided, proofs.Lists.total-map}
use Rattle.expression.specs.declared.Verdict.TheVariants.{Accepted, Refused}
use Rattle.network.specs.{Net.Net, Net.nodes, Held.net_of, Held.rules, Rules.Lawful}
use Rattle.network.specs.{Handed.Shaped, Handed.Holds, Answers.judged, declared.Network.Network}
use Rattle.network.proofs.{Holding.lawful-rules, Holding.rules-iff, Handing.used-held, Handing.holds-net}

pub rules-lawful : (n : Network) → Shaped n → rules n ≡ true → Lawful (net_of n)
rules-lawful n s h = ((rules-iff n s).0 h).lawful

pub holds-lawful : (p : Network) (m : Net) → Holds p m → Lawful m → rules p ≡ true
holds-lawful p m h w =
    lawful-rules p (ap (λ (z : Net). length z.outputs) held ∙ sym h.outputs) (ap (λ (z : Net). length z.divisors) held ∙ sym h.divisors) (record {
      counted = omega (arith, ap (total (λ c. c)) (used-held p m h), total-map (λ c. c) length (nodes m), w.within.cubes);
      lawful = subst Lawful (sym held) w;
    })
  where
    held : net_of p ≡ m
    held = holds-net p m h w.good.in_turn

-- ---- what is judged

pub accepted-rules : (n : Network) → judged n ≡ Accepted → rules n ≡ true
unfolding judged
accepted-rules n h = elim (decided (rules n)) [ inl e ↦ e | inr e ↦ let q = rw e at h in let z : ◌≡◌ {A = ℕ} 0 1 = cc in absurd (omega arith) ]

pub refused-rules : (n : Network) (x : ℕ) → judged n ≡ Refused x → rules n ≡ false
unfolding judged
refused-rules n x h = elim (decided (rules n)) [ inl e ↦ let q = rw e at h in let z : ◌≡◌ {A = ℕ} 0 1 = cc in absurd (omega arith) | inr e ↦ e ]
