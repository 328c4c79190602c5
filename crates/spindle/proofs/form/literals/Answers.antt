-- `form::literals` meets its contract: the count is answered exactly where the rules are kept. Assumes nothing.
use Rattle.std.proofs.Common.{◌≡◌, ℕ, Bool, true, false, cond, sym, refl, ap, ◌∙◌}
use Rattle.network.specs.{Net.literal_count, Held.net_of, Held.rules, Answers.counted, declared.Network.Network}
use Rattle.network.specs.declared.{Number.Number, Number.TheVariants.Is, Number.TheVariants.No}
use Rattle.spindle.proofs.form.literals.Goals as goal

abbrev told : Number → ℕ
told (Is x) = x
told (No k) = 0

tells : (n : Network) (a : Number) → a ≡ counted n → told a ≡ cond (rules n) (literal_count (net_of n)) 0
unfolding counted
tells n a e = ap told e ∙ go (rules n)
  where
    go : (b : Bool) → told (cond b (Is (literal_count (net_of n))) (No 10)) ≡ cond b (literal_count (net_of n)) 0
    go true = refl
    go false = refl

pub returns-in-Is : goal.returns-in-Is
returns-in-Is c = ap told (sym c.in-Is.is) ∙ tells _ _ c.literals.ensures

pub returns-in-No : goal.returns-in-No
returns-in-No c = ap told (sym c.in-No.is) ∙ tells _ _ c.literals.ensures
