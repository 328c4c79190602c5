-- The answers of `extract_choice::scan`.
use Prim.Native.Nat.{ℕ, ◌+◌}
use mathlib.Core.Path.{◌≡◌, refl, sym, ap, ap₂, ◌∙◌, subst}
use native.Mathlib.Numerals.{add-one}
use lib.Signed.{lt_z}
use mir.Syntax.{w32}
use mir.Facts.{to_z-of_z}
use Rattle.extract_divisor.specs.Divisor.{weighed_of}
use Rattle.extract_laws.specs.Run.{Weighed}
use Rattle.extract_gains.specs.Gains.{key_at}
use Rattle.extract_keys.specs.Keys.{cost_at}
use Rattle.extract_choice.specs.Parts.{offered, picked, best_below, Modest}
use Rattle.extract_choice.proofs.Weights.{difference-modest, difference-less, cost-few, picked-less, picked-modest}
use borrow.Author.Rules.{rules}
use Rattle.extract_choice.proofs.scan.Goals as goal
use Rattle.extract_choice.proofs.scan.Goals.{After-gain_at-gain, then-from-held, else-from-held}

pub loop-e-init : goal.loop-e-init
unfolding best_below
loop-e-init c = let e = c.no_step-held.ensures in rw e (refl, refl)

abbrev key : After-gain_at-gain → ℕ
key c = key_at c.args.t.now c.loop-e.e

abbrev entry : After-gain_at-gain → Weighed
entry c = offered (key c) c.gain_at-gain.result

-- the best of one entry more
next : (c : After-gain_at-gain) → let l = c.loop-e in let a = c.args in
    picked (weighed_of l.held) (entry c) ≡ best_below a.t.now a.g.now (l.e + 1)
unfolding best_below
next c =
    let l = c.loop-e in
    let a = c.args in
    ap₂ picked l.invariant.0 (ap (offered (key c)) c.gain_at-gain.ensures) ∙ ap (best_below a.t.now a.g.now) (sym (add-one l.e))

pub loop-e-preserved : goal.loop-e-preserved
loop-e-preserved c =
    let l = c.loop-e in
    elim c.if-from-held.branch [
      | then-from-held w ↦
          let p : weighed_of w.offer-held.result ≡ picked (weighed_of l.held) (entry (goal.at.loop-e-preserved c).After-gain_at-gain) = rw (← w.key_at.ensures) w.offer-held.ensures in
          let d = difference-modest c.gain_at-gain.result (cost_at (key (goal.at.loop-e-preserved c).After-gain_at-gain)) (search rules) in
          let m = picked-modest (weighed_of l.held) (entry (goal.at.loop-e-preserved c).After-gain_at-gain) l.invariant.1 d in
          rw w.held-is (p ∙ next (goal.at.loop-e-preserved c).After-gain_at-gain, subst (λ (z : Weighed). Modest z.weight) (sym p) m)
      | else-from-held w ↦
          let x = c.gain_at-gain.result in
          let p = difference-less x (cost_at (key (goal.at.loop-e-preserved c).After-gain_at-gain)) l.held.weight (cost-few (key (goal.at.loop-e-preserved c).After-gain_at-gain)).0
          (ap (lt_z l.held.weight) (sym c.from.ensures) ∙ ap₂ lt_z (sym (to_z-of_z {w = w32} {z = l.held.weight} (search rules)))
          (sym (to_z-of_z {w = w32} {z = c.from.result} (search rules))) ∙ w.if-from-held.false) in
          rw w.held-is (sym (picked-less (weighed_of l.held) (entry (goal.at.loop-e-preserved c).After-gain_at-gain) p) ∙ next (goal.at.loop-e-preserved c).After-gain_at-gain, l.invariant.1)
    ]
