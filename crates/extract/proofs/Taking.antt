-- What the choice and the step answer on a network by the rules whose cubes stand in cube order. Assumes nothing.
use Prim.Native.Nat.{ℕ, ◌≤◌}
use mathlib.Core.Path.{◌≡◌, refl, sym, ap, ◌∙◌, subst}
use mathlib.Core.Bool.{Bool, true, false, cond}
use mathlib.Core.Logic.{inl, inr}
use mathlib.Core.Option.{Option, none, some}
use native.Mathlib.Omega.{arith}
use lib.IntN.{pos}
use lib.Signed.{lt_z}
use borrow.Author.Tests.{le-ltb}
use Rattle.sets.proofs.Truth.{decided}
use Rattle.network.specs.{Net.Net, Net.literal_count, Held.net_of, Held.most_literals, declared.Network.Network}
use Rattle.extract_laws.specs.Divisor as divisors
use Rattle.extract_laws.specs.Extract.{weight, best, step}
use Rattle.extract_laws.specs.Run.{Weighed, weighing, Move, finished, stuck, makes, room_for, choose, move_of}
use Rattle.extract_laws.specs.Meaning.{Good, Worth, Allows}
use Rattle.extract_laws.specs.Meaning.Allows.{nothing, no_number, no_rows, next}
use Rattle.extract_laws.proofs.{Weighing.step-smaller, Choosing.best-iff, Keeping.worth-fit}
use Rattle.extract_laws.proofs.Moving.{worth-done, worth-one, move-iff}
use Rattle.extract_tidy.specs.Tidy.{arranged}
use Rattle.extract_divisor.specs.{Divisor.divisor_of, Divisor.weighed_of, declared.Divisor.Divisor, declared.Step.Step}
use Rattle.extract_choice.specs.Choice.{worth_in, chosen_in, Chosen}
use Rattle.extract_step.specs.Replace.{allowed, outcome_of, Stepped}
use Rattle.extract_step.specs.declared.Outcome.TheVariants as Outcome
use Rattle.extract_step.{specs.declared.Next.Next, proofs.Keeping.Takes, proofs.Keeping.stepped-takes}
use Rattle.extract_fit.proofs.Fitting.{fitting-iff}
use Rattle.extract.specs.{Answers.stop_of, Parts.reason_of}

-- ---- the choice

-- nothing is left, or the step is that of the best divisor
pub data Choice (n : Net) (s : Step) : Type 0 where
  nothing_left : lt_z (pos 0) s.weight ≡ false → move_of n ≡ finished → Choice n s
  one_taken : lt_z (pos 0) s.weight ≡ true → Worth n (divisor_of s.divisor) → weighed_of s ≡ weighing n (divisor_of s.divisor) → Choice n s

worth-as : (n : Net) (s : Step) → Chosen (worth_in n (best n)) s → Choice n s
unfolding worth_in move_of choose
worth-as n s = go (best n) refl
  where
    go : (o : Option divisors.Divisor) → best n ≡ o → Chosen (worth_in n o) s → Choice n s
    go none e h = nothing_left (ap (λ (t : Step). lt_z (pos 0) t.weight) h) (ap (choose n) e)
    go (some d) e h = elim (decided (lt_z (pos 0) (weight n d))) [
      | inl w ↦
          let k : weighed_of s ≡ weighing n d = rw w at h in
          let q : divisor_of s.divisor ≡ d = ap (λ (t : Weighed). t.divisor) k in
          one_taken (ap (λ (t : Weighed). lt_z (pos 0) t.weight) k ∙ w) (subst (Worth n) (sym q) (record { best = (best-iff n d).0 e; above = w }))
          (k ∙ ap (weighing n) (sym q))
      | inr w ↦ nothing_left (ap (λ (t : Step). lt_z (pos 0) t.weight) (rw w at h)) (ap (choose n) e ∙ rw w)
    ]

pub chosen-as : (n : Network) (s : Step) → arranged n ≡ true → Chosen (chosen_in n) s → Choice (net_of n) s
unfolding chosen_in
chosen-as n s a h = worth-as (net_of n) s (subst (λ (b : Bool). Chosen (cond b (worth_in (net_of n) (best (net_of n))) none) s) a h)

-- ---- the step

-- there is room, and the network after the step is held; or there is none
pub data Taken (n : Net) (d : divisors.Divisor) (t : Next) : Type 0 where
  was_made : t.outcome ≡ Outcome.Made → move_of n ≡ makes d → Takes n d t → Taken n d t
  was_not : (t.outcome ≡ Outcome.Made → ⊥) → move_of n ≡ stuck (stop_of (reason_of t.outcome)) → Taken n d t

module _ (n : Network) (d : Divisor) (t : Next) (a : arranged n ≡ true) (few : literal_count (net_of n) ≤ most_literals)
    (g : Good (net_of n)) (w : Worth (net_of n) (divisor_of d)) where
  outcome-room : outcome_of n d ≡ allowed (net_of n) (room_for (net_of n) (divisor_of d))
  unfolding outcome_of
  outcome-room = rw (a, (fitting-iff (net_of n) (divisor_of d)).1 (worth-fit g w))

  move-room : move_of (net_of n) ≡ room_for (net_of n) (divisor_of d)
  unfolding move_of choose
  move-room = ap (choose (net_of n)) ((best-iff (net_of n) (divisor_of d)).1 w.best) ∙ rw w.above

  pub stepped-as : Stepped n (outcome_of n d) t → Taken (net_of n) (divisor_of d) t
  stepped-as o =
      go (move_of (net_of n)) refl ((move-iff (net_of n) (move_of (net_of n))).0 refl)
      (subst (λ (o : Option Move). Stepped n o t) (outcome-room ∙ ap (allowed (net_of n)) (sym move-room)) o)
    where
      go : (m : Move) → move_of (net_of n) ≡ m → Allows (net_of n) m → Stepped n (allowed (net_of n) m) t → Taken (net_of n) (divisor_of d) t
      go m e (nothing h) s = absurd (worth-done (net_of n) w h)
      go m e (no_number v l) s =
          was_not (λ p. let z : ◌≡◌ {A = ℕ} 0 1 = cc s.0 in omega arith) (e ∙ ap (λ o. stuck (stop_of (reason_of o))) (sym s.0))
      go m e (no_rows v l k) s =
          was_not (λ p. let z : ◌≡◌ {A = ℕ} 0 1 = cc s.0 in omega arith) (e ∙ ap (λ o. stuck (stop_of (reason_of o))) (sym s.0))
      go m e (next {d = x} v l k) s =
          -- no weight above 0 passes the most literals
          let f : literal_count (step (net_of n) x) ≤ most_literals = omega (arith, step-smaller (net_of n) g x (worth-fit g v).whole v.above) in
          let q : t.outcome ≡ Outcome.Made = (rw (le-ltb most_literals (literal_count (step (net_of n) x)) f) at s).0 in
          was_made q (e ∙ ap makes (worth-one (net_of n) v w)) (stepped-takes n d t o q)
