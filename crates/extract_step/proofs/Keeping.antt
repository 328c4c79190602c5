-- A step made on a network by the rules gives a network by the rules, in cube order. Assumes nothing.
use Prim.Native.Nat.{ℕ, ◌*◌, ◌<◌, ◌≤◌}
use mathlib.Core.Path.{◌≡◌, refl, subst}
use mathlib.Core.Bool.{Bool, true, false, cond, ◌&&◌}
use mathlib.Core.Option.{none}
use native.Mathlib.Omega.{arith}
use lib.Dec.{ltb}
use lib.ListN.{length-map}
use borrow.Author.Tests.{ltb-true, ltb-false}
use Rattle.sets.proofs.{Truth.both, Lists.◌∈◌}
use Rattle.network.specs.Net.{Net, nodes, variables, cube_count, literal_count}
use Rattle.network.specs.Held.{net_of, rules, most_variables, most_cubes, most_literals}
use Rattle.network.{specs.Handed.Shaped, specs.declared.Network.Network, proofs.Ruling.rules-lawful, proofs.Handing.holds-net}
use Rattle.extract_laws.specs.Divisor as divisor
use Rattle.extract_laws.specs.{Divisor.rewrite, Extract.next_free, Extract.step, Meaning.Good, Meaning.Fit}
use Rattle.extract_laws.specs.Run.{room_for, stuck, makes, numbers, rows}
use Rattle.extract_laws.proofs.{Making.step-variables, Stepping.step-good, Stepping.step-ordered}
use Rattle.extract_laws.proofs.Following.{rules-good, holds-rules}
use Rattle.extract_tidy.{specs.Tidy.arranged, proofs.Arranged.arranged-in}
use Rattle.extract_divisor.specs.{Divisor.divisor_of, declared.Divisor.Divisor}
use Rattle.extract_fit.{specs.Fitness.fitting, proofs.Fitting.fitting-iff}
use Rattle.extract_step.specs.Replace.{allowed, outcome_of, After, Stepped}
use Rattle.extract_step.specs.declared.{Outcome.TheVariants.Made, Next.Next}

-- ---- what was made

-- the divisor is fit, there was room for the step, and the network after it is held
pub record Takes (n : Net) (d : divisor.Divisor) (t : Next) : Type 0 where
  pub fit : Fit n d
  pub number : variables n < most_variables
  pub rows : cube_count (step n d) ≤ most_cubes
  pub literals : literal_count (step n d) ≤ most_literals
  pub after : After n d t

pub stepped-takes : (n : Network) (d : Divisor) (t : Next) → Stepped n (outcome_of n d) t → t.outcome ≡ Made → Takes (net_of n) (divisor_of d) t
unfolding outcome_of room_for
stepped-takes n d t s q =
    go (arranged n && fitting (variables m) e) (ltb (variables m) most_variables) (ltb most_cubes (cube_count (step m e)))
    (ltb most_literals (literal_count (step m e))) refl refl refl refl s
  where
    m : Net
    m = net_of n

    e : divisor.Divisor
    e = divisor_of d

    go : (f v c l : Bool) → (arranged n && fitting (variables m) e) ≡ f → ltb (variables m) most_variables ≡ v
        → ltb most_cubes (cube_count (step m e)) ≡ c → ltb most_literals (literal_count (step m e)) ≡ l
        → Stepped n (cond f (allowed m (cond v (cond c (stuck rows) (makes e)) (stuck numbers))) none) t → Takes m e t
    go true true false false i j k h s = record {
      fit = (fitting-iff m e).0 (both (arranged n) (fitting (variables m) e) i).1;
      number = ltb-true (variables m) most_variables j;
      rows = ltb-false most_cubes (cube_count (step m e)) k;
      literals = ltb-false most_literals (literal_count (step m e)) h;
      after = (rw h at s).1;
    }
    go true true false true i j k h s = let z : ◌≡◌ {A = ℕ} 0 1 = cc (rw h at s).0 in absurd (omega arith)
    go true true true l i j k h s = let z : ◌≡◌ {A = ℕ} 0 1 = cc s.0 in absurd (omega arith)
    go true false c l i j k h s = let z : ◌≡◌ {A = ℕ} 0 1 = cc s.0 in absurd (omega arith)
    go false v c l i j k h s = let z : ◌≡◌ {A = ℕ} 0 1 = cc s.0 in absurd (omega arith)

-- ---- from a network by the rules

module _ (n : Network) (shape : Shaped n) (r : rules n ≡ true)
    (d : divisor.Divisor) (x : Next) (t : Takes (net_of n) d x) where
  good : Good (step (net_of n) d)
  good = step-good (net_of n) (rules-good n shape r) d t.fit

  -- it means the network after the step
  pub takes-is : net_of x.network ≡ step (net_of n) d
  takes-is = holds-net x.network (step (net_of n) d) t.after.held good.in_turn

  pub takes-rules : rules x.network ≡ true
  takes-rules =
      let w = rules-lawful n shape r in
      holds-rules x.network (step (net_of n) d) t.after.held good
      (record { variables = omega (arith, step-variables (net_of n) d, t.number); cubes = t.rows; literals = t.literals }) w.inputs
      (omega (arith, w.outputs, length-map (net_of n).outputs (rewrite (2 * next_free (net_of n)) d)))

  pub takes-arranged : arranged x.network ≡ true
  takes-arranged = arranged-in x.network takes-rules (λ f m.
      step-ordered (net_of n) (rules-good n shape r) d t.fit f (subst (λ (z : Net). f ∈ nodes z) takes-is m))

-- what a step hands back, where it is made
pub made-rules : (n : Network) (d : Divisor) (t : Next) → Shaped n → rules n ≡ true
    → Stepped n (outcome_of n d) t → t.outcome ≡ Made → (rules t.network ≡ true) × (arranged t.network ≡ true)
made-rules n d t shape r s q =
    let k = stepped-takes n d t s q in
    (takes-rules n shape r (divisor_of d) t k, takes-arranged n shape r (divisor_of d) t k)
