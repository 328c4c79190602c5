-- How a run goes: the steps listed so far, and then a run of the steps left from the network that they led to. Assumes nothing.
use Prim.Native.Nat.{ℕ, zero, suc, ◌+◌, ◌-◌, ◌<◌, ◌≤◌}
use mathlib.Core.Path.{◌≡◌, refl, sym, ap, ap₂, ◌∙◌, subst}
use mathlib.Core.{Bool.true, Bool.false, Option.some}
use mathlib.Core.List.{List, [], ◌∷◌, ◌++◌, map, map-append, append_assoc, append-nil}
use native.Mathlib.Numerals.{add-one}
use native.Mathlib.Omega.{arith}
use lib.IntN.{ℤ, pos, negsuc, ◌-ℤ◌}
use lib.ListN.{length, take, drop, set, replicate, length-set, length-map, length-replicate}
use lib.Seq.{length-take-le, take-suc-set, drop-set-lt, drop-drop}
use lib.Signed.{le_z, lt_z}
use borrow.Author.Tests.{leb-true, leb-false, le-ltb, lt-ltb}
use Rattle.sets.proofs.Truth.{clash}
use Rattle.network.specs.{Net.Net, Net.literal_count, Held.net_of, Held.most_variables, Handed.Holds, Handed.Shaped}
use Rattle.network.{specs.declared.Network.Network, proofs.Holding.rules-divisors, proofs.Holding.rules-iff}
use Rattle.extract_laws.specs.Divisor as divisors
use Rattle.extract_laws.{specs.Extract.step, proofs.Moving.worth-done, proofs.Moving.move-iff, proofs.Making.step-variables}
use Rattle.extract_laws.specs.Run as runs
use Rattle.extract_laws.specs.Run.{weighing, making, Result, Move, finished, makes, done, asked, move_of, ended, prepare, run_from}
use Rattle.extract_laws.specs.Meaning.{Good, Worth, Allows}
use Rattle.extract_laws.specs.Meaning.Allows.{nothing, no_number, no_rows, next}
use Rattle.extract_laws.proofs.Running.{from-none, from-finished, from-stuck, from-make}
use Rattle.extract_laws.proofs.{Weighing.step-literals, Weighing.step-smaller, Keeping.worth-fit}
use Rattle.extract_laws.proofs.{Preparing.prepare-same, Following.rules-good, Following.rules-within}
use Rattle.extract_divisor.specs.{Divisor.divisor_of, Divisor.weighed_of, declared.Step.Step}
use Rattle.extract_choice.specs.Choice.{chosen_in, Chosen}
use Rattle.extract_step.specs.Replace.{outcome_of, After, Stepped}
use Rattle.extract_step.specs.declared.Outcome.TheVariants as Outcome
use Rattle.extract_step.specs.declared.Next.{Next}
use Rattle.extract_step.proofs.Keeping.{Takes, takes-is, takes-rules, takes-arranged}
use Rattle.extract.specs.Answers.{stop_of, made_of, made_in, no_made, no_steps, places, Told}
use Rattle.extract.specs.Parts.{Runnable, Leaves, made_by, ended_at, reason_of, stopped_with}
use Rattle.extract.specs.declared.{Made.Made, Steps.Steps, Stop.Stop, Stop.TheVariants.Done, Stop.TheVariants.Asked}
use Rattle.extract.proofs.Taking.{Choice, chosen-as, Taken, stepped-as}
use Rattle.extract.proofs.Taking.{Choice.nothing_left, Choice.one_taken, Taken.was_made, Taken.was_not}

-- steps, and then a run
abbrev after : List runs.Made → Result → Result
after l r = record { network = r.network; stop = r.stop; steps = l ++ r.steps }

-- of a run of k steps from m so many steps are listed, it goes on from the network, of so many literals, for the steps left, and s is the
-- best step there
pub record Going (k : ℕ) (m : Net) (made : Steps) (left : ℕ) (net : Network) (literals : ℕ) (s : Step) : Type 0 where
  pub ready : Runnable net
  pub shape : Shaped net
  pub few : made.count ≤ net.divisors
  pub long : length made.list ≡ places
  pub rest : drop made.count made.list ≡ replicate (places - made.count) no_made
  pub counted : literals ≡ literal_count (net_of net)
  pub chosen : Chosen (chosen_in net) s
  pub goes : run_from k m ≡ after (made_in made) (run_from left (net_of net))

pub going-first : (k : ℕ) (n : Network) (literals : ℕ) (s : Step) → Shaped n → Runnable n
    → literals ≡ literal_count (net_of n) → Chosen (chosen_in n) s → Going k (net_of n) no_steps k n literals s
going-first k n literals s a r q c = record {
  ready = r;
  shape = a;
  few = omega arith;
  long = length-replicate places no_made;
  rest = refl;
  counted = q;
  chosen = c;
  goes = refl;
}

-- a network that a run comes to
module _ (n : Network) (shape : Shaped n) (r : Runnable n) where
  -- the numbers are not used up by the steps, each of which made a divisor
  ready-few : n.divisors < most_variables
  ready-few = let w = ((rules-iff n shape).0 r.lawful).lawful in omega (arith, w.inputs, w.within.variables, rules-divisors n shape r.lawful)

  -- and the one that a step leads to
  module _ (d : divisors.Divisor) (p : Next) (t : Takes (net_of n) d p) where
    next-is : net_of p.network ≡ step (net_of n) d
    next-is = takes-is n shape r.lawful d p t

    next-ready : Runnable p.network
    next-ready = record {
      lawful = takes-rules n shape r.lawful d p t;
      tidy = takes-arranged n shape r.lawful d p t;
      held = subst (Holds p.network) (sym next-is) t.after.held;
    }

    -- one divisor more
    next-divisors : p.network.divisors ≡ suc n.divisors
    next-divisors = let h = t.after.held in omega (arith, h.divisors, h.inputs, step-variables (net_of n) d, rules-divisors n shape r.lawful)

-- ---- why it ends

-- a weight is above 0, or it is not
pub le_not : (w : ℤ) → le_z w (pos 0) ≡ true → lt_z (pos 0) w ≡ false
le_not (pos w) h = le-ltb 0 w (leb-true w 0 h)
le_not (negsuc w) h = refl

pub not-le : (w : ℤ) → le_z w (pos 0) ≡ false → lt_z (pos 0) w ≡ true
not-le (pos w) h = lt-ltb 0 w (leb-false w 0 h)
not-le (negsuc w) h = clash refl h

-- nothing is left: done, also where no step is left to make
run-finished : (left : ℕ) (n : Net) → move_of n ≡ finished → run_from left n ≡ record { network = n; stop = done; steps = [] }
run-finished zero n e = from-none n ∙ rw e
run-finished (suc left) n e = from-finished left n e

-- a divisor is left, and no step to make
run-asked : (n : Net) (d : divisors.Divisor) → Worth n d → run_from 0 n ≡ record { network = n; stop = asked; steps = [] }
run-asked n d w = from-none n ∙ go (move_of n) ((move-iff n (move_of n)).0 refl)
  where
    go : (m : Move) → Allows n m
        → ◌≡◌ {A = Result} (record { network = n; stop = ended m; steps = [] }) (record { network = n; stop = asked; steps = [] })
    go m (nothing h) = absurd (worth-done n w h)
    go m (no_number v l) = refl
    go m (no_rows v l h) = refl
    go m (next v l h) = refl

module _ {k : ℕ} {m : Net} {made : Steps} {left : ℕ} {net : Network} {literals : ℕ} {s : Step}
    (g : Going k m made left net literals s) where
  pub going-room : made.count < most_variables
  going-room = omega (arith, g.few, ready-few net g.shape g.ready)

  made-length : length (made_in made) ≡ made.count
  made-length = length-map (take made.count made.list) made_of ∙ length-take-le made.count made.list (omega (arith, going-room, g.long))

  -- one more step is listed
  module _ (x : Made) where
    abbrev longer : Steps
    longer = record { count = made.count + 1; list = set made.list made.count x }

    made-next : made_in longer ≡ made_in made ++ (made_of x ∷ [])
    made-next =
        ap (map made_of) (ap (λ (c : ℕ). take c longer.list) (add-one made.count) ∙ take-suc-set made.list made.count x (omega (arith, going-room, g.long)))
        ∙ map-append made_of (take made.count made.list) (x ∷ [])

    made-rest : drop longer.count longer.list ≡ replicate (places - longer.count) no_made
    made-rest =
        let e : places - made.count ≡ suc (places - (made.count + 1)) = omega (arith, going-room) in
        drop-set-lt (made.count + 1) made.list made.count x (omega arith) ∙ sym (drop-drop 1 made.count made.list)
        ∙ ap (drop 1) (g.rest ∙ ap (λ (c : ℕ). replicate c no_made) e)

  going-stop : (x : Stop) → run_from left (net_of net) ≡ record { network = net_of net; stop = stop_of x; steps = [] }
      → Told (some (run_from k m)) (stopped_with x net made)
  going-stop x e =
      subst (λ (z : Result). Told (some z) (stopped_with x net made))
      (sym (g.goes ∙ ap (after (made_in made)) e
      ∙ ap (λ (l : List runs.Made). record { network = net_of net; stop = stop_of x; steps = l }) (append-nil (made_in made))))
      ((x, refl, refl), g.ready.held, record { number = sym made-length; steps = refl; rest = g.rest })

  chosen-here : Choice (net_of net) s
  chosen-here = chosen-as net s g.ready.tidy g.chosen

  -- no weight above 0
  pub going_done : lt_z (pos 0) s.weight ≡ false → Told (some (run_from k m)) (stopped_with Done net made)
  going_done h = elim chosen-here [ nothing_left p e ↦ going-stop Done (run-finished left (net_of net) e) | one_taken p w q ↦ clash p h ]

  -- no step is left to make
  pub going-ended : left ≡ 0 → Told (some (run_from k m)) (stopped_with (ended_at s.weight) net made)
  going-ended z = elim chosen-here [
    | nothing_left p e ↦ rw p (going-stop Done (run-finished left (net_of net) e))
    | one_taken p w q ↦ rw p (going-stop Asked (ap (λ (x : ℕ). run_from x (net_of net)) z ∙ run-asked (net_of net) (divisor_of s.divisor) w))
  ]

  module _ (h : lt_z (pos 0) s.weight ≡ true) where
    worth : Worth (net_of net) (divisor_of s.divisor) × (weighed_of s ≡ weighing (net_of net) (divisor_of s.divisor))
    worth = elim chosen-here [ nothing_left p e ↦ clash h p | one_taken p w q ↦ (w, q) ]

    abbrev d : divisors.Divisor
    d = divisor_of s.divisor

    good : Good (net_of net)
    good = rules-good net g.shape g.ready.lawful

    -- a step takes the weight off the literals
    falls : pos (literal_count (step (net_of net) d)) ≡ pos literals -ℤ s.weight
    falls =
        step-literals (net_of net) good d (worth-fit good worth.0).whole
        ∙ ap₂ (λ (l : ℕ) (w : ℤ). pos l -ℤ w) (sym g.counted) (ap (λ (w : runs.Weighed). w.weight) (sym worth.1))

    pub going-leaves : Leaves literals s.weight
    going-leaves =
        let w = (rules-within net g.shape g.ready.lawful).literals in
        let l = step-smaller (net_of net) good d (worth-fit good worth.0).whole worth.0.above in
        record { left = literal_count (step (net_of net) d); is = falls; within = omega (arith, g.counted); less = omega arith }

    module _ (still : ℕ) (l : left ≡ suc still) (t : Next) (o : Stepped net (outcome_of net s.divisor) t) where
      step-taken : Taken (net_of net) d t
      step-taken =
          stepped-as net s.divisor t g.ready.tidy (rules-within net g.shape g.ready.lawful).literals good worth.0 o

      -- no number or no rows for the step
      pub going-full : (t.outcome ≡ Outcome.Made → ⊥) → Told (some (run_from k m)) (stopped_with (reason_of t.outcome) net made)
      going-full f = elim step-taken [
        | was_made q e i ↦ absurd (f q)
        | was_not q e ↦ going-stop (reason_of t.outcome)
            (ap (λ (z : ℕ). run_from z (net_of net)) l ∙ from-stuck still (net_of net) (stop_of (reason_of t.outcome)) e)
      ]

      -- the step is made, and listed
      module _ (shape-t : Shaped t.network) (rest : ℕ) (f : pos rest ≡ pos literals -ℤ s.weight)
          (x : Made) (y : x ≡ made_by s t.number rest) (b : Step) (c : Runnable t.network → Chosen (chosen_in t.network) b)
          (q : t.outcome ≡ Outcome.Made) where
        rest-is : rest ≡ literal_count (step (net_of net) d)
        rest-is = let e = f ∙ sym falls in cc

        step-made : After (net_of net) d t → made_of x ≡ making (net_of net) d
        step-made a = ap made_of y ∙ (λ i. record {
          divisor = d;
          weight = (worth.1 i).weight;
          uses = (worth.1 i).uses;
          number = a.number i;
          literals = rest-is i;
        })

        abbrev Onward : Type 0
        Onward = Going k m (longer x) still t.network rest b

        pub going_on : Onward
        going_on = elim step-taken [ was_made p e i ↦ go e i | was_not p e ↦ absurd (p q) ]
          where
            go : move_of (net_of net) ≡ makes d → Takes (net_of net) d t → Onward
            go e i =
                let more = next-divisors net g.shape g.ready d t i in
                let is = next-is net g.shape g.ready d t i ∙ sym (prepare-same (step (net_of net) d)) in
                let later = run_from still (prepare (step (net_of net) d)) in record {
                  ready = next-ready net g.shape g.ready d t i;
                  shape = shape-t;
                  few = omega (arith, g.few);
                  long = length-set made.list made.count x ∙ g.long;
                  rest = made-rest x;
                  counted = rest-is ∙ ap literal_count (sym (next-is net g.shape g.ready d t i));
                  chosen = c (next-ready net g.shape g.ready d t i);
                  goes = g.goes ∙ ap (after (made_in made)) (ap (λ (z : ℕ). run_from z (net_of net)) l ∙ from-make still (net_of net) d e)
                      ∙ ap (λ (l : List runs.Made). record { network = later.network; stop = later.stop; steps = l })
                      (sym (append_assoc (made_in made) (making (net_of net) d ∷ []) later.steps))
                      ∙ ap₂ (λ (l : List runs.Made) (z : Net). after l (run_from still z))
                      (sym (made-next x ∙ ap (λ (z : runs.Made). made_in made ++ (z ∷ [])) (step-made i.after))) (sym is);
                }
