-- Every weight of a run is above 0 and a number that 31 bits hold. Assumes nothing.
use Prim.Native.Nat.{ℕ, zero, suc, ◌<◌}
use mathlib.Core.Path.{◌≡◌, refl, sym, ap, ◌∙◌, subst}
use mathlib.Core.List.{List, [], ◌∷◌, map}
use native.Mathlib.Omega.{arith}
use lib.IntN.{ℤ, pos, negsuc}
use lib.ListN.{length, get_or, take}
use lib.Seq.{get_or-take}
use lib.Dec.{le→leb, leb→le}
use mir.Syntax.{w32}
use mir.Val.{SFits, to_z, of_z}
use mir.ValLaws.{to_z-of_z}
use Rattle.network.specs.Net.{Net, literal_count}
use Rattle.extract_laws.specs.{Extract.step, Meaning.Good, Meaning.Leads, Meaning.Leads.stay, Meaning.Leads.onward}
use Rattle.extract_laws.specs.Run.{Made, in_order, run}
use Rattle.extract_laws.proofs.{Weighing.step_falls, Stepping.step-good, Arranging.in-order-literals}
use Rattle.extract_laws.proofs.{Preparing.prepare-keeps, Running.run-leads, Keeping.worth-fit, Keeping.start-good}
use Rattle.extract.specs.{Answers.made_of, Answers.made_in, Answers.no_made, declared.Steps.Steps}
use Rattle.extract.specs.declared.Made as declared
use Rattle.report.specs.Weights.{largest_weight, Sized}

-- a number of 31 bits, as a weight
sized-from : {w : ℤ} (k : ℕ) → w ≡ pos k → k < suc largest_weight → Sized w
sized-from {w} k e l = subst Sized (sym e) (record { above = record { le = le→leb 0 k (omega arith) }; small = record { le = le→leb k largest_weight (omega arith) } })

sized-to : (w : ℤ) → Sized w → (k : ℕ) × (w ≡ pos k) × (k < suc largest_weight)
sized-to (pos k) o = (k, refl, omega (arith, leb→le k largest_weight o.small.le))
sized-to (negsuc k) o = absurd o.above.le

-- the weight as its bits read back
pub sized-read : (w : ℤ) → Sized w → to_z w32 (of_z w32 w) ≡ w
sized-read w o = let q = sized-to w o in to_z-of_z w32 w (subst (λ (z : ℤ). SFits w32 z) (sym q.1) (record { sfits = omega (arith, q.2) }))

-- the step made at a place
pub made-at : (l : List declared.Made) (i : ℕ) → get_or (map made_of l) i (made_of no_made) ≡ made_of (get_or l i no_made)
made-at [] i = refl
made-at (x ∷ l) zero = refl
made-at (x ∷ l) (suc i) = made-at l i

-- the weights of a run
pub data EachSized : List Made → Type 0 where
  no_step : EachSized []
  more : {m : Made} {l : List Made} → Sized m.weight → EachSized l → EachSized (m ∷ l)

each-at : {l : List Made} (d : Made) → EachSized l → (i : ℕ) → i < length l → Sized (get_or l i d).weight
each-at d no_step i h = absurd (omega arith)
each-at d (more o f) zero h = o
each-at d (more o f) (suc i) h = each-at d f i (omega arith)

leads-sized : {n m : Net} {l : List Made} → Leads n l m → Good n → literal_count n < suc largest_weight → EachSized l
leads-sized stay g s = no_step
leads-sized (onward {n = n} d w a b t) g s =
    let f = worth-fit g w in
    let z = step_falls n g d f.whole w.above in
    more (sized-from z.0 z.1 (omega (arith, z.3)))
    (leads-sized t (prepare-keeps.good (step n d) (step-good n g d f)) (omega (arith, z.3, prepare-keeps.literals (step n d))))

pub run-sized : (k : ℕ) (n : Net) → Good n → literal_count n < suc largest_weight → EachSized (run k n).steps
run-sized k n g s = leads-sized (run-leads k n) (start-good n g) (omega (arith, prepare-keeps.literals (in_order n), in-order-literals n))

-- and so that of each step made that is listed
pub listed-sized : (k : ℕ) (n : Net) (s : Steps) → Good n → literal_count n < suc largest_weight → s.count ≡ length (run k n).steps → made_in s ≡ (run k n).steps
    → (i : ℕ) → i < s.count → Sized (get_or s.list i no_made).weight
listed-sized k n s g l q e i h =
    let w : Sized (get_or (run k n).steps i (made_of no_made)).weight = each-at (made_of no_made) (run-sized k n g l) i (omega arith) in
    rw (← get_or-take s.count s.list i no_made h)
    (subst (λ m. Sized m.weight) (ap (λ l. get_or l i (made_of no_made)) (sym e) ∙ made-at (take s.count s.list) i) w)
