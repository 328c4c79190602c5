-- What a run on the network of a table leaves: the counts, steps and reason are those of the definitions. Assumes nothing.
use Prim.Native.Nat.{ℕ}
use mathlib.Core.Path.{◌≡◌, sym, ap, ◌∙◌}
use mathlib.Core.{Bool.true, Option.some}
use native.Mathlib.Omega.{arith}
use Rattle.network.specs.{Net.literal_count, Held.net_of, Held.rules, Answers.counted, declared.Network.Network}
use Rattle.network.specs.declared.{Number.Number, Number.TheVariants.Is, Number.TheVariants.No}
use Rattle.network.specs.Handed.{Shaped}
use Rattle.extract_laws.specs.Run.{Result, run, asked_steps}
use Rattle.extract_laws.proofs.{Running.run-few, Following.rules-good, Following.rules-within}
use Rattle.extract.specs.Answers as extract
use Rattle.extract.{specs.Answers.stop_of, specs.Answers.run_on, specs.declared.Stop.Stop, proofs.Telling.ran-told, proofs.Telling.ran-network}
use Rattle.extract.specs.declared.{Answer.TheVariants.Stopped, Answer.TheVariants.Refused, Ran.Ran}
use Rattle.report.specs.Report.{ran_text, run_text}
use Rattle.report.specs.Weights.{Steady}
use Rattle.report.proofs.Counting.{listed-sized}

-- ---- a run on a struct that follows the rules

counted-rules : (n : Network) → rules n ≡ true → counted n ≡ Is (literal_count (net_of n))
unfolding counted
counted-rules n h = rw h

pub counted-told : (n : Network) {k : Number} {x : ℕ} → rules n ≡ true → k ≡ counted n → k ≡ Is x → x ≡ literal_count (net_of n)
counted-told n h e p = let q = counted-rules n h in cc

pub never-uncounted : (n : Network) {k : Number} {x : ℕ} → rules n ≡ true → k ≡ counted n → k ≡ No x → ⊥
never-uncounted n h e p = let q = counted-rules n h in let z : ◌≡◌ {A = ℕ} 0 1 = cc in omega arith

module _ (n : Network) (shape : Shaped n) (h : rules n ≡ true) (r : Ran) (t : extract.Told (run_on asked_steps n) r) where
  abbrev result : Result
  result = run asked_steps (net_of n)

  told : extract.Told (some result) r
  told = ran-told asked_steps n r h t

  pub never-refused : (k : ℕ) → r.answer ≡ Refused k → ⊥
  never-refused k e = let q = told.0.1 in let z : ◌≡◌ {A = ℕ} 0 1 = cc in omega arith

  pub explored-steady : Steady r.steps
  explored-steady = record {
    few = omega (arith, told.2.number, run-few asked_steps (net_of n));
    each = listed-sized asked_steps (net_of n) r.steps (rules-good n shape h) (omega (arith, (rules-within n shape h).literals)) told.2.number told.2.steps;
  }

  -- what is found is what the definitions say
  pub explored-text : (start end : ℕ) (stop : Stop) → r.answer ≡ Stopped stop → start ≡ literal_count (net_of n) → end ≡ literal_count (net_of r.network)
      → run_text start (extract.made_in r.steps) end (stop_of stop) ≡ ran_text (net_of n) result
  unfolding ran_text
  explored-text start end stop a b e =
      let q = told.0.1 in
      let same : told.0.0 ≡ stop = cc in
      let why : stop_of stop ≡ result.stop = ap stop_of (sym same) ∙ told.0.2 in
      let left = e ∙ ap literal_count (ran-network asked_steps n r shape h t) in
      λ i. run_text (b i) (told.2.steps i) (left i) (why i)
