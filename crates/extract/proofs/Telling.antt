-- What a run answers leaves one answer, and says of the networks before and after it what the paper asks. Assumes nothing.
use Prim.Native.Nat.{ℕ, zero, suc, ◌+◌, ◌<◌, ◌≤◌}
use mathlib.Core.Path.{◌≡◌, refl, sym, ap, ap₂, ◌∙◌, subst}
use mathlib.Core.{Logic.◌↔◌, Bool.true}
use mathlib.Core.List.{List, [], ◌∷◌, map, nil≢cons, cons≢nil, head-eq_of_cons-eq, tail-eq_of_cons-eq}
use mathlib.Core.Option.{Option, none, some}
use native.Mathlib.Omega.{arith}
use lib.IntN.{pos, ◌-ℤ◌}
use lib.ListN.{length, take, drop}
use Rattle.sets.{specs.Lists.all, proofs.Truth.both, proofs.Lists.◌∈◌}
use Rattle.cube.{proofs.Lits.fit_cube, proofs.Lits.cube-one, specs.Cube.lits}
use Rattle.network.specs.{Net.Net, Net.literal_count, Held.net_of, Held.rules, Handed.Holds, Handed.Shaped}
use Rattle.network.specs.{Answers.counted, Answers.evaluated, declared.Network.Network, declared.Number.TheVariants.Is}
use Rattle.network.proofs.Handing.{holds-net, holds-one, blank-one}
use Rattle.extract_laws.specs.Run as runs
use Rattle.extract_laws.specs.Run.{Result, done, asked, numbers, rows, start_of, run}
use Rattle.extract_laws.specs.Meaning.{Leads, StepOf, Ends, fall}
use Rattle.extract_laws.proofs.Running.{run-leads, run-stop, run-few, run-network-add, run-stop-add}
use Rattle.extract_laws.proofs.Keeping.{leads-counts, start-good, run-good, run-literals}
use Rattle.extract_laws.proofs.Following.{rules-good, run-rules, run-evaluated}
use Rattle.extract_divisor.specs.{Divisor.divisor_of, declared.Divisor.Divisor, declared.Divisor.TheVariants.Pair, declared.Divisor.TheVariants.Sum}
use Rattle.extract.specs.Answers.{stop_of, made_of, steps_of, Lists, run_on, Told}
use Rattle.extract.specs.Typed.{fit_divisor, fit_step, FitRan}
use Rattle.extract.specs.declared.{Stop.Stop, Answer.TheVariants.Stopped, Made.Made}
use Rattle.extract.specs.declared.Stop.TheVariants.{Done, Asked, Numbers, Rows}
use Rattle.extract.specs.declared.{Steps.Steps, Ran.Ran}

-- ---- one answer

divisor-one : (d e : Divisor) → fit_divisor d ≡ true → fit_divisor e ≡ true → divisor_of d ≡ divisor_of e → d ≡ e
divisor-one (Pair p q) (Pair r s) h k e =
    let a : p.0 ≡ r.0 = cc in let b : q.0 ≡ s.0 = cc in λ i. Pair (record { 0 = a i }) (record { 0 = b i })
divisor-one (Pair p q) (Sum a b) h k e = let z : ◌≡◌ {A = ℕ} 0 1 = cc in absurd (omega arith)
divisor-one (Sum a b) (Pair p q) h k e = let z : ◌≡◌ {A = ℕ} 0 1 = cc in absurd (omega arith)
divisor-one (Sum a b) (Sum c d) h k e =
    let x : lits a ≡ lits c = cc in
    let y : lits b ≡ lits d = cc in
    let p = both (fit_cube a) (fit_cube b) h in
    let q = both (fit_cube c) (fit_cube d) k in
    ap₂ Sum (cube-one a c p.0 q.0 x) (cube-one b d p.1 q.1 y)

step-one : (s t : Made) → fit_step s ≡ true → fit_step t ≡ true → made_of s ≡ made_of t → s ≡ t
step-one s t h k e = λ i. record {
  divisor = divisor-one s.divisor t.divisor h k (ap (λ (m : runs.Made). m.divisor) e) i;
  weight = (e i).weight;
  uses = (e i).uses;
  number = record { 0 = (e i).number };
  literals = (e i).literals;
}

-- as many steps in front, and the same after them
list-one : (k : ℕ) (l m : List Made) → all fit_step l ≡ true → all fit_step m ≡ true → map made_of (take k l) ≡ map made_of (take k m)
    → drop k l ≡ drop k m → l ≡ m
list-one zero l m h g e r = r
list-one (suc k) [] [] h g e r = refl
list-one (suc k) [] (y ∷ m) h g e r = absurd (nil≢cons e)
list-one (suc k) (x ∷ l) [] h g e r = absurd (cons≢nil e)
list-one (suc k) (x ∷ l) (y ∷ m) h g e r =
    let p = both (fit_step x) (all fit_step l) h in
    let q = both (fit_step y) (all fit_step m) g in
    ap₂ ◌∷◌ (step-one x y p.0 q.0 (head-eq_of_cons-eq e)) (list-one k l m p.1 q.1 (tail-eq_of_cons-eq e) r)

-- the value that means a stop reason
back : runs.Stop → Stop
back done = Done
back asked = Asked
back numbers = Numbers
back rows = Rows

back-stop : (x : Stop) → back (stop_of x) ≡ x
unfolding back
back-stop Done = refl
back-stop Asked = refl
back-stop Numbers = refl
back-stop Rows = refl

stop-one : (x y : Stop) → stop_of x ≡ stop_of y → x ≡ y
stop-one x y e = sym (back-stop x) ∙ ap back e ∙ back-stop y

lists-one : (s t : Steps) (l : List runs.Made) → all fit_step s.list ≡ true → all fit_step t.list ≡ true → Lists s l → Lists t l → s ≡ t
lists-one s t l h k p q =
    let e : t.count ≡ s.count = q.number ∙ sym p.number in λ i. record {
      count = sym e i;
      list = list-one s.count s.list t.list h k (p.steps ∙ sym (rw e at q.steps)) (p.rest ∙ sym (rw e at q.rest)) i;
    }

-- two answers to one run are the same
pub told-one : (k : ℕ) (n : Network) (r s : Ran) → FitRan r → FitRan s → Told (run_on k n) r → Told (run_on k n) s → r ≡ s
told-one k n r s a b = go (run_on k n)
  where
    join : r.answer ≡ s.answer → r.network ≡ s.network → r.steps ≡ s.steps → r ≡ s
    join x y z = λ i. record { answer = x i; network = y i; steps = z i }

    go : (o : Option Result) → Told o r → Told o s → r ≡ s
    go (some t) ((x, p, u), h, l) ((y, q, v), g, m) =
        let e : x ≡ y = stop-one x y (u ∙ sym v) in
        join (p ∙ ap Stopped e ∙ sym q)
        (holds-one r.network s.network t.network a.network b.network h g)
        (lists-one r.steps s.steps t.steps a.steps b.steps l m)
    go none (p, h, l) (q, g, m) = join (p ∙ sym q) (blank-one r.network s.network h g) (lists-one r.steps s.steps [] a.steps b.steps l m)

-- ---- in the paper's words

pub ran-told : (k : ℕ) (n : Network) (r : Ran) → rules n ≡ true → Told (run_on k n) r → Told (some (run k (net_of n))) r
unfolding run_on
ran-told k n r h t = rw h at t

module _ (k : ℕ) (n : Network) (r : Ran) (shape : Shaped n)
    (h : rules n ≡ true) (t : Told (run_on k n) r) where
  answered : Told (some (run k (net_of n))) r
  answered = ran-told k n r h t

  ran-steps : steps_of r ≡ (run k (net_of n)).steps
  ran-steps = answered.2.steps

  pub ran-network : net_of r.network ≡ (run k (net_of n)).network
  ran-network = holds-net r.network (run k (net_of n)).network answered.1 (run-good k (net_of n) (rules-good n shape h)).in_turn

  -- the resulting network follows the rules and keeps the limits
  pub ran-rules : rules r.network ≡ true
  ran-rules = run-rules n r.network shape k h answered.1

  -- outputs after a run are those before, for every setting
  pub ran-outputs : (s : ℕ) → evaluated r.network s ≡ evaluated n s
  ran-outputs = run-evaluated n r.network shape k h answered.1

  -- each step listed takes the best divisor of the network that it is made on
  pub ran-leads : Leads (start_of (net_of n)) (steps_of r) (net_of r.network)
  ran-leads =
      subst (λ (l : List runs.Made). Leads (start_of (net_of n)) l (net_of r.network)) (sym ran-steps)
      (subst (Leads (start_of (net_of n)) (run k (net_of n)).steps) (sym ran-network) (run-leads k (net_of n)))

  -- the literal count, counted over the resulting network, is that of the start less the weights of the steps
  pub ran-literals : (counted n ≡ Is (literal_count (net_of n))) × (counted r.network ≡ Is (literal_count (net_of r.network)))
      × (pos (literal_count (net_of r.network)) ≡ pos (literal_count (net_of n)) -ℤ fall (steps_of r))
  unfolding counted
  ran-literals = (
    rw h,
    rw ran-rules,
    ap (λ z. pos (literal_count z)) ran-network ∙ run-literals k (net_of n) (rules-good n shape h)
        ∙ ap (λ l. pos (literal_count (net_of n)) -ℤ fall l) (sym ran-steps),
  )

  -- each step listed carries the number of its node, and the literals of the network after it: those before it less the weight
  pub ran-counts : (s : runs.Made) → s ∈ steps_of r → StepOf (start_of (net_of n)) (steps_of r) s
  ran-counts = leads-counts ran-leads (start-good (net_of n) (rules-good n shape h))

  -- a run of k steps makes at most k
  pub ran-few : length (steps_of r) ≤ k
  ran-few = subst (λ (l : List runs.Made). length l ≤ k) (sym ran-steps) (run-few k (net_of n))

  -- it stops for the first reason that applies
  pub ran-stop : (x : Stop) → (r.answer ≡ Stopped x) ↔ Ends k (length (steps_of r)) (net_of r.network) (stop_of x)
  ran-stop x = go answered.0
    where
      ends : Ends k (length (run k (net_of n)).steps) (run k (net_of n)).network (stop_of x) ≡ Ends k (length (steps_of r)) (net_of r.network) (stop_of x)
      ends = ap₂ (λ (l : List runs.Made) (m : Net). Ends k (length l) m (stop_of x)) (sym ran-steps) (sym ran-network)

      go : ((s : Stop) × (r.answer ≡ Stopped s) × (stop_of s ≡ (run k (net_of n)).stop))
          → (r.answer ≡ Stopped x) ↔ Ends k (length (steps_of r)) (net_of r.network) (stop_of x)
      go (s, e, f) = (
        λ a. let p : s ≡ x = cc in subst (λ z. z) ends ((run-stop k (net_of n) (stop_of x)).0 (sym f ∙ ap stop_of p)),
        λ z. e ∙ ap Stopped (stop-one s x (f ∙ (run-stop k (net_of n) (stop_of x)).1 (subst (λ z. z) (sym ends) z))),
      )

-- runs of s then t steps on one network end in the network of a run of s + t, and for t above 0 with its stop reason
module _ (s t : ℕ) (n : Network) (r q p : Ran) (shape : Shaped n) (h : rules n ≡ true)
    (a : Told (run_on s n) r) (b : Told (run_on t r.network) q) (c : Told (run_on (s + t) n) p) where
  first-is : net_of r.network ≡ (run s (net_of n)).network
  first-is = ran-network s n r shape h a

  then-told : Told (some (run t (run s (net_of n)).network)) q
  then-told =
      subst (λ (m : Net). Told (some (run t m)) q) first-is (ran-told t r.network q (ran-rules s n r shape h a) b)

  whole-told : Told (some (run (s + t) (net_of n))) p
  whole-told = ran-told (s + t) n p h c

  pub ran-network-add : FitRan q → FitRan p → p.network ≡ q.network
  ran-network-add f g =
      holds-one p.network q.network (run (s + t) (net_of n)).network g.network f.network
      whole-told.1 (subst (Holds q.network) (sym (run-network-add s (net_of n) t)) then-told.1)

  pub ran-stop-add : 0 < t → p.answer ≡ q.answer
  ran-stop-add l = go whole-told.0 then-told.0
    where
      go : ((x : Stop) × (p.answer ≡ Stopped x) × (stop_of x ≡ (run (s + t) (net_of n)).stop))
          → ((y : Stop) × (q.answer ≡ Stopped y) × (stop_of y ≡ (run t (run s (net_of n)).network).stop)) → p.answer ≡ q.answer
      go (x, e, u) (y, f, v) = e ∙ ap Stopped (stop-one x y (u ∙ run-stop-add s (net_of n) t l ∙ sym v)) ∙ sym f
