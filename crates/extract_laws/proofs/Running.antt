-- A run makes the best step again and again, each on the network that the last one left, and stops for the first reason that applies. Assumes nothing.
use Prim.Native.Nat.{ℕ, zero, suc, ◌+◌, ◌<◌, ◌≤◌}
use mathlib.Core.Path.{◌≡◌, refl, sym, ap, ◌∙◌, subst}
use mathlib.Core.Logic.{◌↔◌}
use mathlib.Core.List.{List, [], ◌∷◌, ◌++◌, append-nil}
use native.Mathlib.Omega.{arith}
use native.Mathlib.Nat.{zero-add, suc-add, add-zero}
use lib.ListN.{length}
use Rattle.network.specs.Net.{Net}
use Rattle.extract_laws.specs.{Divisor.Divisor, Extract.step, Meaning.Leads.stay, Meaning.Leads.onward}
use Rattle.extract_laws.specs.Run.{Stop, done, numbers, rows, Made, Result, Move, finished, stuck, makes, move_of, ended, making, prepare, run_from}
use Rattle.extract_laws.specs.Run.{in_order, start_of, run}
use Rattle.extract_laws.specs.Meaning.{Allows, Leads, Ends}
use Rattle.extract_laws.specs.Meaning.Allows.{nothing, no_number, no_rows, next}
use Rattle.extract_laws.specs.Meaning.Ends.{is_done, is_asked, is_numbers, is_rows}
use Rattle.extract_laws.proofs.{Arranging.in-order-once, Arranging.step-arranged, Moving.worth-done, Moving.move-iff}
use Rattle.extract_laws.proofs.Preparing.{prepare-keeps}

-- ---- a run from a network that is prepared, step by step

-- no step is left: done, or else asked
pub from-none : (n : Net) → run_from 0 n ≡ record { network = n; stop = ended (move_of n); steps = [] }
unfolding run_from
from-none n = refl

-- done before the step
pub from-finished : (k : ℕ) (n : Net) → move_of n ≡ finished → run_from (suc k) n ≡ record { network = n; stop = done; steps = [] }
unfolding run_from
from-finished k n e = rw (e, run_from)

-- no number or no rows for the step
pub from-stuck : (k : ℕ) (n : Net) (r : Stop) → move_of n ≡ stuck r → run_from (suc k) n ≡ record { network = n; stop = r; steps = [] }
unfolding run_from
from-stuck k n r e = rw (e, run_from)

-- the step is made
pub from-make : (k : ℕ) (n : Net) (d : Divisor) → move_of n ≡ makes d → let r = run_from k (prepare (step n d)) in
    run_from (suc k) n ≡ record { network = r.network; stop = r.stop; steps = making n d ∷ r.steps }
unfolding run_from
from-make k n d e = rw (e, run_from)

-- ---- how it goes, and why it ends

-- what a run of k steps from n leaves
record Leaves (k : ℕ) (n : Net) (r : Result) : Type 0 where
  pub leads : Leads n r.steps r.network
  pub ends : Ends k (length r.steps) r.network r.stop

ends_more : {k j : ℕ} {n : Net} {r : Stop} → Ends k j n r → Ends (suc k) (suc j) n r
ends_more (is_done l h) = is_done (omega arith) h
ends_more (is_asked e w) = is_asked (ap suc e) w
ends_more (is_numbers l w h) = is_numbers (omega arith) w h
ends_more (is_rows l w h i) = is_rows (omega arith) w h i

ends-few : {k j : ℕ} {n : Net} {r : Stop} → Ends k j n r → j ≤ k
ends-few (is_done l h) = l
ends-few (is_asked e w) = omega arith
ends-few (is_numbers l w h) = omega arith
ends-few (is_rows l w h i) = omega arith

from-leaves : (k : ℕ) (n : Net) → Leaves k n (run_from k n)
from-leaves zero n = rw (from-none n) (go (move_of n) ((move-iff n (move_of n)).0 refl))
  where
    go : (m : Move) → Allows n m → Leaves 0 n (record { network = n; stop = ended m; steps = [] })
    go m (nothing h) = record { leads = stay; ends = is_done (omega arith) h }
    go m (no_number w l) = record { leads = stay; ends = is_asked refl w }
    go m (no_rows w l h) = record { leads = stay; ends = is_asked refl w }
    go m (next w l h) = record { leads = stay; ends = is_asked refl w }
from-leaves (suc k) n = go (move_of n) refl ((move-iff n (move_of n)).0 refl) (λ d. from-leaves k (prepare (step n d)))
  where
    go : (m : Move) → move_of n ≡ m → Allows n m → ((d : Divisor) → Leaves k (prepare (step n d)) (run_from k (prepare (step n d))))
        → Leaves (suc k) n (run_from (suc k) n)
    go m e (nothing h) t = rw (from-finished k n e) (record { leads = stay; ends = is_done (omega arith) h })
    go m e (no_number w l) t = rw (from-stuck k n numbers e) (record { leads = stay; ends = is_numbers (omega arith) w l })
    go m e (no_rows w l h) t = rw (from-stuck k n rows e) (record { leads = stay; ends = is_rows (omega arith) w l h })
    go m e (next {d = d} w l h) t = rw (from-make k n d e) (record { leads = onward d w l h (t d).leads; ends = ends_more (t d).ends })

-- two reasons do not apply at once
ends-one : (k j : ℕ) (n : Net) {r s : Stop} → Ends k j n r → Ends k j n s → r ≡ s
ends-one k j n (is_done l h) (is_done i g) = refl
ends-one k j n (is_done l h) (is_asked e w) = absurd (worth-done n w h)
ends-one k j n (is_done l h) (is_numbers i w a) = absurd (worth-done n w h)
ends-one k j n (is_done l h) (is_rows i w a b) = absurd (worth-done n w h)
ends-one k j n (is_asked e w) (is_done l h) = absurd (worth-done n w h)
ends-one k j n (is_asked e w) (is_asked i v) = refl
ends-one k j n (is_asked e w) (is_numbers l v a) = absurd (omega arith)
ends-one k j n (is_asked e w) (is_rows l v a b) = absurd (omega arith)
ends-one k j n (is_numbers l w a) (is_done i h) = absurd (worth-done n w h)
ends-one k j n (is_numbers l w a) (is_asked e v) = absurd (omega arith)
ends-one k j n (is_numbers l w a) (is_numbers i v b) = refl
ends-one k j n (is_numbers l w a) (is_rows i v b c) = absurd (omega arith)
ends-one k j n (is_rows l w a b) (is_done i h) = absurd (worth-done n w h)
ends-one k j n (is_rows l w a b) (is_asked e v) = absurd (omega arith)
ends-one k j n (is_rows l w a b) (is_numbers i v c) = absurd (omega arith)
ends-one k j n (is_rows l w a b) (is_rows i v c d) = refl

module _ (k : ℕ) (n : Net) where
  run-leaves : Leaves k (start_of n) (run k n)
  unfolding run
  run-leaves = from-leaves k (start_of n)

  -- each step of a run takes the best divisor of the network that it is made on
  pub run-leads : Leads (start_of n) (run k n).steps (run k n).network
  run-leads = run-leaves.leads

  -- the stop is the first reason that applies: done, asked, numbers, rows
  pub run-stop : (r : Stop) → ((run k n).stop ≡ r) ↔ Ends k (length (run k n).steps) (run k n).network r
  run-stop r = (
    λ e. subst (Ends k (length (run k n).steps) (run k n).network) e run-leaves.ends,
    λ h. ends-one k (length (run k n).steps) (run k n).network run-leaves.ends h,
  )

  -- no more steps than asked
  pub run-few : length (run k n).steps ≤ k
  run-few = ends-few run-leaves.ends

-- ---- runs add up

-- the run q after the run r
abbrev then : Result → Result → Result
then r q = record { network = q.network; stop = q.stop; steps = r.steps ++ q.steps }

from-add : (s t : ℕ) (n : Net) → run_from (s + suc t) n ≡ then (run_from s n) (run_from (suc t) (run_from s n).network)
from-add zero t n = rw (zero-add, from-none n)
from-add (suc s) t n =
    ap (λ k. run_from k n) (suc-add s (suc t)) ∙ go (move_of n) refl ((move-iff n (move_of n)).0 refl) (λ d. from-add s t (prepare (step n d)))
  where
    go : (m : Move) → move_of n ≡ m → Allows n m
        → ((d : Divisor) → let p = prepare (step n d) in run_from (s + suc t) p ≡ then (run_from s p) (run_from (suc t) (run_from s p).network))
        → run_from (suc (s + suc t)) n ≡ then (run_from (suc s) n) (run_from (suc t) (run_from (suc s) n).network)
    go m e (nothing h) f = rw (from-finished (s + suc t) n e, from-finished s n e, from-finished t n e)
    go m e (no_number w l) f = rw (from-stuck (s + suc t) n numbers e, from-stuck s n numbers e, from-stuck t n numbers e)
    go m e (no_rows w l h) f = rw (from-stuck (s + suc t) n rows e, from-stuck s n rows e, from-stuck t n rows e)
    go m e (next {d = d} w l h) f = rw (from-make (s + suc t) n d e, from-make s n d e, f d)

-- where the cubes are in order, they are so after steps
leads-arranged : {n m : Net} {l : List Made} → Leads n l m → in_order n ≡ n → in_order m ≡ m
leads-arranged stay e = e
leads-arranged (onward {n = n} d w l h t) e = leads-arranged t (prepare-keeps.order (step n d) (step-arranged n d w.best.chosen))

-- and what is prepared is so after steps
leads-prepared : {n m : Net} {l : List Made} → Leads n l m → prepare n ≡ n → prepare m ≡ m
leads-prepared stay e = e
leads-prepared (onward {n = n} d w l h t) e = leads-prepared t (prepare-keeps.once (step n d))

module _ (s : ℕ) (n : Net) where
  -- a run leaves a network whose cubes are in order
  pub run-arranged : in_order (run s n).network ≡ (run s n).network
  run-arranged = leads-arranged (run-leads s n) (prepare-keeps.order (in_order n) (in-order-once n))

  again : (t : ℕ) → run t (run s n).network ≡ run_from t (run s n).network
  unfolding run
  again t = ap (run_from t) (ap prepare run-arranged ∙ leads-prepared (run-leads s n) (prepare-keeps.once (in_order n)))

  later : (t : ℕ) → run (s + suc t) n ≡ then (run s n) (run (suc t) (run s n).network)
  unfolding run
  later t = from-add s t (start_of n) ∙ ap (then (run s n)) (sym (again (suc t)))

  none_more : let m = (run s n).network in run 0 m ≡ record { network = m; stop = ended (move_of m); steps = [] }
  none_more = again 0 ∙ from-none (run s n).network

  -- runs of s then t steps end in the network of a run of s + t
  pub run-network-add : (t : ℕ) → (run (s + t) n).network ≡ (run t (run s n).network).network
  run-network-add zero = ap (λ k. (run k n).network) (add-zero s) ∙ sym (ap (λ (r : Result). r.network) none_more)
  run-network-add (suc t) = ap (λ (r : Result). r.network) (later t)

  -- by the steps of the one and then of the other
  pub run-steps-add : (t : ℕ) → (run (s + t) n).steps ≡ (run s n).steps ++ (run t (run s n).network).steps
  run-steps-add zero =
      ap (λ k. (run k n).steps) (add-zero s) ∙ sym (ap (λ (r : Result). (run s n).steps ++ r.steps) none_more ∙ append-nil (run s n).steps)
  run-steps-add (suc t) = ap (λ (r : Result). r.steps) (later t)

  -- and for t above 0 with its stop reason
  pub run-stop-add : (t : ℕ) → 0 < t → (run (s + t) n).stop ≡ (run t (run s n).network).stop
  run-stop-add zero h = absurd (omega arith)
  run-stop-add (suc t) h = ap (λ (r : Result). r.stop) (later t)
