-- Gains put in one after the other. Assumes nothing.
use Prim.Native.Nat.{ℕ, ◌+◌}
use mathlib.Core.{Path.◌≡◌, Path.refl, List.List}
use native.Mathlib.Omega.{arith}
use Rattle.extract_gains.specs.Gains.{Turns, none}
use Rattle.extract_gains.proofs.Table.{turns-none, turns_then, turns_as}

-- of the gains `whole` those without `rest` are put in
pub record Partly (t g u h : List ℕ) (rest whole : ℕ → ℕ) : Type 0 where
  pub done : ℕ → ℕ
  pub turns : Turns t g u h none done
  pub sum : (k : ℕ) → done k + rest k ≡ whole k

pub partly-first : (t g : List ℕ) (whole : ℕ → ℕ) → Partly t g t g whole whole
partly-first t g whole = record { done = none; turns = turns-none t g; sum = λ k. omega arith }

module _ {t g u h : List ℕ} {rest whole : ℕ → ℕ} (p : Partly t g u h rest whole) where
  pub partly-as : {next : ℕ → ℕ} → ((k : ℕ) → rest k ≡ next k) → Partly t g u h next whole
  partly-as e = record { done = p.done; turns = p.turns; sum = λ k. omega (arith, p.sum k, e k) }

  pub partly-then : {v i : List ℕ} {next more : ℕ → ℕ} → Turns u h v i none more → ((k : ℕ) → rest k ≡ next k + more k) → Partly t g v i next whole
  partly-then {more = more} q e = record {
    done = λ k. p.done k + more k;
    turns = turns_as (λ k. refl) (λ k. refl) (turns_then p.turns q);
    sum = λ k. omega (arith, p.sum k, e k);
  }

  pub partly-end : ((k : ℕ) → rest k ≡ 0) → Turns t g u h none whole
  partly-end e = turns_as (λ k. refl) (λ k. omega (arith, p.sum k, e k)) p.turns
