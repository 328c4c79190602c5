-- Weights that can be written: numbers of 31 bits.
use Rattle.std.specs.Prelude.{ℕ, ◌<◌, ◌≤◌, ℤ, pos, ◌≤ℤ◌, get_or}
use Rattle.extract.specs.Answers.{places, no_made}
use Rattle.extract.specs.declared.Steps.{Steps}

-- the largest weight that 31 bits hold
abbrev pub largest_weight : ℕ
largest_weight = 2147483647

-- a weight that is a number of 31 bits
pub record Sized (weight : ℤ) : Type 0 where
  pub above : pos 0 ≤ℤ weight
  pub small : weight ≤ℤ pos largest_weight

-- the steps can be written
pub record Steady (s : Steps) : Type 0 where
  pub few : s.count ≤ places
  pub each : (i : ℕ) → i < s.count → Sized (get_or s.list i no_made).weight
