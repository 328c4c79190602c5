-- Nothing is done to a network before a step, which keeps all that must be kept. Assumes nothing.
use mathlib.Core.Path.{◌≡◌, refl}
use native.Mathlib.Omega.{arith}
use Rattle.network.specs.Net.{Net}
use Rattle.extract_laws.specs.{Run.prepare, Meaning.Prepares}

pub prepare-same : (n : Net) → prepare n ≡ n
unfolding prepare
prepare-same n = refl

pub prepare-keeps : Prepares prepare
unfolding prepare
prepare-keeps = record {
  inputs = λ n. refl;
  outputs = λ n. refl;
  variables = λ n. refl;
  cubes = λ n. omega arith;
  literals = λ n. omega arith;
  good = λ n g. g;
  order = λ n h. h;
  evaluate = λ n g s. refl;
  once = λ n. refl;
}
