-- What the types of the language say of an answer: its words and masks are of 64 bits.
use Rattle.std.specs.Prelude.{◌≡◌, Bool, true, ◌&&◌}
use Rattle.sets.specs.Lists.{all}
use Rattle.cube.proofs.Lits.{fit_cube}
use Rattle.network.proofs.Handing.{Typed}
use Rattle.extract_divisor.specs.declared.{Divisor.Divisor, Divisor.TheVariants.Pair, Divisor.TheVariants.Sum}
use Rattle.extract.specs.declared.{Made.Made, Ran.Ran}

abbrev pub fit_divisor : Divisor → Bool
fit_divisor (Pair p q) = true
fit_divisor (Sum a b) = fit_cube a && fit_cube b

abbrev pub fit_step : Made → Bool
fit_step s = fit_divisor s.divisor

pub record FitRan (r : Ran) : Type 0 where
  pub network : Typed r.network
  pub steps : all fit_step r.steps.list ≡ true
