use Rattle.pm_estim.proofs.Shown.{handed_is, hi_is}
use Rattle.pm_estim.proofs.laws.driven_sums_are_the_drivers.Goals as goal

pub returns : goal.returns
returns c = record {
  handed = λ tree pipes gauges bounds whole a. handed_is gauges tree pipes bounds whole a;
  within = λ tree pipes gauges bounds whole a. hi_is gauges tree pipes bounds whole a;
}
