use Rattle.pm_estim.proofs.Certain.{certified}
use Rattle.pm_estim.proofs.laws.moments_are_certified.Goals as goal

pub returns : goal.returns
returns c = certified
