use Rattle.pm_estim.proofs.Estimates.{safe_near}
use Rattle.pm_estim.proofs.laws.safe_is_near.Goals as goal

pub returns : goal.returns
returns c = safe_near
