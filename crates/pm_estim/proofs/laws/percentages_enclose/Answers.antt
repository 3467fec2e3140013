use Rattle.pm_estim.proofs.Estimates.{percent_encloses}
use Rattle.pm_estim.proofs.laws.percentages_enclose.Goals as goal

pub returns : goal.returns
returns c = percent_encloses
