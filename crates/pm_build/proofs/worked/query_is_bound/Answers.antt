use Rattle.pm_build.proofs.Bound.{two_bound}
use Rattle.pm_build.proofs.worked.query_is_bound.Goals as goal

pub returns : goal.returns
returns c = two_bound
