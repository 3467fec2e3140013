use Rattle.pm_bounds.proofs.Moments.{moment_narrow}
use Rattle.pm_bounds.proofs.laws.moments_narrow.Goals as goal

pub returns : goal.returns
returns c = λ db tree t u sound before within. moment_narrow db tree sound t u before within
