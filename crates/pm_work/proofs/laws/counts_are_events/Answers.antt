use Rattle.pm_work.proofs.Counting.{counts-moment}
use Rattle.pm_work.proofs.laws.counts_are_events.Goals as goal

pub returns : goal.returns
returns c = counts-moment
