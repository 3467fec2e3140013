use Rattle.pm_commands.proofs.Alike.{workers-same}
use Rattle.pm_commands.proofs.laws.workers_change_nothing.Goals as goal

pub returns : goal.returns
returns c = workers-same
