use Rattle.pm_commands.proofs.Once.{calls-once, calls-some}
use Rattle.pm_commands.proofs.laws.calls_once.Goals as goal

pub returns : goal.returns
returns c = record { some = calls-some; one = calls-once }
