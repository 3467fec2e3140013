use Rattle.pm_commands.proofs.Certain.{certified}
use Rattle.pm_commands.proofs.laws.ready_is_certified.Goals as goal

pub returns : goal.returns
returns c = certified
