use Rattle.pm_commands.proofs.Alike.{joins-alike}
use Rattle.pm_commands.proofs.laws.joins_change_no_row.Goals as goal

pub returns : goal.returns
returns c = joins-alike
