use Rattle.pm_commands.proofs.Alike.{progress-alike}
use Rattle.pm_commands.proofs.laws.progress_changes_no_other_line.Goals as goal

pub returns : goal.returns
returns c = progress-alike
