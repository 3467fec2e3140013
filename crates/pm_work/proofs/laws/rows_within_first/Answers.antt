use Rattle.pm_work.proofs.Flags.{flags}
use Rattle.pm_work.proofs.FirstBounds.{all_within_first}
use Rattle.pm_work.proofs.laws.rows_within_first.Goals as goal

pub returns : goal.returns
returns c = λ db tree sound. all_within_first db tree (flags db tree sound)
