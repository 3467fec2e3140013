use Rattle.pm_work.proofs.Flags.{merges_ascend}
use Rattle.pm_work.proofs.laws.merges_ascend.Goals as goal

pub returns : goal.returns
returns c = λ db tree sound. merges_ascend db sound.tables tree sound.operators
