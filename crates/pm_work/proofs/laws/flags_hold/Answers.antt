use Rattle.pm_work.proofs.Flags.{flags, total_join, total_seek}
use Rattle.pm_work.proofs.laws.flags_hold.Goals as goal

pub returns : goal.returns
returns c = record { flags = flags; joined = total_join; sought = total_seek }
