use Rattle.std.proofs.Common.{◌+◌, ◌*◌, ◌-◌}
use Rattle.pm_load.proofs.parts.+parts.Given as goal

abbrev pub decreases-join+arg2 : goal.decreases-join+arg2
decreases-join+arg2 g l = 2 * (l.middle - l.first) + 1

abbrev pub decreases-join+arg3 : goal.decreases-join+arg3
decreases-join+arg3 g l = 2 * (l.last - l.middle) + 1

abbrev pub decreases-type_parts : goal.decreases-type_parts
decreases-type_parts g l = 2 * (l.last - l.first)
