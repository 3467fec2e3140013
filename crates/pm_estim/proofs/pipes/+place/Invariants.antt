use Rattle.std.proofs.Common.{◌+◌, ◌-◌, length}
use Rattle.pm_estim.proofs.pipes.+place.Given as goal

abbrev pub decreases-place : goal.decreases-place
decreases-place l = length l.nodes.now + 1 - l.n
