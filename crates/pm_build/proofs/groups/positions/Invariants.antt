use Rattle.std.proofs.Common.{◌≡◌, take}
use Rattle.pm_query.specs.Build.{numbers_from}
use Rattle.pm_build.proofs.groups.positions.Given as goal

abbrev pub invariant-loop-i : goal.invariant-loop-i
invariant-loop-i l = l.made ≡ numbers_from 0 (take l.i l.outputs)
