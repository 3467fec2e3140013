use Rattle.std.proofs.Common.{◌≡◌, take}
use Rattle.pm_values.proofs.condition.+copy.Given as goal

abbrev pub invariant-copy_members-loop-member : goal.invariant-copy_members-loop-member
invariant-copy_members-loop-member l = l.copy ≡ take l.member-index l.members
