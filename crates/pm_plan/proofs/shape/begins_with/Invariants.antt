use Rattle.std.proofs.Common.{◌≡◌, take}
use Rattle.pm_plan.specs.Standing.{side_columns}
use Rattle.pm_plan.proofs.shape.begins_with.Given as goal

abbrev pub invariant-loop-i : goal.invariant-loop-i
invariant-loop-i l = take l.i (side_columns l.side l.pairs) ≡ take l.i l.order
