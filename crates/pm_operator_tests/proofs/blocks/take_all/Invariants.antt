use Rattle.std.proofs.Common.{◌≡◌, take}
use Rattle.pm_plan.specs.Grouping.{grouped}
use Rattle.pm_operator_tests.proofs.blocks.take_all.Given as goal

-- the groups are those of the rows so far
abbrev pub invariant-loop-row : goal.invariant-loop-row
invariant-loop-row l = l.core ≡ record l.fn.core { groups = grouped l.fn.core.keys l.fn.core.items (take l.row-index l.row-items) }
