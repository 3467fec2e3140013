use Rattle.std.proofs.Common.{◌≡◌, ◌++◌, take, map}
use Rattle.pm_plan.specs.Grouping.{aggregate_of}
use Rattle.pm_work.proofs.evaluation.groups.put_aggregates.Given as goal

abbrev pub invariant-loop-item : goal.invariant-loop-item
invariant-loop-item l = l.to ≡ l.fn.to ++ map (aggregate_of l.rows) (take l.item-index l.items)
