use Rattle.std.proofs.Common.{◌≡◌, ◌++◌, [], map, take}
use Rattle.pm_plan.specs.Grouping.{aggregate_of}
use Rattle.pm_blocks.proofs.group.push_empty.Given as goal

-- the aggregates so far have been put
abbrev pub invariant-loop-item : goal.invariant-loop-item
invariant-loop-item l = l.accumulators.items ≡ l.fn.accumulators.items ++ map (aggregate_of []) (take l.item-index l.items)
