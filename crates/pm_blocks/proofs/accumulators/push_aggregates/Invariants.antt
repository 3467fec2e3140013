use Rattle.std.proofs.Common.{◌≡◌, ◌++◌, [], map, take}
use Rattle.pm_plan.specs.Grouping.{aggregate_of}
use Rattle.pm_blocks.specs.Accumulators.{with_row}
use Rattle.pm_blocks.proofs.accumulators.push_aggregates.Given as goal

-- the aggregates so far have been put
abbrev pub invariant-loop-item : goal.invariant-loop-item
invariant-loop-item g l = l.cells.items ≡ l.fn.cells.items ++ map (λ item. with_row (g.C.Cells.cells l.row) item (aggregate_of [] item)) (take l.item-index l.items)
