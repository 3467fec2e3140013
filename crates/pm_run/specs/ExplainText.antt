-- the text of what is known of a plan before it runs: plan lines, the bounds of each operator, and those of the whole work
use Rattle.std.specs.Prelude.{ℕ, ◌+◌, List, [], ◌∷◌, ◌++◌}
use Rattle.std.specs.List.{zip}
use Rattle.pm_plan.specs.declared.gauge.Bound.{Bound}
use Rattle.pm_plan.specs.declared.plan.Plan.{Plan}
use Rattle.pm_plan.specs.Rows.{Db}
use Rattle.pm_plan.specs.Preorder.{tree_of}
use Rattle.pm_plan.specs.PlanLines.{plan_lines}
use Rattle.pm_work.specs.Moments.{gauge_in, gauges_at}
use Rattle.pm_bounds.specs.Bounds.{bounds_of, whole_at}
use Rattle.pm_estim.specs.declared.pipes.Pipe.{Pipe}
use Rattle.pm_estim.specs.Lists.{pipes_in}
use Rattle.pm_lines.specs.Explained.{bound_line, first_line}

-- the lines of these operators, the first being number n
abbrev pub bound_lines : ℕ → List (Bound × Pipe) → List ℕ
bound_lines n [] = []
bound_lines n (p ∷ rest) = bound_line n p.0 p.1.number p.1.driver ++ bound_lines (n + 1) rest

-- the bounds are those before the first event
abbrev pub explain_text : Plan → Db → List ℕ
explain_text plan db =
    let tree = tree_of plan.nodes in
    plan_lines 1 plan.nodes
    ++ bound_lines 1 (zip (bounds_of tree 1 (gauge_in (gauges_at db tree 0))) (pipes_in tree))
    ++ first_line (whole_at db tree 0)
