use Rattle.std.proofs.Common.{◌≡◌, take, string_bytes}
use Rattle.pm_plan.specs.PlanLines.{plan_lines}
use Rattle.pm_plan.proofs.text.plan_text.Given as goal

-- the lines so far stand in the text
abbrev pub invariant-loop-position : goal.invariant-loop-position
invariant-loop-position l = string_bytes l.out ≡ plan_lines 1 (take l.position l.plan.nodes)
