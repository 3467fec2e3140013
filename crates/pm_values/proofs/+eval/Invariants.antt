use Rattle.std.proofs.Common.{◌≡◌, drop, map}
use Rattle.pm_values.specs.Condition.{all_of, any_of, both, either, truth}
use Rattle.pm_values.proofs.+eval.Given as goal

abbrev pub invariant-eval::eval_all-loop-member : goal.invariant-eval::eval_all-loop-member
invariant-eval::eval_all-loop-member g l = both l.so_far (all_of (map (truth (g.C.Cells.cells l.row)) (drop l.member-index l.members))) ≡ all_of (map (truth (g.C.Cells.cells l.row)) l.members)

abbrev pub invariant-eval::eval_any-loop-member : goal.invariant-eval::eval_any-loop-member
invariant-eval::eval_any-loop-member g l = either l.so_far (any_of (map (truth (g.C.Cells.cells l.row)) (drop l.member-index l.members))) ≡ any_of (map (truth (g.C.Cells.cells l.row)) l.members)
