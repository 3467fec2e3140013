use Rattle.std.proofs.Common.{length}
use Rattle.pm_values.proofs.WellFormed.{members_of_all, members_of_any, part_of_not, sides_of_compare, operand_of_null}
use Rattle.pm_values.proofs.Sizes.{all_is_larger, any_is_larger, not_is_larger}
use Rattle.pm_values.proofs.+eval.Goals as goal

pub condition::Cond::eval-eval_all-requires : goal.condition::Cond::eval-eval_all-requires
condition::Cond::eval-eval_all-requires g t c = λ κs within. (
  all_is_larger c.args.self.now c.in-All.members c.as_slice.result.now t c.in-All.is c.as_slice.ensures c.decreases,
  (
    within,
    (
      c.requires.few,
      members_of_all (length (g.C.Cells.cells c.args.row.now)) c.args.self.now c.in-All.members c.as_slice.result.now c.in-All.is c.as_slice.ensures c.requires.well_formed,
    ),
  ),
)

pub condition::Cond::eval-eval_any-requires : goal.condition::Cond::eval-eval_any-requires
condition::Cond::eval-eval_any-requires g t c = λ κs within. (
  any_is_larger c.args.self.now c.in-Any.members c.as_slice-in-Any.result.now t c.in-Any.is c.as_slice-in-Any.ensures c.decreases,
  (
    within,
    (
      c.requires.few,
      members_of_any (length (g.C.Cells.cells c.args.row.now)) c.args.self.now c.in-Any.members c.as_slice-in-Any.result.now c.in-Any.is c.as_slice-in-Any.ensures c.requires.well_formed,
    ),
  ),
)

pub condition::Cond::eval-eval-requires : goal.condition::Cond::eval-eval-requires
condition::Cond::eval-eval-requires g t c = λ κs within. (
  not_is_larger c.args.self.now c.in-Not.part c.get.result.now t c.in-Not.is c.get.ensures c.decreases,
  (
    within,
    (
      c.requires.few,
      part_of_not (length (g.C.Cells.cells c.args.row.now)) c.args.self.now c.in-Not.part c.get.result.now c.in-Not.is c.get.ensures c.requires.well_formed,
    ),
  ),
)

pub condition::Cond::eval-eval_compare-requires-clause-left : goal.condition::Cond::eval-eval_compare-requires-clause-left
condition::Cond::eval-eval_compare-requires-clause-left g t c =
    (sides_of_compare (length (g.C.Cells.cells c.args.row.now)) c.args.self.now c.in-Compare.how c.in-Compare.left c.in-Compare.right c.in-Compare.is c.requires.well_formed).0

pub condition::Cond::eval-eval_compare-requires-clause-right : goal.condition::Cond::eval-eval_compare-requires-clause-right
condition::Cond::eval-eval_compare-requires-clause-right g t c =
    (sides_of_compare (length (g.C.Cells.cells c.args.row.now)) c.args.self.now c.in-Compare.how c.in-Compare.left c.in-Compare.right c.in-Compare.is c.requires.well_formed).1

pub condition::Cond::eval-value-requires-clause-well_formed : goal.condition::Cond::eval-value-requires-clause-well_formed
condition::Cond::eval-value-requires-clause-well_formed g t c =
    operand_of_null (length (g.C.Cells.cells c.args.row.now)) c.args.self.now c.in-IsNull.of c.in-IsNull.is c.requires.well_formed
