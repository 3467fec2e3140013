use Rattle.pm_answers.proofs.BuiltRows.{built-rows, plan-rows, same-rows, relations-wide}
use Rattle.pm_answers.proofs.laws.rows_are_the_answer.Goals as goal

pub returns : goal.returns
returns c = record { rows = built-rows; plan = plan-rows; choices = same-rows; tables = relations-wide }
