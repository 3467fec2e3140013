use Rattle.pm_binder.proofs.RowLaw.{rows_are_answers}
use Rattle.pm_binder.proofs.laws.rows_are_answers.Goals as goal

pub returns : goal.returns
returns c = rows_are_answers
