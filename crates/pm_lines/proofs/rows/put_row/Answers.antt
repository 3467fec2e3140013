use Rattle.pm_io.proofs.Parts.{on_err, part_nothing}
use Rattle.pm_lines.proofs.rows.put_row.Goals as goal

pub returns-in_err-line-clause-part : goal.returns-in_err-line-clause-part
returns-in_err-line-clause-part g c = on_err _ (part_nothing _ _)
