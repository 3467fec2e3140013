use Rattle.pm_bounds.proofs.Ends.{ends, work_at_end}
use Rattle.pm_bounds.proofs.Wholes.{whole_exact}
use Rattle.pm_bounds.proofs.laws.bounds_end_exact.Goals as goal

pub returns : goal.returns
returns c = record {
  each = ends;
  whole = λ db tree G sound g. whole_exact db tree G (ends db tree G sound g);
  work = work_at_end;
}
