use Rattle.pm_bounds.proofs.Wholes.{scanned_within}
use Rattle.pm_bounds.proofs.laws.scanned_within_lower.Goals as goal

pub returns : goal.returns
returns c = λ db tree K G g. scanned_within db K G tree g
