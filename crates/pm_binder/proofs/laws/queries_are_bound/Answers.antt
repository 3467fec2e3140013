use Rattle.pm_binder.proofs.BoundQueries.{queries_are_bound}
use Rattle.pm_binder.proofs.laws.queries_are_bound.Goals as goal

pub returns : goal.returns
returns c = queries_are_bound
