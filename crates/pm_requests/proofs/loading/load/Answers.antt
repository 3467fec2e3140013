use Rattle.std.proofs.Common.{rules}
use Rattle.pm_requests.proofs.Once.{only_from_called, complete_from_only}
use Rattle.pm_requests.proofs.loading.load.Goals as goal

pub returns-clause-called : goal.returns-clause-called
returns-clause-called g c = search rules

pub returns-clause-only : goal.returns-clause-only
returns-clause-only g c = only_from_called _ _ _ _ (returns-clause-called g c)

pub returns-clause-failed : goal.returns-clause-failed
returns-clause-failed g c = search rules

pub returns-clause-complete : goal.returns-clause-complete
returns-clause-complete g c =
    complete_from_only _ _ _ _ _ (returns-clause-only g c) (returns-clause-failed g c)
