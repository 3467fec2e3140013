use Rattle.pm_requests.proofs.Once as once
use Rattle.pm_requests.proofs.SomeAnswer as some
use Rattle.pm_requests.proofs.laws.calls_once.Goals as goal

pub returns-clause-some : goal.returns-clause-some
returns-clause-some c = some.some_answer

pub returns-clause-one : goal.returns-clause-one
returns-clause-one c = once.calls_once
