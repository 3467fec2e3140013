use Rattle.pm_requests.proofs.Answered.{requests_are_answered}
use Rattle.pm_requests.proofs.laws.requests_are_answered.Goals as goal

pub returns : goal.returns
returns c = requests_are_answered
