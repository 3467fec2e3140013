use Rattle.pm_flows.proofs.Comings.{event-coming}
use Rattle.pm_exec.proofs.Gauging.{gauges_noted}
use Rattle.pm_exec.proofs.laws.notes_change_gauges.Goals as goal

pub returns : goal.returns
returns c = record { events = λ db tree. event-coming db tree 1; gauges = gauges_noted }
