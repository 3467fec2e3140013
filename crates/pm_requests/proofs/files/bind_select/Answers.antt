use Rattle.std.proofs.Common.{Ok, Err, refl}
use Rattle.pm_requests.proofs.files.bind_select.Goals as goal

pub returns-in-Ok-clause-called : goal.returns-in-Ok-clause-called
returns-in-Ok-clause-called c = (Ok c.in-Ok.query, c.in-Ok.ensures, refl)

pub returns-in-Err-Fault-clause-called : goal.returns-in-Err-Fault-clause-called
returns-in-Err-Fault-clause-called c = (Err _, rw (← c.in-Err-Fault.fault-is) at (rw c.in-Err-Fault.field-0-is at c.in-Err-Fault.ensures), refl)
