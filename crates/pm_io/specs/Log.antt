use Rattle.std.specs.Prelude.{ℕ, ◌+◌, Bool, true, false, List, Some, None, Result, Ok, Err}
use Rattle.pm_io.specs.declared.fault.IoFault.{IoFault}
use Rattle.pm_io.specs.declared.stand.Stand.TheVariants.{Fresh, Open, Absent, Broken}
use Rattle.pm_io.specs.declared.log.ReadLog.{ReadLog}
use Rattle.pm_io.specs.Counts.{counted}

-- before any call
abbrev pub fresh : ReadLog
fresh = record { last = None; stand = Fresh; taken = 0; faults = 0; absences = 0 }

-- after a begin of this name with this answer
abbrev pub after_begin : ReadLog → List ℕ → Result Bool IoFault → ReadLog
after_begin log name (Ok true) = record log { last = Some name; stand = Open; taken = 0 }
after_begin log name (Ok false) =
    record log { last = Some name; stand = Absent; taken = 0; absences = counted log.absences }
after_begin log name (Err fault) =
    record log { last = Some name; stand = Broken; taken = 0; faults = counted log.faults }

-- after a read with this answer
abbrev pub after_read : ReadLog → Result ℕ IoFault → ReadLog
after_read log (Ok n) = record log { taken = log.taken + n }
after_read log (Err fault) = record log { stand = Broken; faults = counted log.faults }
