-- the exit code of a status, and the status of a command that is stopped
use Rattle.std.specs.Prelude.{ℕ, Result, Ok, Err}
use Rattle.pm_requests.specs.declared.refusal.Refusal.{Refusal}
use Rattle.pm_requests.specs.declared.refusal.Refusal.TheVariants as refusal
use Rattle.pm_commands.specs.declared.stop.Stop.{Stop}
use Rattle.pm_commands.specs.declared.stop.Stop.TheVariants as stop
use Rattle.pm_commands.specs.declared.preparing.Prepared.{Prepared}
use Rattle.pm_cli.specs.declared.status.Status.{Status}
use Rattle.pm_cli.specs.declared.status.Status.TheVariants as status

abbrev pub code_of : Status → ℕ
code_of status.Done = 0
code_of status.Usage = 1
code_of (status.Schema word at) = 2
code_of (status.Query word at) = 3
code_of (status.Binding word at) = 4
code_of (status.Table table fault) = 5
code_of (status.NoFile role) = 6
code_of (status.ReadFault role) = 7
code_of status.WriteFault = 8
code_of (status.TooWide bound) = 9
code_of status.NoMemory = 10

abbrev pub refusal_status : Refusal → Status
refusal_status (refusal.NoFile role name) = status.NoFile role
refusal_status (refusal.ReadFault role name) = status.ReadFault role
refusal_status (refusal.Schema fault) = status.Schema fault.word fault.at
refusal_status (refusal.Query fault) = status.Query fault.word fault.at
refusal_status (refusal.Binding fault) = status.Binding fault.word fault.at
refusal_status (refusal.Table table name fault) = status.Table table fault
refusal_status refusal.NoMemory = status.NoMemory

abbrev pub status_of : Stop → Status
status_of stop.Usage = status.Usage
status_of (stop.Request r) = refusal_status r
status_of (stop.TooWide bound) = status.TooWide bound

-- of what words and files call for
abbrev pub called_status : Result Prepared Stop → Status
called_status (Ok p) = status.Done
called_status (Err s) = status_of s
