-- how a command may end, by what its words and files call for, and what it has written
use Rattle.std.specs.Prelude.{◌≡◌, ◌≢◌, ◌⊎◌, ℕ, List, [], Option, Result, Ok, Err, IfSome}
use Rattle.pm_io.specs.Files.{Held}
use Rattle.pm_tables.specs.declared.fault.DataBad.TheVariants as bad
use Rattle.pm_requests.specs.declared.refusal.Role.{Role}
use Rattle.pm_requests.specs.Stops.{IfFile}
use Rattle.pm_commands.specs.declared.stop.Stop.{Stop}
use Rattle.pm_commands.specs.declared.preparing.Prepared.{Prepared}
use Rattle.pm_commands.specs.Commands.{command_in, OnOwn}
use Rattle.pm_commands.specs.Calls.{Calls}
use Rattle.pm_commands.specs.Certified.{IsCertified}
use Rattle.pm_commands.specs.Stops.{IfCalled, IfRequest}
use Rattle.pm_commands.specs.Text.{text_of}
use Rattle.pm_cli.specs.declared.status.Status.{Status}
use Rattle.pm_cli.specs.declared.status.Status.TheVariants as status
use Rattle.pm_cli.specs.Status.{status_of}

-- memory was wanted, or a file could not be read
abbrev pub IsCutShort : Status → Type 0
IsCutShort status.NoMemory = Unit {0}
IsCutShort (status.ReadFault role) = Unit {0}
IsCutShort _ = ⊥

-- ended so, a command answers what is called for: all of its text was written, or writing failed, or the refusal is told; or it was cut
-- short
abbrev pub Answers : Result Prepared Stop → Status → Type 0
Answers (Ok p) s = (s ≡ status.Done) ⊎ ((s ≡ status.WriteFault) ⊎ IsCutShort s)
Answers (Err stop) s = (s ≡ status_of stop) ⊎ IsCutShort s

-- a part of the text may have been written, and nothing else
abbrev pub IsUnfinished : Status → Type 0
IsUnfinished status.WriteFault = Unit {0}
IsUnfinished status.NoMemory = Unit {0}
IsUnfinished _ = ⊥

-- the text that is called for; a refusal calls for none
abbrev pub called_text : Result Prepared Stop → List ℕ
called_text (Ok p) = text_of p
called_text (Err stop) = []

-- what is done: it is called for, where the files' bytes are told, and its numbers and rows are certified
pub record IsDone (words : List (List ℕ)) (told : Option Held) (p : Prepared) : Type 0 where
  pub called : IfSome told (λ held. Calls words held (Ok p))
  pub certified : IsCertified p

-- the command was refused: a line says so
abbrev pub IsRefused : Status → Type 0
IsRefused status.Done = ⊥
IsRefused status.WriteFault = ⊥
IsRefused status.NoMemory = ⊥
IsRefused _ = Unit {0}

-- Why a command was refused: with this status; it is called for, where the files' bytes are told; and a file that is absent or could not be
-- read is the one that was begun last, where the files are the call's own.
pub record IsReason (words : List (List ℕ)) (told : Option Held) (last : List ℕ) (s : Status) (why : Stop) : Type 0 where
  pub status : s ≡ status_of why
  pub called : IfSome told (λ held. IfCalled (Calls words held) (Err why))
  pub file : OnOwn (command_in words) (IfRequest (IfFile (λ role name. last ≡ name)) why)

-- ---- a fact where a file is absent, where one could not be read, and where a table is refused

abbrev pub OnAbsent : Type 0 → Status → Type 0
OnAbsent P (status.NoFile role) = P
OnAbsent P _ = Unit {0}

abbrev pub OnBroken : Type 0 → Status → Type 0
OnBroken P (status.ReadFault role) = P
OnBroken P _ = Unit {0}

-- of the role of the file that is absent or could not be read
abbrev pub IfRole : (Role → Type 0) → Status → Type 0
IfRole P (status.NoFile role) = P role
IfRole P (status.ReadFault role) = P role
IfRole P _ = Unit {0}

abbrev pub HasFault : Status → Type 0
HasFault (status.Table table fault) = fault ≢ bad.Memory
HasFault _ = Unit {0}
