-- facts of why a command writes no text
use Rattle.std.specs.Prelude.{◌≡◌, ℕ, List, Result, Ok, Err}
use Rattle.pm_io.specs.declared.stand.Stand.{Stand}
use Rattle.pm_io.specs.declared.stand.Stand.TheVariants as stand
use Rattle.pm_requests.specs.declared.refusal.Refusal.{Refusal}
use Rattle.pm_requests.specs.declared.refusal.Refusal.TheVariants as refusal
use Rattle.pm_requests.specs.Calls.{IfRefused}
use Rattle.pm_commands.specs.declared.stop.Stop.{Stop}
use Rattle.pm_commands.specs.declared.stop.Stop.TheVariants as stop
use Rattle.pm_commands.specs.declared.preparing.Prepared.{Prepared}

-- want of memory
abbrev pub memory : Stop
memory = stop.Request refusal.NoMemory

-- a fact of a refusal that loading gives
abbrev pub IfRequest : (Refusal → Type 0) → Stop → Type 0
IfRequest P (stop.Request r) = P r
IfRequest P _ = Unit {0}

-- a fact of an answer, unless a file could not be read or memory was wanted
abbrev pub IfCalled : (Result Prepared Stop → Type 0) → Result Prepared Stop → Type 0
IfCalled P (Ok p) = P (Ok p)
IfCalled P (Err stop.Usage) = P (Err stop.Usage)
IfCalled P (Err (stop.TooWide bound)) = P (Err (stop.TooWide bound))
IfCalled P (Err (stop.Request r)) = IfRefused (λ r. P (Err (stop.Request r))) r

-- the file could be read
abbrev pub IsNoReadFault : Refusal → Type 0
IsNoReadFault (refusal.ReadFault role name) = ⊥
IsNoReadFault _ = Unit {0}

-- where a file is absent or could not be read, it is the one that was begun last, and a count of the files rose
abbrev pub StopsIn : List ℕ → Stand → Type 0 → Type 0 → Refusal → Type 0
StopsIn last now gone broke (refusal.NoFile role name) = (last ≡ name) × (now ≡ stand.Absent) × gone
StopsIn last now gone broke (refusal.ReadFault role name) = (last ≡ name) × (now ≡ stand.Broken) × broke
StopsIn last now gone broke _ = Unit {0}

-- an answer that needs no file: a plan that is too wide, or want of memory
abbrev pub IsOfPlan : Stop → Type 0
IsOfPlan (stop.TooWide bound) = Unit {0}
IsOfPlan (stop.Request r) = r ≡ refusal.NoMemory
IsOfPlan stop.Usage = ⊥
