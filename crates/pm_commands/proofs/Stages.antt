-- what the stages of preparing answer, together
use Rattle.std.proofs.Common.{◌≡◌, ◌⊎◌, ◌∙◌, ℕ, ap, List, Option, Some, None, Result, Ok, Err, refl, inl, inr, arith}
use Rattle.std.specs.Prelude.{IfSome, IfErr, IsErrOf}
use Rattle.pm_io.specs.Files.{Held}
use Rattle.pm_io.specs.Counts.{Rose}
use Rattle.pm_io.specs.declared.stand.Stand.{Stand}
use Rattle.pm_io.specs.declared.stand.Stand.TheVariants as stand
use Rattle.pm_plan.specs.declared.plan.Plan.{Plan}
use Rattle.pm_work.specs.First.{Sizes}
use Rattle.pm_work.specs.Fits.{sizes_of}
use Rattle.pm_query.specs.declared.query.Choice.{Choice}
use Rattle.pm_build.specs.declared.building.BuildBad.{BuildBad}
use Rattle.pm_build.specs.declared.building.BuildBad.TheVariants as bad
use Rattle.pm_build.specs.Built.{built}
use Rattle.pm_requests.specs.declared.request.Request.{Request}
use Rattle.pm_requests.specs.declared.refusal.Refusal.{Refusal}
use Rattle.pm_requests.specs.declared.refusal.Refusal.TheVariants as refusal
use Rattle.pm_requests.specs.Calls as requests
use Rattle.pm_requests.specs.Stops.{IfFile, OnNoFile, OnReadFault}
use Rattle.pm_commands.specs.declared.command.Command.{Command}
use Rattle.pm_commands.specs.declared.command.Output.{Output}
use Rattle.pm_commands.specs.declared.stop.Stop.{Stop}
use Rattle.pm_commands.specs.declared.stop.Stop.TheVariants as stop
use Rattle.pm_commands.specs.declared.preparing.Prepared.{Prepared}
use Rattle.pm_commands.specs.Calls.{Asks, planned, prepared}
use Rattle.pm_commands.specs.Stops.{memory, IfCalled, IfRequest, IsOfPlan, IsNoReadFault, StopsIn}

-- ---- the plan of a request

pub planned-so : (output : Output) (request : Request) (join : Choice) (sizes : Sizes) (r : Result Plan BuildBad) → sizes ≡ sizes_of request.db
    → (r ≡ built request.query sizes join) ⊎ IsErrOf r bad.Memory
    → (planned output request r ≡ planned output request (built request.query (sizes_of request.db) join)) ⊎ (planned output request r ≡ Err memory)
planned-so output request join sizes r same (inl e) = inl (ap (planned output request) (e ∙ ap (λ s. built request.query s join) same))
planned-so output request join sizes r same (inr e) = inr (ap (planned output request) e)

-- ---- where the bytes are told

pub told-always : {T : Type 0} (told : Option T) {P : T → Type 0} → ((held : T) → P held) → IfSome told P
told-always None p = tt
told-always (Some held) p = p held

pub where-told : {T : Type 0} (told : Option T) {P Q : T → Type 0} → ((held : T) → P held → Q held) → IfSome told P → IfSome told Q
where-told None f p = tt
where-told (Some held) f p = f held p

-- ---- an answer that is called for

called-all : (P : Result Prepared Stop → Type 0) (out : Result Prepared Stop) → P out → IfCalled P out
called-all P (Ok p) h = h
called-all P (Err stop.Usage) h = h
called-all P (Err (stop.TooWide bound)) h = h
called-all P (Err (stop.Request (refusal.NoFile role name))) h = h
called-all P (Err (stop.Request (refusal.ReadFault role name))) h = tt
called-all P (Err (stop.Request (refusal.Schema fault))) h = h
called-all P (Err (stop.Request (refusal.Query fault))) h = h
called-all P (Err (stop.Request (refusal.Binding fault))) h = h
called-all P (Err (stop.Request (refusal.Table table name fault))) h = h
called-all P (Err (stop.Request refusal.NoMemory)) h = tt

-- of a request that is called for
pub called-planned : (command : Command) (held : Held) (request : Request) (out : Result Prepared Stop) → requests.Calls held command.schema command.query (Ok request)
    → (out ≡ prepared command (Ok request)) ⊎ (out ≡ Err memory) → IfCalled (Asks command held) out
called-planned command held request out calls (inl e) = called-all (Asks command held) out (Ok request, calls, e)
called-planned command held request out calls (inr e) = rw e tt

-- of a refusal
pub called-refused : (command : Command) (held : Held) (r : Refusal) → (let given : Result Request Refusal = Err r in requests.IfAnswered (requests.Calls held command.schema command.query) given)
    → IfCalled (Asks command held) (Err (stop.Request r))
called-refused command held (refusal.NoFile role name) h = (_, h, refl)
called-refused command held (refusal.ReadFault role name) h = tt
called-refused command held (refusal.Schema fault) h = (_, h, refl)
called-refused command held (refusal.Query fault) h = (_, h, refl)
called-refused command held (refusal.Binding fault) h = (_, h, refl)
called-refused command held (refusal.Table table name fault) h = (_, h, refl)
called-refused command held refusal.NoMemory h = tt

-- ---- facts of what stops a command

-- of a request, none is of a file or of a table
pub of-plan : (P : Refusal → Type 0) → P refusal.NoMemory → (out : Result Prepared Stop) → IfErr out IsOfPlan → IfErr out (IfRequest P)
of-plan P h (Ok p) is = tt
of-plan P h (Err stop.Usage) is = tt
of-plan P h (Err (stop.TooWide bound)) is = tt
of-plan P h (Err (stop.Request r)) is = rw is h

pub stops-in : (last : List ℕ) (now : Stand) (gone broke : Type 0) (r : Refusal) → IfFile (λ _ name. last ≡ name) r
    → OnNoFile gone r → OnNoFile (now ≡ stand.Absent) r → OnReadFault broke r → OnReadFault (now ≡ stand.Broken) r → StopsIn last now gone broke r
stops-in last now gone broke (refusal.NoFile role name) own absent stands failed broken = (own, stands, absent)
stops-in last now gone broke (refusal.ReadFault role name) own absent stands failed broken = (own, broken, failed)
stops-in last now gone broke (refusal.Schema fault) own absent stands failed broken = tt
stops-in last now gone broke (refusal.Query fault) own absent stands failed broken = tt
stops-in last now gone broke (refusal.Binding fault) own absent stands failed broken = tt
stops-in last now gone broke (refusal.Table table name fault) own absent stands failed broken = tt
stops-in last now gone broke refusal.NoMemory own absent stands failed broken = tt

none-rises : Rose 0 0 → ⊥
none-rises h = omega (arith, h)

sure-reads : (last : List ℕ) (now : Stand) (gone : Type 0) (r : Refusal) → StopsIn last now gone (Rose 0 0) r → IsNoReadFault r
sure-reads last now gone (refusal.NoFile role name) h = tt
sure-reads last now gone (refusal.ReadFault role name) h = none-rises h.2
sure-reads last now gone (refusal.Schema fault) h = tt
sure-reads last now gone (refusal.Query fault) h = tt
sure-reads last now gone (refusal.Binding fault) h = tt
sure-reads last now gone (refusal.Table table name fault) h = tt
sure-reads last now gone refusal.NoMemory h = tt

-- files that never fail are read
pub sure-files-read : (last : List ℕ) (now : Stand) (gone : Type 0) (out : Result Prepared Stop) → IfErr out (IfRequest (StopsIn last now gone (Rose 0 0))) → IfErr out (IfRequest IsNoReadFault)
sure-files-read last now gone (Ok p) h = tt
sure-files-read last now gone (Err stop.Usage) h = tt
sure-files-read last now gone (Err (stop.TooWide bound)) h = tt
sure-files-read last now gone (Err (stop.Request r)) h = sure-reads last now gone r h
