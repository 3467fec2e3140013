-- what words and files call for: a plan with its request and output, or the first refusal
use Rattle.std.specs.Prelude.{◌≡◌, ℕ, List, Option, Some, None, Result, Ok, Err}
use Rattle.pm_io.specs.Files.{Held}
use Rattle.pm_plan.specs.declared.plan.Plan.{Plan}
use Rattle.pm_work.specs.Fits.{sizes_of}
use Rattle.pm_build.specs.declared.building.BuildBad.{BuildBad}
use Rattle.pm_build.specs.declared.building.BuildBad.TheVariants as bad
use Rattle.pm_build.specs.Built.{built}
use Rattle.pm_requests.specs.declared.request.Request.{Request}
use Rattle.pm_requests.specs.declared.refusal.Refusal.{Refusal}
use Rattle.pm_requests.specs.declared.refusal.Role.{Role}
use Rattle.pm_requests.specs.Calls as requests
use Rattle.pm_requests.specs.Stops.{Reaches}
use Rattle.pm_commands.specs.declared.command.Command.{Command}
use Rattle.pm_commands.specs.declared.command.Output.{Output}
use Rattle.pm_commands.specs.declared.stop.Stop.{Stop}
use Rattle.pm_commands.specs.declared.stop.Stop.TheVariants as stop
use Rattle.pm_commands.specs.declared.preparing.Prepared.{Prepared}
use Rattle.pm_commands.specs.Commands.{command_in}
use Rattle.pm_commands.specs.Stops.{memory}

-- with the plan of a request, or the bound for which it is too wide
abbrev pub planned : Output → Request → Result Plan BuildBad → Result Prepared Stop
planned output request (Ok plan) = Ok (record { request = request; plan = plan; output = output })
planned output request (Err (bad.TooWide bound)) = Err (stop.TooWide bound)
planned output request (Err bad.Memory) = Err memory

-- with a request, or what refuses it
abbrev pub prepared : Command → Result Request Refusal → Result Prepared Stop
prepared command (Ok request) = planned command.output request (built request.query (sizes_of request.db) command.join)
prepared command (Err r) = Err (stop.Request r)

-- what a command calls for over the bytes of files
abbrev pub Asks : Command → Held → Result Prepared Stop → Type 0
Asks command held out = (asked : Result Request Refusal) × requests.Calls held command.schema command.query asked × (out ≡ prepared command asked)

abbrev pub CallsBy : Option Command → Held → Result Prepared Stop → Type 0
CallsBy None held out = out ≡ Err stop.Usage
CallsBy (Some command) held out = Asks command held out

abbrev pub Calls : List (List ℕ) → Held → Result Prepared Stop → Type 0
Calls words = CallsBy (command_in words)

-- it is the turn of the file of this role, which has this name
abbrev pub ReachesBy : Option Command → Option Held → Role → List ℕ → Type 0
ReachesBy None held role name = ⊥
ReachesBy (Some command) held role name = Reaches held command.schema command.query role name
