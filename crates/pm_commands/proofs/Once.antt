-- words and files call for one answer
use Rattle.std.proofs.Common.{◌≡◌, ◌∙◌, ℕ, ap, sym, List, Option, Some, None, Result, Ok, Err, refl}
use Rattle.std.specs.Prelude.{IfSome}
use Rattle.pm_io.specs.Files.{Held}
use Rattle.pm_requests.specs.declared.refusal.Refusal.{Refusal}
use Rattle.pm_requests.specs.declared.refusal.Refusal.TheVariants as refusal
use Rattle.pm_requests.proofs.Once as request
use Rattle.pm_requests.proofs.SomeAnswer as some
use Rattle.pm_commands.specs.declared.command.Command.{Command}
use Rattle.pm_commands.specs.declared.stop.Stop.{Stop}
use Rattle.pm_commands.specs.declared.stop.Stop.TheVariants as stop
use Rattle.pm_commands.specs.declared.preparing.Prepared.{Prepared}
use Rattle.pm_commands.specs.Commands.{command_in}
use Rattle.pm_commands.specs.Calls.{Asks, CallsBy, Calls, prepared}
use Rattle.pm_commands.specs.Stops.{IfCalled}

asks-once : (command : Command) (held : Held) (a b : Result Prepared Stop) → Asks command held a → Asks command held b → a ≡ b
asks-once command held a b (x, p, e) (y, q, f) = e ∙ ap (prepared command) (request.calls_once held command.schema command.query x y p q) ∙ sym f

by-once : (command : Option Command) (held : Held) (a b : Result Prepared Stop) → CallsBy command held a → CallsBy command held b → a ≡ b
by-once None held a b p q = p ∙ sym q
by-once (Some command) held a b p q = asks-once command held a b p q

pub calls-once : (words : List (List ℕ)) (held : Held) (a b : Result Prepared Stop) → Calls words held a → Calls words held b → a ≡ b
calls-once words = by-once (command_in words)

by-some : (command : Option Command) (held : Held) → (out : Result Prepared Stop) × CallsBy command held out
by-some None held = (Err stop.Usage, refl)
by-some (Some command) held =
    let (asked, calls) = some.some_answer held command.schema command.query in (prepared command asked, (asked, calls, refl))

pub calls-some : (words : List (List ℕ)) (held : Held) → (out : Result Prepared Stop) × Calls words held out
calls-some words = by-some (command_in words)

-- what is called for is the one answer, where an answer is called for
refusal-once : (words : List (List ℕ)) (held : Held) (out : Result Prepared Stop) (r : Refusal) → Calls words held out
    → IfCalled (Calls words held) (Err (stop.Request r)) → IfCalled (λ given. given ≡ out) (Err (stop.Request r))
refusal-once words held out (refusal.NoFile role name) calls h = calls-once words held _ out h calls
refusal-once words held out (refusal.ReadFault role name) calls h = tt
refusal-once words held out (refusal.Schema fault) calls h = calls-once words held _ out h calls
refusal-once words held out (refusal.Query fault) calls h = calls-once words held _ out h calls
refusal-once words held out (refusal.Binding fault) calls h = calls-once words held _ out h calls
refusal-once words held out (refusal.Table table name fault) calls h = calls-once words held _ out h calls
refusal-once words held out refusal.NoMemory calls h = tt

called-once : (words : List (List ℕ)) (held : Held) (given : Result Prepared Stop) → IfCalled (Calls words held) given → (out : Result Prepared Stop) → Calls words held out
    → IfCalled (λ given. given ≡ out) given
called-once words held (Ok p) h out calls = calls-once words held (Ok p) out h calls
called-once words held (Err stop.Usage) h out calls = calls-once words held (Err stop.Usage) out h calls
called-once words held (Err (stop.TooWide bound)) h out calls = calls-once words held (Err (stop.TooWide bound)) out h calls
called-once words held (Err (stop.Request r)) h out calls = refusal-once words held out r calls h

pub only-one : (words : List (List ℕ)) (told : Option Held) (given : Result Prepared Stop) → IfSome told (λ held. IfCalled (Calls words held) given)
    → IfSome told (λ held. (out : Result Prepared Stop) → Calls words held out → IfCalled (λ given. given ≡ out) given)
only-one words None given h = tt
only-one words (Some held) given h = called-once words held given h
