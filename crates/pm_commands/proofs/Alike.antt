-- calls whose words differ in some options alone have answers that are alike
use Rattle.std.proofs.Common.{◌≡◌, ◌∙◌, ◌∷◌, ℕ, List, Option, Some, None, Result, Ok, Err, refl, sym, ap, map, subst}
use Rattle.std.specs.Prelude.{IfOk}
use Rattle.std.specs.Option.{option_map}
use Rattle.pm_io.specs.Files.{Held}
use Rattle.pm_values.specs.declared.value.Kind.{Kind}
use Rattle.pm_values.specs.Row.{Row}
use Rattle.pm_plan.specs.declared.plan.Plan.{Plan}
use Rattle.pm_plan.specs.Preorder.{tree_of}
use Rattle.pm_plan.specs.Outputs.{output as output_of}
use Rattle.pm_work.specs.First.{Sizes, too_wide}
use Rattle.pm_work.specs.Fits.{sizes_of}
use Rattle.pm_query.specs.declared.query.Choice.{Choice}
use Rattle.pm_query.specs.Build.{tree_for, plan_for}
use Rattle.pm_build.specs.declared.building.BuildBad.{BuildBad}
use Rattle.pm_build.specs.declared.building.BuildBad.TheVariants as bad
use Rattle.pm_build.specs.Built.{built, plan_unless}
use Rattle.pm_lines.specs.Rows.{head_line}
use Rattle.pm_run.specs.Pieces.{HeadLine, row_piece, lasting}
use Rattle.pm_run.proofs.Pieces.{lasting-same, answering-whole}
use Rattle.pm_words.specs.declared.settings.Settings.{Settings}
use Rattle.pm_words.specs.declared.settings.Settings.TheVariants as settings
use Rattle.pm_words.specs.declared.settings.RunSettings.{RunSettings}
use Rattle.pm_words.specs.declared.settings.ExplainSettings.{ExplainSettings}
use Rattle.pm_words.specs.declared.settings.DemoSettings.{DemoSettings}
use Rattle.pm_words.specs.Settings.{settings_of}
use Rattle.pm_requests.specs.declared.request.Request.{Request}
use Rattle.pm_requests.specs.declared.refusal.Refusal.{Refusal}
use Rattle.pm_requests.specs.Calls as requests
use Rattle.pm_requests.proofs.Once as request
use Rattle.pm_commands.specs.declared.command.Command.{Command}
use Rattle.pm_commands.specs.declared.command.Output.{Output}
use Rattle.pm_commands.specs.declared.command.Output.TheVariants as output
use Rattle.pm_commands.specs.declared.stop.Stop.{Stop}
use Rattle.pm_commands.specs.declared.stop.Stop.TheVariants as stop
use Rattle.pm_commands.specs.declared.preparing.Prepared.{Prepared}
use Rattle.pm_commands.specs.Commands.{command_of, every_of}
use Rattle.pm_commands.specs.Calls.{Asks, CallsBy, Calls, planned, prepared}
use Rattle.pm_commands.specs.Certified.{IsReady}
use Rattle.pm_commands.specs.Alike.{AreCalls, DifferInProgress, DifferInJoin, DifferInWorkers, Alike, AlikeUnlessWide}
use Rattle.pm_commands.proofs.PlanKinds.{plan_kinds}

-- what is answered with a request, or with what refuses it: of the command this reads the output and the choice of joins alone
abbrev answer_with : Output → Choice → Result Request Refusal → Result Prepared Stop
answer_with out join (Ok request) = planned out request (built request.query (sizes_of request.db) join)
answer_with out join (Err r) = Err (stop.Request r)

prepared-with : (command : Command) (asked : Result Request Refusal) → prepared command asked ≡ answer_with command.output command.join asked
prepared-with command (Ok request) = refl
prepared-with command (Err r) = refl

-- two commands over one schema and one statement are answered with one request, or with one refusal of it
record AreAnswered (one other : Command) (a b : Result Prepared Stop) : Type 0 where
  asked : Result Request Refusal
  first : a ≡ answer_with one.output one.join asked
  second : b ≡ answer_with other.output other.join asked

answered : (held : Held) (one other : Command) (a b : Result Prepared Stop) → one.schema ≡ other.schema → one.query ≡ other.query
    → Asks one held a → Asks other held b → AreAnswered one other a b
answered held one other a b schema query (x, p, e) (y, q, f) =
    let moved : requests.Calls held one.schema one.query y =
    subst (λ s. requests.Calls held s one.query y) (sym schema) (subst (λ t. requests.Calls held other.schema t y) (sym query) q) in
    let same : x ≡ y = request.calls_once held one.schema one.query x y p moved in
    record {
      asked = x;
      first = e ∙ prepared-with one x;
      second = f ∙ ap (prepared other) (sym same) ∙ prepared-with other x;
    }

asks-of : (words : List (List ℕ)) (s : Settings) (held : Held) (out : Result Prepared Stop) → settings_of words ≡ Some s → Calls words held out → Asks (command_of s) held out
asks-of words s held out called calls = subst (λ o. CallsBy (option_map command_of o) held out) called calls

-- ---- the settings of progress

planned-lasting : (every other : Option ℕ) (request : Request) (r : Result Plan BuildBad)
    → Alike lasting (planned (output.Run every) request r) (planned (output.Run other) request r)
planned-lasting every other request (Ok plan) =
    record { every = every; other = other; run = refl; other_run = refl; same = lasting-same plan request.db every other }
planned-lasting every other request (Err (bad.TooWide bound)) = refl
planned-lasting every other request (Err bad.Memory) = refl

with-lasting : (every other : Option ℕ) (join : Choice) (asked : Result Request Refusal)
    → Alike lasting (answer_with (output.Run every) join asked) (answer_with (output.Run other) join asked)
with-lasting every other join (Ok request) = planned-lasting every other request (built request.query (sizes_of request.db) join)
with-lasting every other join (Err r) = refl

by-progress : (one other : Settings) (held : Held) (a b : Result Prepared Stop) → DifferInProgress one other
    → Asks (command_of one) held a → Asks (command_of other) held b → Alike lasting a b
by-progress (settings.Run s) (settings.Run t) held a b differ p q =
    let u : RunSettings = record s { every = t.every; progress = t.progress } in
    let moved : Asks (command_of (settings.Run u)) held b = subst (λ (v : RunSettings). Asks (command_of (settings.Run v)) held b) differ q in
    let is = answered held (command_of (settings.Run s)) (command_of (settings.Run u)) a b refl refl p moved in
    subst (λ x. Alike lasting x b) (sym is.first)
    (subst (λ x. Alike lasting (answer_with (output.Run (every_of s)) s.join is.asked) x) (sym is.second) (with-lasting (every_of s) (every_of u) s.join is.asked))
by-progress (settings.Run s) (settings.Explain t) held a b differ p q = absurd differ
by-progress (settings.Run s) (settings.Demo t) held a b differ p q = absurd differ
by-progress (settings.Explain s) other held a b differ p q = absurd differ
by-progress (settings.Demo s) other held a b differ p q = absurd differ

pub progress-alike : (words others : List (List ℕ)) (held : Held) (a b : Result Prepared Stop) → AreCalls DifferInProgress words others
    → Calls words held a → Calls others held b → Alike lasting a b
progress-alike words others held a b are p q =
    by-progress are.one are.other held a b are.differ (asks-of words are.one held a are.called p) (asks-of others are.other held b are.other_called q)

-- ---- the choice of joins

same-pieces : (heads others : List (List ℕ)) (kinds other_kinds : List Kind) (rows other_rows : List Row) → heads ≡ others → kinds ≡ other_kinds → rows ≡ other_rows
    → HeadLine (head_line heads) ∷ map (row_piece kinds) rows ≡ HeadLine (head_line others) ∷ map (row_piece other_kinds) other_rows
same-pieces heads others kinds other_kinds rows other_rows h k r =
    ap (λ x. HeadLine (head_line x) ∷ map (row_piece kinds) rows) h
    ∙ ap (λ x. HeadLine (head_line others) ∷ map (row_piece x) rows) k
    ∙ ap (λ x. HeadLine (head_line others) ∷ map (row_piece other_kinds) x) r

planned-answering : (every : Option ℕ) (request : Request) (plan other : Plan) (wide other_wide : Option ℕ) → plan.heads ≡ other.heads → plan.kinds ≡ other.kinds
    → IfOk (planned (output.Run every) request (plan_unless wide plan)) IsReady → IfOk (planned (output.Run every) request (plan_unless other_wide other)) IsReady
    → AlikeUnlessWide (planned (output.Run every) request (plan_unless wide plan)) (planned (output.Run every) request (plan_unless other_wide other))
planned-answering every request plan other None None heads kinds ready other_ready =
    record {
      every = every;
      other = every;
      run = refl;
      other_run = refl;
      same =
          answering-whole plan request.db every
          ∙ same-pieces plan.heads other.heads plan.kinds other.kinds (output_of request.db (tree_of plan.nodes)) (output_of request.db (tree_of other.nodes)) heads kinds
          (ready.rows ∙ sym other_ready.rows)
          ∙ sym (answering-whole other request.db every);
    }
planned-answering every request plan other None (Some bound) heads kinds ready other_ready = tt
planned-answering every request plan other (Some bound) None heads kinds ready other_ready = tt
planned-answering every request plan other (Some bound) (Some more) heads kinds ready other_ready = tt

with-answering : (every : Option ℕ) (join other : Choice) (asked : Result Request Refusal)
    → IfOk (answer_with (output.Run every) join asked) IsReady → IfOk (answer_with (output.Run every) other asked) IsReady
    → AlikeUnlessWide (answer_with (output.Run every) join asked) (answer_with (output.Run every) other asked)
with-answering every join other (Ok request) ready other_ready =
    let sizes : Sizes = sizes_of request.db in
    planned-answering every request (plan_for request.query sizes join) (plan_for request.query sizes other)
    (too_wide sizes (tree_for request.query sizes join)) (too_wide sizes (tree_for request.query sizes other)) refl
    (plan_kinds request.query sizes join other) ready other_ready
with-answering every join other (Err r) ready other_ready = refl

by-join : (one other : Settings) (held : Held) (a b : Result Prepared Stop) → DifferInJoin one other
    → Asks (command_of one) held a → Asks (command_of other) held b → IfOk a IsReady → IfOk b IsReady → AlikeUnlessWide a b
by-join (settings.Run s) (settings.Run t) held a b differ p q ready other_ready =
    let u : RunSettings = record s { join = t.join } in
    let moved : Asks (command_of (settings.Run u)) held b = subst (λ (v : RunSettings). Asks (command_of (settings.Run v)) held b) differ q in
    let is = answered held (command_of (settings.Run s)) (command_of (settings.Run u)) a b refl refl p moved in
    let every : Option ℕ = every_of s in
    subst (λ x. AlikeUnlessWide x b) (sym is.first)
    (subst (λ x. AlikeUnlessWide (answer_with (output.Run every) s.join is.asked) x) (sym is.second)
    (with-answering every s.join t.join is.asked (subst (λ x. IfOk x IsReady) is.first ready) (subst (λ x. IfOk x IsReady) is.second other_ready)))
by-join (settings.Run s) (settings.Explain t) held a b differ p q ready other_ready = absurd differ
by-join (settings.Run s) (settings.Demo t) held a b differ p q ready other_ready = absurd differ
by-join (settings.Explain s) other held a b differ p q ready other_ready = absurd differ
by-join (settings.Demo s) other held a b differ p q ready other_ready = absurd differ

pub joins-alike : (words others : List (List ℕ)) (held : Held) (a b : Result Prepared Stop) → AreCalls DifferInJoin words others
    → Calls words held a → Calls others held b → IfOk a IsReady → IfOk b IsReady → AlikeUnlessWide a b
joins-alike words others held a b are p q =
    by-join are.one are.other held a b are.differ (asks-of words are.one held a are.called p) (asks-of others are.other held b are.other_called q)

-- ---- the number of workers

by-workers : (one other : Settings) (held : Held) (a b : Result Prepared Stop) → DifferInWorkers one other
    → Asks (command_of one) held a → Asks (command_of other) held b → a ≡ b
by-workers (settings.Run s) (settings.Run t) held a b differ p q =
    let u : RunSettings = record s { workers = t.workers } in
    let moved : Asks (command_of (settings.Run u)) held b = subst (λ (v : RunSettings). Asks (command_of (settings.Run v)) held b) differ q in
    let is = answered held (command_of (settings.Run s)) (command_of (settings.Run u)) a b refl refl p moved in
    is.first ∙ sym is.second
by-workers (settings.Explain s) (settings.Explain t) held a b differ p q =
    let u : ExplainSettings = record s { workers = t.workers } in
    let moved : Asks (command_of (settings.Explain u)) held b = subst (λ (v : ExplainSettings). Asks (command_of (settings.Explain v)) held b) differ q in
    let is = answered held (command_of (settings.Explain s)) (command_of (settings.Explain u)) a b refl refl p moved in
    is.first ∙ sym is.second
by-workers (settings.Demo s) (settings.Demo t) held a b differ p q =
    let u : DemoSettings = record s { workers = t.workers } in
    let moved : Asks (command_of (settings.Demo u)) held b = subst (λ (v : DemoSettings). Asks (command_of (settings.Demo v)) held b) differ q in
    let is = answered held (command_of (settings.Demo s)) (command_of (settings.Demo u)) a b refl refl p moved in
    is.first ∙ sym is.second
by-workers (settings.Run s) (settings.Explain t) held a b differ p q = absurd differ
by-workers (settings.Run s) (settings.Demo t) held a b differ p q = absurd differ
by-workers (settings.Explain s) (settings.Run t) held a b differ p q = absurd differ
by-workers (settings.Explain s) (settings.Demo t) held a b differ p q = absurd differ
by-workers (settings.Demo s) (settings.Run t) held a b differ p q = absurd differ
by-workers (settings.Demo s) (settings.Explain t) held a b differ p q = absurd differ

pub workers-same : (words others : List (List ℕ)) (held : Held) (a b : Result Prepared Stop) → AreCalls DifferInWorkers words others
    → Calls words held a → Calls others held b → a ≡ b
workers-same words others held a b are p q =
    by-workers are.one are.other held a b are.differ (asks-of words are.one held a are.called p) (asks-of others are.other held b are.other_called q)
