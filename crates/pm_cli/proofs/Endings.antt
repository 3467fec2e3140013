-- how a command ends, from how preparing ended
use Rattle.std.proofs.Common.{◌≡◌, ◌⊎◌, ℕ, List, [], ◌∷◌, ◌++◌, Option, Some, None, Result, Ok, Err, refl, sym, ap, subst, ◌∙◌, inl, inr}
use Rattle.std.specs.Prelude.{IfSome}
use Rattle.pm_io.specs.Sink.{gained, GainsPart}
use Rattle.pm_io.specs.declared.stand.Stand.{Stand}
use Rattle.pm_io.specs.declared.stand.Stand.TheVariants as stand
use Rattle.pm_requests.specs.declared.refusal.Role.{Role}
use Rattle.pm_requests.specs.declared.refusal.Refusal.{Refusal}
use Rattle.pm_requests.specs.declared.refusal.Refusal.TheVariants as refusal
use Rattle.pm_requests.specs.Calls as requests
use Rattle.pm_requests.specs.Stops.{IfFile}
use Rattle.pm_commands.specs.declared.command.Command.{Command}
use Rattle.pm_commands.specs.declared.stop.Stop.{Stop}
use Rattle.pm_commands.specs.declared.stop.Stop.TheVariants as stop
use Rattle.pm_commands.specs.declared.preparing.Prepared.{Prepared}
use Rattle.pm_commands.specs.Commands.{OnOwn, OnDemo}
use Rattle.pm_commands.specs.Stops.{memory, IfCalled, IfRequest, IsNoReadFault, StopsIn}
use Rattle.pm_cli.specs.declared.status.Status.{Status}
use Rattle.pm_cli.specs.declared.status.Status.TheVariants as status
use Rattle.pm_cli.specs.Status.{called_status, refusal_status, status_of}
use Rattle.pm_cli.specs.Endings.{Answers, HasFault, IfRole, IsCutShort, IsRefused, IsUnfinished, OnAbsent, OnBroken}

pub where-told : {T : Type 0} (told : Option T) {P Q : T → Type 0} → ((held : T) → P held → Q held) → IfSome told P → IfSome told Q
where-told None f p = tt
where-told (Some held) f p = f held p

-- ---- a run

-- how a run ends
abbrev pub IsRunEnd : Status → Type 0
IsRunEnd s = (s ≡ status.Done) ⊎ ((s ≡ status.WriteFault) ⊎ (s ≡ status.NoMemory))

pub of-run : (P : Status → Type 0) → P status.Done → P status.WriteFault → P status.NoMemory → (s : Status) → IsRunEnd s → P s
of-run P done fault none s (inl e) = subst P (sym e) done
of-run P done fault none s (inr (inl e)) = subst P (sym e) fault
of-run P done fault none s (inr (inr e)) = subst P (sym e) none

pub run-answers : (p : Prepared) (out : Result Prepared Stop) (s : Status) → Ok p ≡ out → IsRunEnd s → Answers out s
run-answers p out s e kind =
    subst (λ x. Answers x s) e (of-run (Answers (Ok p)) (inl refl) (inr (inl refl)) (inr (inr tt)) s kind)

-- a run without a fault of its sink is done, or memory was wanted
pub run-ends : (p : Prepared) (out : Result Prepared Stop) (s : Status) (rose : Type 0) → Ok p ≡ out → IsRunEnd s → (s ≡ status.WriteFault → rose) → (rose → ⊥)
    → (s ≡ called_status out) ⊎ (s ≡ status.NoMemory)
run-ends p out s rose e (inl done) unwritten quiet = inl (done ∙ ap called_status e)
run-ends p out s rose e (inr (inl fault)) unwritten quiet = absurd (quiet (unwritten fault))
run-ends p out s rose e (inr (inr none)) unwritten quiet = inr none

pub run-unrefused : (s : Status) → IsRunEnd s → IsRefused s → ⊥
run-unrefused s kind = of-run (λ s. IsRefused s → ⊥) (λ h. h) (λ h. h) (λ h. h) s kind

pub run-known : (s : Status) → IsRunEnd s → s ≡ status.Usage → ⊥
run-known s kind = of-run (λ s. s ≡ status.Usage → ⊥) (λ e. cc) (λ e. cc) (λ e. cc) s kind

-- ---- where the files are the call's own, and where they are a demo's

pub on-own : (c : Option Command) {P : Type 0} → P → OnOwn c P
on-own None p = p
on-own (Some command) p = λ none. p

pub on-demo : (c : Option Command) {P : Type 0} → P → OnDemo c P
on-demo None p = tt
on-demo (Some command) p = λ n e. p

pub own-so : (c : Option Command) {P Q : Type 0} → (P → Q) → OnOwn c P → OnOwn c Q
own-so None f p = f p
own-so (Some command) f p = λ none. f (p none)

pub demo-so : (c : Option Command) {P Q : Type 0} → (P → Q) → OnDemo c P → OnDemo c Q
demo-so None f p = tt
demo-so (Some command) f p = λ n e. f (p n e)

-- ---- what stops a command

of-refusal : (P : Refusal → Type 0) → P refusal.NoMemory → (r : Refusal) → r ≡ refusal.NoMemory → P r
of-refusal P p r e = subst P (sym e) p

refusal-unfinished : (r : Refusal) → IsUnfinished (refusal_status r) → r ≡ refusal.NoMemory
refusal-unfinished (refusal.NoFile role name) h = absurd h
refusal-unfinished (refusal.ReadFault role name) h = absurd h
refusal-unfinished (refusal.Schema fault) h = absurd h
refusal-unfinished (refusal.Query fault) h = absurd h
refusal-unfinished (refusal.Binding fault) h = absurd h
refusal-unfinished (refusal.Table table name fault) h = absurd h
refusal-unfinished refusal.NoMemory h = refl

pub unfinished-is-memory : (s : Stop) → IsUnfinished (status_of s) → s ≡ memory
unfinished-is-memory stop.Usage h = absurd h
unfinished-is-memory (stop.Request r) h = ap stop.Request (refusal-unfinished r h)
unfinished-is-memory (stop.TooWide bound) h = absurd h

front-nothing : (front back : List ℕ) → [] ≡ front ++ back → front ≡ []
front-nothing [] back e = refl
front-nothing (x ∷ front) back e = absurd cc

-- a first part of nothing is one of any text
pub part-of-nothing : (old new : Option (List ℕ)) (text : List ℕ) → GainsPart old new [] → GainsPart old new text
part-of-nothing old new text (front, back, split, e) = ([], text, refl, e ∙ ap (gained old) (front-nothing front back split))

refusal-not-done : (r : Refusal) → refusal_status r ≡ status.Done → ⊥
refusal-not-done (refusal.NoFile role name) e = cc
refusal-not-done (refusal.ReadFault role name) e = cc
refusal-not-done (refusal.Schema fault) e = cc
refusal-not-done (refusal.Query fault) e = cc
refusal-not-done (refusal.Binding fault) e = cc
refusal-not-done (refusal.Table table name fault) e = cc
refusal-not-done refusal.NoMemory e = cc

pub stop-not-done : (s : Stop) → status_of s ≡ status.Done → ⊥
stop-not-done stop.Usage e = cc
stop-not-done (stop.Request r) e = refusal-not-done r e
stop-not-done (stop.TooWide bound) e = cc

refusal-written : (r : Refusal) → refusal_status r ≡ status.WriteFault → ⊥
refusal-written (refusal.NoFile role name) e = cc
refusal-written (refusal.ReadFault role name) e = cc
refusal-written (refusal.Schema fault) e = cc
refusal-written (refusal.Query fault) e = cc
refusal-written (refusal.Binding fault) e = cc
refusal-written (refusal.Table table name fault) e = cc
refusal-written refusal.NoMemory e = cc

pub stop-written : (s : Stop) → status_of s ≡ status.WriteFault → ⊥
stop-written stop.Usage e = cc
stop-written (stop.Request r) e = refusal-written r e
stop-written (stop.TooWide bound) e = cc

refusal-known : (r : Refusal) → refusal_status r ≡ status.Usage → ⊥
refusal-known (refusal.NoFile role name) e = cc
refusal-known (refusal.ReadFault role name) e = cc
refusal-known (refusal.Schema fault) e = cc
refusal-known (refusal.Query fault) e = cc
refusal-known (refusal.Binding fault) e = cc
refusal-known (refusal.Table table name fault) e = cc
refusal-known refusal.NoMemory e = cc

pub stop-usage : (s : Stop) → status_of s ≡ status.Usage → s ≡ stop.Usage
stop-usage stop.Usage e = refl
stop-usage (stop.Request r) e = absurd (refusal-known r e)
stop-usage (stop.TooWide bound) e = absurd cc

stop-of : (a b : Stop) → (let x : Result Prepared Stop = Err a in x) ≡ Err b → a ≡ b
stop-of a b e = cc

pub usage-status : (s : Stop) → (let x : Result Prepared Stop = Err s in (x ≡ Err stop.Usage) ⊎ (x ≡ Err memory)) → (status_of s ≡ status.Usage) ⊎ (status_of s ≡ status.NoMemory)
usage-status s (inl e) = inl (ap status_of (stop-of s stop.Usage e))
usage-status s (inr e) = inr (ap status_of (stop-of s memory e))

pub no-usage : (p : Prepared) {A : Type 0} → (let x : Result Prepared Stop = Ok p in (x ≡ Err stop.Usage) ⊎ (x ≡ Err memory)) → A
no-usage p (inl e) = absurd cc
no-usage p (inr e) = absurd cc

-- ---- what a stopped command answers

cut-short : (out : Result Prepared Stop) (s : Status) → IsCutShort s → Answers out s
cut-short (Ok p) s h = inr (inr h)
cut-short (Err why) s h = inr h

answers-same : (s : Stop) (out : Result Prepared Stop) → Err s ≡ out → Answers out (status_of s)
answers-same s out e = subst (λ x. Answers x (status_of s)) e (inl refl)

refusal-answers : (r : Refusal) (out : Result Prepared Stop) → IfCalled (λ given. given ≡ out) (Err (stop.Request r)) → Answers out (refusal_status r)
refusal-answers (refusal.NoFile role name) out h = answers-same _ out h
refusal-answers (refusal.ReadFault role name) out h = cut-short out (status.ReadFault role) tt
refusal-answers (refusal.Schema fault) out h = answers-same _ out h
refusal-answers (refusal.Query fault) out h = answers-same _ out h
refusal-answers (refusal.Binding fault) out h = answers-same _ out h
refusal-answers (refusal.Table table name fault) out h = answers-same _ out h
refusal-answers refusal.NoMemory out h = cut-short out status.NoMemory tt

pub stop-answers : (s : Stop) (out : Result Prepared Stop) → IfCalled (λ given. given ≡ out) (Err s) → Answers out (status_of s)
stop-answers stop.Usage out h = answers-same stop.Usage out h
stop-answers (stop.Request r) out h = refusal-answers r out h
stop-answers (stop.TooWide bound) out h = answers-same (stop.TooWide bound) out h

refusal-ends : (r : Refusal) (out : Result Prepared Stop) → IfCalled (λ given. given ≡ out) (Err (stop.Request r)) → IsNoReadFault r
    → (refusal_status r ≡ called_status out) ⊎ (refusal_status r ≡ status.NoMemory)
refusal-ends (refusal.NoFile role name) out h read = inl (ap called_status h)
refusal-ends (refusal.ReadFault role name) out h read = absurd read
refusal-ends (refusal.Schema fault) out h read = inl (ap called_status h)
refusal-ends (refusal.Query fault) out h read = inl (ap called_status h)
refusal-ends (refusal.Binding fault) out h read = inl (ap called_status h)
refusal-ends (refusal.Table table name fault) out h read = inl (ap called_status h)
refusal-ends refusal.NoMemory out h read = inr refl

pub stop-ends : (s : Stop) (out : Result Prepared Stop) → IfCalled (λ given. given ≡ out) (Err s) → IfRequest IsNoReadFault s
    → (status_of s ≡ called_status out) ⊎ (status_of s ≡ status.NoMemory)
stop-ends stop.Usage out h read = inl (ap called_status h)
stop-ends (stop.Request r) out h read = refusal-ends r out h read
stop-ends (stop.TooWide bound) out h read = inl (ap called_status h)

-- ---- facts of files

refusal-read : (last : List ℕ) (now : Stand) (gone broke : Type 0) (r : Refusal) → (broke → ⊥) → StopsIn last now gone broke r → IsNoReadFault r
refusal-read last now gone broke (refusal.NoFile role name) none h = tt
refusal-read last now gone broke (refusal.ReadFault role name) none h = none h.2
refusal-read last now gone broke (refusal.Schema fault) none h = tt
refusal-read last now gone broke (refusal.Query fault) none h = tt
refusal-read last now gone broke (refusal.Binding fault) none h = tt
refusal-read last now gone broke (refusal.Table table name fault) none h = tt
refusal-read last now gone broke refusal.NoMemory none h = tt

request-so : (P Q : Refusal → Type 0) → ((r : Refusal) → P r → Q r) → (s : Stop) → IfRequest P s → IfRequest Q s
request-so P Q f stop.Usage h = tt
request-so P Q f (stop.Request r) h = f r h
request-so P Q f (stop.TooWide bound) h = tt

-- where no count of faults rose, the files were read
pub files-read : (c : Option Command) (last : List ℕ) (now : Stand) (gone broke : Type 0) (s : Stop) → OnOwn c (IfRequest (StopsIn last now gone broke) s) → OnDemo c (IfRequest IsNoReadFault s)
    → (broke → ⊥) → IfRequest IsNoReadFault s
files-read None last now gone broke s own demo none = request-so _ _ (λ r. refusal-read last now gone broke r none) s own
files-read (Some command) last now gone broke s own demo none = by command.customers refl
  where
    by : (customers : Option ℕ) → command.customers ≡ customers → IfRequest IsNoReadFault s
    by None e = request-so _ _ (λ r. refusal-read last now gone broke r none) s (own e)
    by (Some n) e = demo n e

refusal-file : (last : List ℕ) (now : Stand) (gone broke : Type 0) (r : Refusal) → StopsIn last now gone broke r → IfFile (λ role name. last ≡ name) r
refusal-file last now gone broke (refusal.NoFile role name) h = h.0
refusal-file last now gone broke (refusal.ReadFault role name) h = h.0
refusal-file last now gone broke (refusal.Schema fault) h = tt
refusal-file last now gone broke (refusal.Query fault) h = tt
refusal-file last now gone broke (refusal.Binding fault) h = tt
refusal-file last now gone broke (refusal.Table table name fault) h = tt
refusal-file last now gone broke refusal.NoMemory h = tt

pub stop-file : (last : List ℕ) (now : Stand) (gone broke : Type 0) (s : Stop) → IfRequest (StopsIn last now gone broke) s → IfRequest (IfFile (λ role name. last ≡ name)) s
stop-file last now gone broke s = request-so _ _ (refusal-file last now gone broke) s

refusal-absent : (last : List ℕ) (now : Stand) (gone broke : Type 0) (r : Refusal) → StopsIn last now gone broke r
    → OnAbsent gone (refusal_status r) × OnAbsent (now ≡ stand.Absent) (refusal_status r) × OnBroken broke (refusal_status r) × OnBroken (now ≡ stand.Broken) (refusal_status r)
refusal-absent last now gone broke (refusal.NoFile role name) h = (h.2, h.1, tt, tt)
refusal-absent last now gone broke (refusal.ReadFault role name) h = (tt, tt, h.2, h.1)
refusal-absent last now gone broke (refusal.Schema fault) h = (tt, tt, tt, tt)
refusal-absent last now gone broke (refusal.Query fault) h = (tt, tt, tt, tt)
refusal-absent last now gone broke (refusal.Binding fault) h = (tt, tt, tt, tt)
refusal-absent last now gone broke (refusal.Table table name fault) h = (tt, tt, tt, tt)
refusal-absent last now gone broke refusal.NoMemory h = (tt, tt, tt, tt)

-- the counts and the stand, by the status
pub stop-stands : (last : List ℕ) (now : Stand) (gone broke : Type 0) (s : Stop) → IfRequest (StopsIn last now gone broke) s
    → OnAbsent gone (status_of s) × OnAbsent (now ≡ stand.Absent) (status_of s) × OnBroken broke (status_of s) × OnBroken (now ≡ stand.Broken) (status_of s)
stop-stands last now gone broke stop.Usage h = (tt, tt, tt, tt)
stop-stands last now gone broke (stop.Request r) h = refusal-absent last now gone broke r h
stop-stands last now gone broke (stop.TooWide bound) h = (tt, tt, tt, tt)

refusal-sure : (r : Refusal) → IsNoReadFault r → OnBroken ⊥ (refusal_status r)
refusal-sure (refusal.NoFile role name) h = tt
refusal-sure (refusal.ReadFault role name) h = h
refusal-sure (refusal.Schema fault) h = tt
refusal-sure (refusal.Query fault) h = tt
refusal-sure (refusal.Binding fault) h = tt
refusal-sure (refusal.Table table name fault) h = tt
refusal-sure refusal.NoMemory h = tt

pub stop-sure : (s : Stop) → IfRequest IsNoReadFault s → OnBroken ⊥ (status_of s)
stop-sure stop.Usage h = tt
stop-sure (stop.Request r) h = refusal-sure r h
stop-sure (stop.TooWide bound) h = tt

refusal-role : (P : Role → List ℕ → Type 0) (r : Refusal) → IfFile P r → IfRole (λ role. (name : List ℕ) × P role name) (refusal_status r)
refusal-role P (refusal.NoFile role name) h = (name, h)
refusal-role P (refusal.ReadFault role name) h = (name, h)
refusal-role P (refusal.Schema fault) h = tt
refusal-role P (refusal.Query fault) h = tt
refusal-role P (refusal.Binding fault) h = tt
refusal-role P (refusal.Table table name fault) h = tt
refusal-role P refusal.NoMemory h = tt

pub stop-role : (P : Role → List ℕ → Type 0) (s : Stop) → IfRequest (IfFile P) s → IfRole (λ role. (name : List ℕ) × P role name) (status_of s)
stop-role P stop.Usage h = tt
stop-role P (stop.Request r) h = refusal-role P r h
stop-role P (stop.TooWide bound) h = tt

refusal-fault : (r : Refusal) → requests.HasFault r → HasFault (refusal_status r)
refusal-fault (refusal.NoFile role name) h = tt
refusal-fault (refusal.ReadFault role name) h = tt
refusal-fault (refusal.Schema fault) h = tt
refusal-fault (refusal.Query fault) h = tt
refusal-fault (refusal.Binding fault) h = tt
refusal-fault (refusal.Table table name fault) h = h
refusal-fault refusal.NoMemory h = tt

pub stop-fault : (s : Stop) → IfRequest requests.HasFault s → HasFault (status_of s)
stop-fault stop.Usage h = tt
stop-fault (stop.Request r) h = refusal-fault r h
stop-fault (stop.TooWide bound) h = tt
