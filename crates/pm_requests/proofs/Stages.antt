-- What the stages of loading answer, together.
use Rattle.std.proofs.Common.{◌≡◌, ◌≢◌, ◌≤◌, ◌⊎◌, ◌∙◌, ℕ, ap, List, Option, Some, None, Result, Ok, Err, refl, inl, inr, arith}
use Rattle.std.specs.Prelude.{IfSome, IfErr}
use Rattle.pm_io.specs.Files.{Held}
use Rattle.pm_io.specs.Counts.{Rose}
use Rattle.pm_io.specs.declared.stand.Stand.{Stand}
use Rattle.pm_values.specs.Table.{Declaration, Relation}
use Rattle.pm_tables.specs.declared.fault.DataBad.{DataBad}
use Rattle.pm_tables.specs.declared.fault.DataBad.TheVariants as bad
use Rattle.pm_tables.specs.Loading.{Rows, Refused, IsTable, Faults}
use Rattle.pm_values.specs.declared.limits.TheConstants.{MOST_RECORDS}
use Rattle.pm_query.specs.declared.query.Query.{Query}
use Rattle.pm_query.specs.declared.query.QueryTable.{QueryTable}
use Rattle.pm_requests.specs.declared.refusal.Role.{Role}
use Rattle.pm_requests.specs.declared.refusal.Role.TheVariants as role
use Rattle.pm_requests.specs.declared.refusal.Refusal.{Refusal}
use Rattle.pm_requests.specs.declared.refusal.Refusal.TheVariants as refusal
use Rattle.pm_requests.specs.Texts.{Then}
use Rattle.pm_requests.specs.Files.{FileGives, SchemaFile, TableGives}
use Rattle.pm_requests.specs.Calls.{IfRefused, IfAnswered, Asks}
use Rattle.pm_requests.specs.Stops.{OnNoFile, StopsAt, IsFileOf, IsTableFile, IsOfReading, IsOfData, IsRead, Reaches}

-- ---- answers of one step, and of several

pub refused_so : (P Q : Refusal → Type 0) → ((r : Refusal) → P r → Q r) → (r : Refusal) → IfRefused P r → IfRefused Q r
refused_so P Q carry (refusal.NoFile role name) h = carry (refusal.NoFile role name) h
refused_so P Q carry (refusal.ReadFault role name) h = tt
refused_so P Q carry (refusal.Schema fault) h = carry (refusal.Schema fault) h
refused_so P Q carry (refusal.Query fault) h = carry (refusal.Query fault) h
refused_so P Q carry (refusal.Table table name fault) h = carry (refusal.Table table name fault) h
refused_so P Q carry (refusal.Binding fault) h = carry (refusal.Binding fault) h
refused_so P Q carry refusal.NoMemory h = tt

pub answered_so : {A : Type 0} (P Q : Result A Refusal → Type 0) → ((out : Result A Refusal) → P out → Q out) → (out : Result A Refusal) → IfAnswered P out → IfAnswered Q out
answered_so P Q carry (Ok a) h = carry (Ok a) h
answered_so P Q carry (Err r) h = refused_so (λ r. P (Err r)) (λ r. Q (Err r)) (λ r. carry (Err r)) r h

-- the first step refuses
pub told_first : {A B : Type 0} (told : Option Held) (P : Held → Result A Refusal → Type 0) (Q : Held → A → Result B Refusal → Type 0) (r : Refusal)
    → IfSome told (λ held. IfAnswered (P held) (Err r)) → IfSome told (λ held. IfAnswered (Then (P held) (Q held)) (Err r))
told_first None P Q r h = tt
told_first (Some held) P Q r h = refused_so (λ r. P held (Err r)) (λ r. Then (P held) (Q held) (Err r)) (λ r p. (Err r, p, refl)) r h

-- the first step goes on to the next
pub told_next : {A B : Type 0} (told : Option Held) (P : Held → Result A Refusal → Type 0) (Q : Held → A → Result B Refusal → Type 0) (a : A) (out : Result B Refusal)
    → IfSome told (λ held. P held (Ok a)) → IfSome told (λ held. IfAnswered (Q held a) out) → IfSome told (λ held. IfAnswered (Then (P held) (Q held)) out)
told_next None P Q a out p h = tt
told_next (Some held) P Q a out p h = answered_so (Q held a) (Then (P held) (Q held)) (λ out q. (Ok a, p, q)) out h

answered_all : {A : Type 0} (P : Result A Refusal → Type 0) (out : Result A Refusal) → P out → IfAnswered P out
answered_all P (Ok a) h = h
answered_all P (Err (refusal.NoFile role name)) h = h
answered_all P (Err (refusal.ReadFault role name)) h = tt
answered_all P (Err (refusal.Schema fault)) h = h
answered_all P (Err (refusal.Query fault)) h = h
answered_all P (Err (refusal.Table table name fault)) h = h
answered_all P (Err (refusal.Binding fault)) h = h
answered_all P (Err refusal.NoMemory) h = tt

-- the first step goes on to the next, which needs no file
pub told_last : {A B : Type 0} (told : Option Held) (P : Held → Result A Refusal → Type 0) (Q : A → Result B Refusal → Type 0) (a : A) (out : Result B Refusal)
    → IfSome told (λ held. P held (Ok a)) → Q a out → IfSome told (λ held. IfAnswered (Then (P held) Q) out)
told_last None P Q a out p q = tt
told_last (Some held) P Q a out p q = answered_all (Then (P held) Q) out (Ok a, p, q)

-- what needs no file
pub told_any : (told : Option Held) (P : Type 0) → P → IfSome told (λ held. P)
told_any None P h = tt
told_any (Some held) P h = h

-- ---- one file

gone_gives : {A : Type 0} (file : Option (List ℕ)) (role : Role) (name : List ℕ) (limit : ℕ) (long : Refusal) (next : List ℕ → Result A Refusal → Type 0)
    → file ≡ None → FileGives file role name limit long next (Err (refusal.NoFile role name))
gone_gives None role name limit long next e = inl (refusal.NoFile role name, refl, refl)
gone_gives (Some bytes) role name limit long next e = absurd cc

long_gives : {A : Type 0} (file : Option (List ℕ)) (role : Role) (name : List ℕ) (limit : ℕ) (long : Refusal) (next : List ℕ → Result A Refusal → Type 0)
    → IsRead file limit None → FileGives file role name limit long next (Err long)
long_gives None role name limit long next h = absurd h
long_gives (Some bytes) role name limit long next h = inl (long, (h, refl), refl)

read_gives : {A : Type 0} (file : Option (List ℕ)) (role : Role) (name : List ℕ) (limit : ℕ) (long : Refusal) (next : List ℕ → Result A Refusal → Type 0) (bytes : List ℕ) (out : Result A Refusal)
    → IsRead file limit (Some bytes) → next bytes out → FileGives file role name limit long next out
read_gives file role name limit long next bytes out h n = rw h.0 (inr (h.1, n))

-- the file was not read
pub told_unread : {A : Type 0} (told : Option Held) (role : Role) (name : List ℕ) (limit : ℕ) (long : Refusal) (next : List ℕ → Result A Refusal → Type 0) (last : List ℕ) (now : Stand) (gone broke : Type 0) (r : Refusal)
    → IsOfReading r → StopsAt (IsFileOf role name) last now gone broke r → OnNoFile (IfSome told (λ held. held name ≡ None)) r
    → IfSome told (λ held. IfAnswered (FileGives (held name) role name limit long next) (Err r))
told_unread None role name limit long next last now gone broke r own stop none = tt
told_unread (Some held) role name limit long next last now gone broke (refusal.NoFile r n) own stop none = rw (stop.0.0, stop.0.1) (gone_gives (held name) role name limit long next none)
told_unread (Some held) role name limit long next last now gone broke (refusal.ReadFault r n) own stop none = tt
told_unread (Some held) role name limit long next last now gone broke (refusal.Schema fault) own stop none = absurd own
told_unread (Some held) role name limit long next last now gone broke (refusal.Query fault) own stop none = absurd own
told_unread (Some held) role name limit long next last now gone broke (refusal.Table t n fault) own stop none = absurd own
told_unread (Some held) role name limit long next last now gone broke (refusal.Binding fault) own stop none = absurd own
told_unread (Some held) role name limit long next last now gone broke refusal.NoMemory own stop none = tt

-- it is longer than its limit
pub told_long : {A : Type 0} (told : Option Held) (role : Role) (name : List ℕ) (limit : ℕ) (long : Refusal) (next : List ℕ → Result A Refusal → Type 0)
    → IfSome told (λ held. IsRead (held name) limit None) → IfSome told (λ held. FileGives (held name) role name limit long next (Err long))
told_long None role name limit long next h = tt
told_long (Some held) role name limit long next h = long_gives (held name) role name limit long next h

-- it was read
pub told_read : {A : Type 0} (told : Option Held) (role : Role) (name : List ℕ) (limit : ℕ) (long : Refusal) (next : List ℕ → Result A Refusal → Type 0) (bytes : List ℕ) (out : Result A Refusal)
    → IfSome told (λ held. IsRead (held name) limit (Some bytes)) → next bytes out → IfSome told (λ held. FileGives (held name) role name limit long next out)
told_read None role name limit long next bytes out h n = tt
told_read (Some held) role name limit long next bytes out h n = read_gives (held name) role name limit long next bytes out h n

-- it is longer than its limit, which is refused so unless memory ran out
pub told_long_so : {A : Type 0} (told : Option Held) (role : Role) (name : List ℕ) (limit : ℕ) (long r : Refusal) (next : List ℕ → Result A Refusal → Type 0)
    → IfSome told (λ held. IsRead (held name) limit None) → IfRefused (λ r. r ≡ long) r → IfSome told (λ held. IfAnswered (FileGives (held name) role name limit long next) (Err r))
told_long_so None role name limit long r next h so = tt
told_long_so (Some held) role name limit long r next h so =
    refused_so (λ r. r ≡ long) (λ r. FileGives (held name) role name limit long next (Err r)) (λ r e. rw e (long_gives (held name) role name limit long next h)) r so

-- it was read, and its bytes are answered
pub told_read_so : {A : Type 0} (told : Option Held) (role : Role) (name : List ℕ) (limit : ℕ) (long : Refusal) (next : List ℕ → Result A Refusal → Type 0) (bytes : List ℕ) (out : Result A Refusal)
    → IfSome told (λ held. IsRead (held name) limit (Some bytes)) → IfAnswered (next bytes) out → IfSome told (λ held. IfAnswered (FileGives (held name) role name limit long next) out)
told_read_so None role name limit long next bytes out h n = tt
told_read_so (Some held) role name limit long next bytes out h n =
    answered_so (next bytes) (FileGives (held name) role name limit long next) (λ out n. read_gives (held name) role name limit long next bytes out h n) out n

-- ---- the bytes of a table's file

pub table_called : (table : QueryTable) (copy : Declaration) (bytes : List ℕ) (loaded : Relation) → copy ≡ table.decl → loaded.decl ≡ copy
    → IsTable copy bytes MOST_RECORDS loaded.rows → TableGives table bytes (Ok loaded)
table_called table copy bytes loaded e d is = (Rows loaded.rows, rw e at is, ap (λ decl. Ok (record { decl = decl; rows = loaded.rows })) (d ∙ e))

pub fault_called : (table : QueryTable) (copy : Declaration) (bytes : List ℕ) (e : DataBad) (r : Refusal) → copy ≡ table.decl → e ≢ bad.Memory → (e ≡ bad.Memory) ⊎ Faults copy bytes MOST_RECORDS e
    → IfRefused (λ r. r ≡ refusal.Table table.place table.decl.name e) r → IfRefused (λ r. TableGives table bytes (Err r)) r
fault_called table copy bytes e r same some (inl none) so = absurd (some none)
fault_called table copy bytes e r same some (inr faults) so =
    refused_so (λ r. r ≡ refusal.Table table.place table.decl.name e) (λ r. TableGives table bytes (Err r)) (λ r is. (Refused e, rw same at faults, ap Err is)) r so

-- ---- where loading stopped

-- a refusal that needs no file is no stop at one
pub data_stops : (IsIts : Role → List ℕ → Type 0) (last : List ℕ) (now : Stand) (gone broke : Type 0) (r : Refusal) → IsOfData r → StopsAt IsIts last now gone broke r
data_stops IsIts last now gone broke (refusal.NoFile role name) h = absurd h
data_stops IsIts last now gone broke (refusal.ReadFault role name) h = absurd h
data_stops IsIts last now gone broke (refusal.Schema fault) h = tt
data_stops IsIts last now gone broke (refusal.Query fault) h = tt
data_stops IsIts last now gone broke (refusal.Binding fault) h = tt
data_stops IsIts last now gone broke (refusal.Table table name fault) h = h
data_stops IsIts last now gone broke refusal.NoMemory h = tt

pub data_stops_if : {A : Type 0} (IsIts : Role → List ℕ → Type 0) (last : List ℕ) (now : Stand) (gone broke : Type 0) (out : Result A Refusal) → IfErr out IsOfData → IfErr out (StopsAt IsIts last now gone broke)
data_stops_if IsIts last now gone broke (Ok a) h = tt
data_stops_if IsIts last now gone broke (Err r) h = data_stops IsIts last now gone broke r h

rose_before : (start old new : ℕ) → start ≤ old → Rose old new → Rose start new
rose_before start old new le rose = omega arith

-- a stop at one file is one of the whole order
pub stop_moved : (IsIts IsOurs : Role → List ℕ → Type 0) (last : List ℕ) (now : Stand) (a0 a1 a2 f0 f1 f2 : ℕ) → a0 ≤ a1 → f0 ≤ f1 → ((r : Role) (n : List ℕ) → IsIts r n → IsOurs r n)
    → (refusal : Refusal) → StopsAt IsIts last now (Rose a1 a2) (Rose f1 f2) refusal → StopsAt IsOurs last now (Rose a0 a2) (Rose f0 f2) refusal
stop_moved IsIts IsOurs last now a0 a1 a2 f0 f1 f2 a f its (refusal.NoFile r n) h = (its r n h.0, h.1, h.2, rose_before a0 a1 a2 a h.3)
stop_moved IsIts IsOurs last now a0 a1 a2 f0 f1 f2 a f its (refusal.ReadFault r n) h = (its r n h.0, h.1, h.2, rose_before f0 f1 f2 f h.3)
stop_moved IsIts IsOurs last now a0 a1 a2 f0 f1 f2 a f its (refusal.Schema fault) h = tt
stop_moved IsIts IsOurs last now a0 a1 a2 f0 f1 f2 a f its (refusal.Query fault) h = tt
stop_moved IsIts IsOurs last now a0 a1 a2 f0 f1 f2 a f its (refusal.Binding fault) h = tt
stop_moved IsIts IsOurs last now a0 a1 a2 f0 f1 f2 a f its (refusal.Table t n fault) h = h
stop_moved IsIts IsOurs last now a0 a1 a2 f0 f1 f2 a f its refusal.NoMemory h = tt

pub reaches_schema : (told : Option Held) (schema query : List ℕ) (r : Role) (n : List ℕ) → IsFileOf role.Schema schema r n → Reaches told schema query r n
reaches_schema told schema query r n h = rw (h.0, h.1) refl

declared_held : (told : Option Held) (schema : List ℕ) (decls : List Declaration) → IfSome told (λ held. SchemaFile held schema (Ok decls))
    → IfSome told (λ held. (decls : List Declaration) × SchemaFile held schema (Ok decls))
declared_held None schema decls h = tt
declared_held (Some held) schema decls h = (decls, h)

pub reaches_query : (told : Option Held) (schema query : List ℕ) (decls : List Declaration) → IfSome told (λ held. SchemaFile held schema (Ok decls))
    → (r : Role) (n : List ℕ) → IsFileOf role.Query query r n → Reaches told schema query r n
reaches_query told schema query decls s r n h = rw (h.0, h.1) (refl, declared_held told schema decls s)

pub reaches_table : (told : Option Held) (schema query : List ℕ) (bound : Query) → IfSome told (λ held. Asks held schema query (Ok bound))
    → (r : Role) (n : List ℕ) → IsTableFile told bound.tables r n → Reaches told schema query r n
reaches_table None schema query bound a r n (table, is, named, turn) = rw is tt
reaches_table (Some held) schema query bound a r n (table, is, named, turn) = rw (is, named) (bound, table, a, turn, refl, refl)
