-- how the files are left where loading stops at one that is absent or could not be read
use Rattle.std.specs.Prelude.{◌≡◌, ◌≢◌, ◌<◌, ◌≤◌, ℕ, List, length, Option, None, Some, Ok, IfSome, IsSomeAnd}
use Rattle.pm_values.specs.Table.{Declaration}
use Rattle.pm_io.specs.Files.{Held}
use Rattle.pm_io.specs.declared.stand.Stand.{Stand}
use Rattle.pm_io.specs.declared.stand.Stand.TheVariants as stand
use Rattle.pm_tables.specs.declared.fault.DataBad.TheVariants as bad
use Rattle.pm_query.specs.declared.query.Query.{Query}
use Rattle.pm_query.specs.declared.query.QueryTable.{QueryTable}
use Rattle.pm_requests.specs.declared.refusal.Role.{Role}
use Rattle.pm_requests.specs.declared.refusal.Role.TheVariants as role
use Rattle.pm_requests.specs.declared.refusal.Refusal.{Refusal}
use Rattle.pm_requests.specs.declared.refusal.Refusal.TheVariants as refusal
use Rattle.pm_requests.specs.Files.{SchemaFile}
use Rattle.pm_requests.specs.Tables.{IsTurnOf}
use Rattle.pm_requests.specs.Calls.{Asks}

-- a fact where a file is absent, and where one could not be read
abbrev pub OnNoFile : Type 0 → Refusal → Type 0
OnNoFile P (refusal.NoFile role name) = P
OnNoFile P _ = Unit {0}

abbrev pub OnReadFault : Type 0 → Refusal → Type 0
OnReadFault P (refusal.ReadFault role name) = P
OnReadFault P _ = Unit {0}

-- a fact of the file that is absent or could not be read
abbrev pub IfFile : (Role → List ℕ → Type 0) → Refusal → Type 0
IfFile P (refusal.NoFile role name) = P role name
IfFile P (refusal.ReadFault role name) = P role name
IfFile P _ = Unit {0}

-- Why loading stopped, by the refusal: the file is the one that was to be read and was begun last, and a count of the files rose.
-- A refused table has a fault.
abbrev pub StopsAt : (Role → List ℕ → Type 0) → List ℕ → Stand → Type 0 → Type 0 → Refusal → Type 0
StopsAt IsIts last now gone broke (refusal.NoFile role name) = IsIts role name × (last ≡ name) × (now ≡ stand.Absent) × gone
StopsAt IsIts last now gone broke (refusal.ReadFault role name) = IsIts role name × (last ≡ name) × (now ≡ stand.Broken) × broke
StopsAt IsIts last now gone broke (refusal.Table table name fault) = fault ≢ bad.Memory
StopsAt IsIts last now gone broke _ = Unit {0}

-- a refusal that reading one file gives
abbrev pub IsOfReading : Refusal → Type 0
IsOfReading (refusal.NoFile role name) = Unit {0}
IsOfReading (refusal.ReadFault role name) = Unit {0}
IsOfReading refusal.NoMemory = Unit {0}
IsOfReading _ = ⊥

-- a refusal that needs no file: of texts that do not bind, and of a table's bytes and references
abbrev pub IsOfData : Refusal → Type 0
IsOfData (refusal.Table table name fault) = fault ≢ bad.Memory
IsOfData (refusal.Binding fault) = Unit {0}
IsOfData refusal.NoMemory = Unit {0}
IsOfData _ = ⊥

-- the bytes of a file, or that they are more than the limit
abbrev pub IsRead : Option (List ℕ) → ℕ → Option (List ℕ) → Type 0
IsRead file limit None = IsSomeAnd file (λ bytes. limit < length bytes)
IsRead file limit (Some bytes) = (file ≡ Some bytes) × (length bytes ≤ limit)

-- the file of this role and name
abbrev pub IsFileOf : Role → List ℕ → Role → List ℕ → Type 0
IsFileOf role name r n = (r ≡ role) × (n ≡ name)

-- the file of a table of FROM, where it is that table's turn
abbrev pub IsTableFile : Option Held → List QueryTable → Role → List ℕ → Type 0
IsTableFile told tables r n =
    (table : QueryTable) × (r ≡ role.Table table.place) × (n ≡ table.decl.file) × IfSome told (λ held. IsTurnOf held tables table)

-- the file of this role has this name, and nothing before it in the order calls for a refusal
abbrev pub Reaches : Option Held → List ℕ → List ℕ → Role → List ℕ → Type 0
Reaches told schema query role.Schema name = name ≡ schema
Reaches told schema query role.Query name = (name ≡ query) × IfSome told (λ held. (decls : List Declaration) × SchemaFile held schema (Ok decls))
Reaches told schema query (role.Table place) name = IfSome told (λ held. (bound : Query) × (table : QueryTable)
    × Asks held schema query (Ok bound) × IsTurnOf held bound.tables table × (place ≡ table.place) × (name ≡ table.decl.file))
