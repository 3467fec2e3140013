-- what the files of a schema and of a query call for: the query with the tables of FROM, or the first refusal in the order of reading
use Rattle.std.specs.Prelude.{◌≢◌, ℕ, List, Result, Ok, Err}
use Rattle.pm_io.specs.Files.{Held}
use Rattle.pm_tables.specs.declared.fault.DataBad.TheVariants as bad
use Rattle.pm_query.specs.declared.query.Query.{Query}
use Rattle.pm_requests.specs.declared.request.Request.{Request}
use Rattle.pm_requests.specs.declared.refusal.Refusal.{Refusal}
use Rattle.pm_requests.specs.declared.refusal.Refusal.TheVariants as refusal
use Rattle.pm_requests.specs.Texts.{Then}
use Rattle.pm_requests.specs.Files.{SchemaFile, QueryFile, Binds}
use Rattle.pm_requests.specs.Tables.{TablesGive}
use Rattle.pm_requests.specs.References.{Completes}

-- the query that the two texts ask for: the schema's file, the query's file, and the binding of the one to the other
abbrev pub Asks : Held → List ℕ → List ℕ → Result Query Refusal → Type 0
Asks held schema query = Then (SchemaFile held schema) (λ decls. Then (QueryFile held query) (Binds decls))

-- and then the tables of FROM, in the order in which they first appear there, and the references between them
abbrev pub Calls : Held → List ℕ → List ℕ → Result Request Refusal → Type 0
Calls held schema query = Then (Asks held schema query) (λ bound. Then (TablesGive held bound.tables) (Completes bound))

-- ---- the answers that nothing calls for: a fault of reading, and want of memory

abbrev pub IfRefused : (Refusal → Type 0) → Refusal → Type 0
IfRefused P (refusal.ReadFault role name) = Unit {0}
IfRefused P refusal.NoMemory = Unit {0}
IfRefused P (refusal.NoFile role name) = P (refusal.NoFile role name)
IfRefused P (refusal.Schema fault) = P (refusal.Schema fault)
IfRefused P (refusal.Query fault) = P (refusal.Query fault)
IfRefused P (refusal.Binding fault) = P (refusal.Binding fault)
IfRefused P (refusal.Table table name fault) = P (refusal.Table table name fault)

abbrev pub IfAnswered : {A : Type 0} → (Result A Refusal → Type 0) → Result A Refusal → Type 0
IfAnswered P (Ok a) = P (Ok a)
IfAnswered P (Err r) = IfRefused (λ r. P (Err r)) r

-- a refused table has a fault
abbrev pub HasFault : Refusal → Type 0
HasFault (refusal.Table table name fault) = fault ≢ bad.Memory
HasFault _ = Unit {0}
