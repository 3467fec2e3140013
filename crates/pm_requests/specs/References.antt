-- what the references between the tables of a database call for, those of a table to itself with them
use Rattle.std.specs.Prelude.{◌≡◌, ◌≢◌, ◌⊎◌, ◌<◌, ◌≤◌, ℕ, length, slice_get, Some, Result, Ok, Err}
use Rattle.pm_values.specs.References.{ReferenceHolds}
use Rattle.pm_values.specs.Table.{Relation}
use Rattle.pm_plan.specs.Rows.{Db}
use Rattle.pm_query.specs.declared.query.Query.{Query}
use Rattle.pm_query.specs.declared.query.QueryTable.{QueryTable}
use Rattle.pm_tables.specs.declared.fault.DataBad.{DataBad}
use Rattle.pm_tables.specs.declared.fault.DataBad.TheVariants as bad
use Rattle.pm_tables.specs.References.{FaultsReference, reference_of}
use Rattle.pm_requests.specs.declared.request.Request.{Request}
use Rattle.pm_requests.specs.declared.refusal.Refusal.{Refusal}
use Rattle.pm_requests.specs.declared.refusal.Refusal.TheVariants as refusal

-- the reference with this number, from 1, of the table at position i points to the table at position j
pub record Refers (db : Db) (i number j : ℕ) (child parent : Relation) : Type 0 where
  pub child_at : slice_get db i ≡ Some child
  pub parent_at : slice_get db j ≡ Some parent
  pub from : 1 ≤ number
  pub to : number ≤ length child.decl.references
  pub named : (reference_of child.decl number).target ≡ parent.decl.name

-- if it does, each row has a row to which it refers
abbrev pub HoldsBetween : Db → ℕ → ℕ → ℕ → Type 0
HoldsBetween db i number j =
    (child parent : Relation) → Refers db i number j child parent → ReferenceHolds (reference_of child.decl number) child.rows parent.rows

abbrev pub AllHold : Db → Type 0
AllHold db = (i number j : ℕ) → HoldsBetween db i number j

-- it does, and not each row has one: this is the fault
pub record FaultsBetween (db : Db) (i number j : ℕ) (fault : DataBad) : Type 0 where
  pub child : Relation
  pub parent : Relation
  pub refers : Refers db i number j child parent
  pub faults : FaultsReference (reference_of child.decl number) number child.rows parent.rows fault
  pub real : fault ≢ bad.Memory

-- by the referring table, then by the number of the reference, then by the table to which it points
abbrev pub ComesBefore : ℕ → ℕ → ℕ → ℕ → ℕ → ℕ → Type 0
ComesBefore h m k i n j = (h < i) ⊎ (h ≡ i) × (m < n) ⊎ (h ≡ i) × (m ≡ n) × (k < j)

-- the first reference that does not hold is one of the table at position i, and this is its fault
pub record FaultsFirst (db : Db) (i : ℕ) (fault : DataBad) : Type 0 where
  pub number : ℕ
  pub target : ℕ
  pub faults : FaultsBetween db i number target fault
  pub first : (h m k : ℕ) → ComesBefore h m k i number target → HoldsBetween db h m k

-- the fault of a table of FROM, which is told by its place in the schema and its name
pub record IsFaultOf (query : Query) (db : Db) (r : Refusal) : Type 0 where
  pub position : ℕ
  pub table : QueryTable
  pub fault : DataBad
  pub there : slice_get query.tables position ≡ Some table
  pub faults : FaultsFirst db position fault
  pub is : r ≡ refusal.Table table.place table.decl.name fault

-- the query with its tables, where their references hold, and else the fault of the first that does not
abbrev pub Completes : Query → Db → Result Request Refusal → Type 0
Completes query db out = (AllHold db × (out ≡ Ok (record { query = query; db = db }))) ⊎ ((r : Refusal) × IsFaultOf query db r × (out ≡ Err r))
