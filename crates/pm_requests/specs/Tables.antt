-- what the files of all tables of FROM call for
use Rattle.std.specs.Prelude.{◌≡◌, List, ◌∷◌, ◌++◌, Result, Ok, Err}
use Rattle.std.specs.List.{AllZip}
use Rattle.pm_values.specs.Table.{Relation}
use Rattle.pm_io.specs.Files.{Held}
use Rattle.pm_query.specs.declared.query.QueryTable.{QueryTable}
use Rattle.pm_requests.specs.declared.refusal.Refusal.{Refusal}
use Rattle.pm_requests.specs.Files.{TableFile}

-- each of these tables is what its file calls for
abbrev pub AreLoaded : Held → List QueryTable → List Relation → Type 0
AreLoaded held = AllZip (λ table relation. TableFile held table (Ok relation))

-- it is this table's turn: those before it are what their files call for
pub record IsTurnOf (held : Held) (tables : List QueryTable) (table : QueryTable) : Type 0 where
  pub before : List QueryTable
  pub behind : List QueryTable
  pub is : tables ≡ before ++ table ∷ behind
  pub db : List Relation
  pub loaded : AreLoaded held before db

-- all tables, or the refusal of the first that is refused
abbrev pub TablesGive : Held → List QueryTable → Result (List Relation) Refusal → Type 0
TablesGive held tables (Ok db) = AreLoaded held tables db
TablesGive held tables (Err r) = (table : QueryTable) × IsTurnOf held tables table × TableFile held table (Err r)
