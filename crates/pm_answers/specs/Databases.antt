-- the databases that a query is asked of
use Rattle.std.specs.Prelude.{◌≡◌, ◌<◌, ◌^◌, ℕ, length, All}
use Rattle.pm_values.specs.Table.{IsDeclaration, Relation, IsRelation}
use Rattle.pm_plan.specs.Rows.{Db, decls_of}
use Rattle.pm_work.specs.Fits.{ReferencesBetween}
use Rattle.pm_query.specs.declared.query.Query.{Query}
use Rattle.pm_query.specs.Build.{decls_in}

-- each row of a table has a value for each column
abbrev pub IsWide : Relation → Type 0
IsWide table = All (λ row. length row ≡ length table.decl.columns) table.rows

-- the tables are declared as the query says, and their rows are as wide as declared
pub record IsDatabaseOf (query : Query) (db : Db) : Type 0 where
  pub declared : decls_of db ≡ decls_in query
  pub wide : All IsWide db

-- each reference between two tables, or of one to itself, holds of their rows
abbrev pub AllReferencesHold : Db → Type 0
AllReferencesHold db = (child parent : ℕ) → ReferencesBetween db child parent

-- the tables are declared as the query says, their rows are what the declarations say, and their references hold
pub record MeetsDeclarations (query : Query) (db : Db) : Type 0 where
  pub declared : decls_of db ≡ decls_in query
  pub tables : All IsRelation db
  pub references : AllReferencesHold db

-- the tables of the query are as a schema declares them, and it selects fewer than 2^32 columns
pub record IsNarrow (query : Query) : Type 0 where
  pub tables : All IsDeclaration (decls_in query)
  pub outputs : length query.outputs < 2 ^ 32
