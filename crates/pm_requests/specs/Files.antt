-- what the files of a schema, of a query and of a table call for
use Rattle.std.specs.Prelude.{◌≡◌, ◌⊎◌, ◌<◌, ◌≤◌, ◌^◌, ℕ, List, length, Option, None, Some, Result, Ok, Err, IsSomeAnd}
use Rattle.pm_values.specs.Table.{Declaration, Relation}
use Rattle.pm_values.specs.declared.limits.TheConstants.{MOST_RECORDS}
use Rattle.pm_io.specs.Files.{Held}
use Rattle.pm_refusals.specs.declared.word.Word.TheVariants as word
use Rattle.pm_syntax.specs.declared.tree.Select.{Select}
use Rattle.pm_tables.specs.declared.fault.DataBad.TheVariants as bad
use Rattle.pm_tables.specs.Loading.{Answer, Rows, Refused, CallsFor}
use Rattle.pm_query.specs.declared.query.Query.{Query}
use Rattle.pm_query.specs.declared.query.QueryTable.{QueryTable}
use Rattle.pm_requests.specs.declared.texts.Fault.{Fault}
use Rattle.pm_requests.specs.declared.refusal.Role.{Role}
use Rattle.pm_requests.specs.declared.refusal.Role.TheVariants as role
use Rattle.pm_requests.specs.declared.refusal.Refusal.{Refusal}
use Rattle.pm_requests.specs.declared.refusal.Refusal.TheVariants as refusal
use Rattle.pm_requests.specs.Texts.{SchemaText, SelectText, QueryGives}

-- the most bytes of a schema's or a query's file, and of a table's
abbrev pub text_limit : ℕ
text_limit = 65536

abbrev pub table_limit : ℕ
table_limit = 2 ^ 28

-- the file is absent, or longer than its limit
abbrev pub FileRefuses : Option (List ℕ) → Role → List ℕ → ℕ → Refusal → Refusal → Type 0
FileRefuses None role name limit too_long r = r ≡ refusal.NoFile role name
FileRefuses (Some bytes) role name limit too_long r = (limit < length bytes) × (r ≡ too_long)

-- else its bytes call for what they do
abbrev pub FileGives : {A : Type 0} → Option (List ℕ) → Role → List ℕ → ℕ → Refusal → (List ℕ → Result A Refusal → Type 0) → Result A Refusal → Type 0
FileGives file role name limit too_long next out =
    ((r : Refusal) × FileRefuses file role name limit too_long r × (out ≡ Err r))
    ⊎ IsSomeAnd file (λ bytes. (length bytes ≤ limit) × next bytes out)

-- what is called for, with its fault as a refusal
abbrev pub refused : {A : Type 0} → (Fault → Refusal) → Result A Fault → Result A Refusal
refused f (Ok a) = Ok a
refused f (Err fault) = Err (f fault)

abbrev pub Refusing : {A : Type 0} → (Fault → Refusal) → (Result A Fault → Type 0) → Result A Refusal → Type 0
Refusing {A} f P out = (found : Result A Fault) × P found × (out ≡ refused f found)

abbrev pub too_long : Fault
too_long = record { word = word.TooLong; at = text_limit }

abbrev pub SchemaFile : Held → List ℕ → Result (List Declaration) Refusal → Type 0
SchemaFile held name = FileGives (held name) role.Schema name text_limit (refusal.Schema too_long) (λ bytes. Refusing refusal.Schema (SchemaText bytes))

abbrev pub QueryFile : Held → List ℕ → Result Select Refusal → Type 0
QueryFile held name = FileGives (held name) role.Query name text_limit (refusal.Query too_long) (λ bytes. Refusing refusal.Query (SelectText bytes))

-- the query that a statement is bound to over the tables of a schema
abbrev pub Binds : List Declaration → Select → Result Query Refusal → Type 0
Binds decls select = Refusing refusal.Binding (QueryGives decls select)

-- the rows of a table of FROM, or what refuses its bytes
abbrev pub answered : QueryTable → Answer → Result Relation Refusal
answered table (Rows rows) = Ok (record { decl = table.decl; rows = rows })
answered table (Refused e) = Err (refusal.Table table.place table.decl.name e)

abbrev pub TableGives : QueryTable → List ℕ → Result Relation Refusal → Type 0
TableGives table bytes out = (answer : Answer) × CallsFor table.decl bytes MOST_RECORDS answer × (out ≡ answered table answer)

abbrev pub TableFile : Held → QueryTable → Result Relation Refusal → Type 0
TableFile held table =
    FileGives (held table.decl.file) (role.Table table.place) table.decl.file table_limit (refusal.Table table.place table.decl.name bad.TooLong) (TableGives table)
