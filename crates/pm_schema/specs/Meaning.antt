-- What tables that keep the rules declare, and what tokens call for.
use Rattle.std.specs.Prelude.{◌≡◌, ◌≤◌, ℕ, true, List, [], Option, Some, None, Result, Ok, Err, map, length, All, unwrap_or}
use Rattle.std.specs.List.{position}
use Rattle.std.specs.Str.{bytes_eq}
use Rattle.pm_lexer.specs.declared.token.Token.{Token}
use Rattle.pm_grammar.specs.declared.names.PlacedName.{PlacedName}
use Rattle.pm_values.specs.declared.table.ColumnDecl.{ColumnDecl}
use Rattle.pm_values.specs.declared.table.Reference.{Reference}
use Rattle.pm_values.specs.declared.limits.TheConstants.{MOST_COLUMNS}
use Rattle.pm_values.specs.Table.{Declaration, IsDeclaration, IsValidKind}
use Rattle.pm_schema.specs.declared.fault.SchemaBad.{SchemaBad}
use Rattle.pm_schema.specs.declared.fault.SchemaBad.TheVariants as bad
use Rattle.pm_schema.specs.declared.rules.Rule.{Rule}
use Rattle.pm_schema.specs.declared.rules.Rule.TheVariants as rule
use Rattle.pm_schema.specs.declared.rules.Breach.{Breach}
use Rattle.pm_schema.specs.declared.tree.ColumnText.{ColumnText}
use Rattle.pm_schema.specs.declared.tree.ReferenceText.{ReferenceText}
use Rattle.pm_schema.specs.declared.tree.TableText.{TableText}
use Rattle.pm_schema.specs.Answers.{Reads, ExpectedAt, TooManyAt}
use Rattle.pm_schema.specs.Rules.{has, name_of_column}
use Rattle.pm_schema.specs.References.{table_named, first_breach}

-- the position of the first column of this name
abbrev pub position_of : List ColumnText → List ℕ → Option ℕ
position_of columns text = position (λ column. bytes_eq column.name.text text) columns

abbrev pub column_number : List ColumnText → List ℕ → ℕ
column_number columns text = unwrap_or (position_of columns text) 0

abbrev pub number_in : List ColumnText → PlacedName → ℕ
number_in columns name = column_number columns name.text

abbrev pub numbers : List ColumnText → Option (List PlacedName) → Option (List ℕ)
numbers columns None = None
numbers columns (Some names) = Some (map (number_in columns) names)

abbrev pub declared_column : ColumnText → ColumnDecl
declared_column column = record { name = column.name.text; kind = column.kind; nullable = column.nullable }

abbrev pub columns_of : Option TableText → List ColumnText
columns_of None = []
columns_of (Some table) = table.body.columns

-- what the text of a reference declares: its keys are columns of the first table of that name
abbrev pub declared_reference : List TableText → List ColumnText → ReferenceText → Reference
declared_reference tables columns reference = record {
  columns = map (number_in columns) reference.columns;
  target = reference.target.text;
  keys = map (number_in (columns_of (table_named tables reference.target.text))) reference.keys;
}

-- what the text of a table declares, with columns by their numbers
abbrev pub declared_table : List TableText → TableText → Declaration
declared_table tables table = record {
  name = table.name.text;
  file = table.file;
  columns = map declared_column table.body.columns;
  key = numbers table.body.columns table.body.key;
  order = numbers table.body.columns table.body.order;
  references = map (declared_reference tables table.body.columns) table.body.references;
}

abbrev pub declared : List TableText → List Declaration
declared tables = map (declared_table tables) tables

-- a table within the limit of columns, with scales that numbers may have
pub record IsNarrow (table : TableText) : Type 0 where
  pub columns : length table.body.columns ≤ MOST_COLUMNS
  pub scales : All (λ column. IsValidKind column.kind) table.body.columns

-- columns within the limit, and names of them
pub record AreNamed (columns : List ColumnText) (names : List PlacedName) : Type 0 where
  pub few : length columns ≤ MOST_COLUMNS
  pub each : All (λ name. has name_of_column columns name.text ≡ true) names

abbrev pub AreNamedIn : List ColumnText → Option (List PlacedName) → Type 0
AreNamedIn columns None = Unit {0}
AreNamedIn columns (Some names) = AreNamed columns names

-- a reference that names columns of both tables
pub record IsNamedReference (tables : List TableText) (columns : List ColumnText) (reference : ReferenceText) : Type 0 where
  pub own : AreNamed columns reference.columns
  pub keys : AreNamed (columns_of (table_named tables reference.target.text)) reference.keys

-- a table that declares a table of this schema
pub record IsSound (tables : List TableText) (table : TableText) : Type 0 where
  pub declaration : IsDeclaration (declared_table tables table)
  pub key : AreNamedIn table.body.columns table.body.key
  pub order : AreNamedIn table.body.columns table.body.order
  pub references : All (IsNamedReference tables table.body.columns) table.body.references

-- the tokens declare this schema and break no rule
abbrev pub Declares : List Token → List Declaration → Type 0
Declares tokens schema = (tables : List TableText) × Reads tokens tables × (first_breach tables ≡ None) × (schema ≡ declared tables)

-- the tokens declare tables, and this is the first breach of a rule
abbrev pub Breaks : List Token → Rule → ℕ → Type 0
Breaks tokens rule p = (tables : List TableText) × Reads tokens tables × (first_breach tables ≡ Some (record { at = p; rule = rule }))

-- the tokens call for this answer
abbrev pub CallsFor : List Token → Result (List Declaration) SchemaBad → Type 0
CallsFor tokens (Ok schema) = Declares tokens schema
CallsFor tokens (Err (bad.Expected p)) = ExpectedAt tokens p
CallsFor tokens (Err (bad.TooMany p)) = TooManyAt tokens p
CallsFor tokens (Err (bad.DoubleTable p)) = Breaks tokens rule.DoubleTable p
CallsFor tokens (Err (bad.DoubleColumn p)) = Breaks tokens rule.DoubleColumn p
CallsFor tokens (Err (bad.KeyColumn p)) = Breaks tokens rule.KeyColumn p
CallsFor tokens (Err (bad.NullKey p)) = Breaks tokens rule.NullKey p
CallsFor tokens (Err (bad.RefTable p)) = Breaks tokens rule.RefTable p
CallsFor tokens (Err (bad.RefColumn p)) = Breaks tokens rule.RefColumn p
CallsFor tokens (Err (bad.RefShape p)) = Breaks tokens rule.RefShape p
CallsFor tokens (Err bad.Memory) = ⊥

abbrev pub refusal_by : Rule → ℕ → SchemaBad
refusal_by rule.DoubleTable p = bad.DoubleTable p
refusal_by rule.DoubleColumn p = bad.DoubleColumn p
refusal_by rule.KeyColumn p = bad.KeyColumn p
refusal_by rule.NullKey p = bad.NullKey p
refusal_by rule.RefTable p = bad.RefTable p
refusal_by rule.RefColumn p = bad.RefColumn p
refusal_by rule.RefShape p = bad.RefShape p

abbrev pub refusal : Breach → SchemaBad
refusal breach = refusal_by breach.rule breach.at

-- what is answered of tables that were read, by the first breach of a rule
abbrev pub Judges : Option Breach → List TableText → Result (List Declaration) SchemaBad → Type 0
Judges None tables (Ok schema) = schema ≡ declared tables
Judges None tables (Err e) = e ≡ bad.Memory
Judges (Some breach) tables (Ok schema) = ⊥
Judges (Some breach) tables (Err e) = e ≡ refusal breach
