-- a declaration, a declared table with its rows, and when the rows are what the declaration says
use Rattle.std.specs.Prelude.{◌≡◌, ◌≤◌, ℕ, true, List, [], ◌∷◌, length, Option, All, FitsSigned}
use Rattle.std.specs.Int.{w64}
use Rattle.pm_values.specs.declared.value.Value.{Value}
use Rattle.pm_values.specs.declared.value.Value.TheVariants as value
use Rattle.pm_values.specs.declared.value.Kind.{Kind}
use Rattle.pm_values.specs.declared.value.Kind.TheVariants as kind
use Rattle.pm_values.specs.declared.limits.TheConstants.{MOST_COLUMNS, MOST_DECIMALS, MOST_RECORDS}
use Rattle.pm_values.specs.declared.table.ColumnDecl.{ColumnDecl}
use Rattle.pm_values.specs.declared.table.Reference.{Reference}
use Rattle.pm_values.specs.Row.{AllBelow}
use Rattle.pm_values.specs.Order.{KeyHolds, NamesColumns, OrderHolds}

-- a declaration as contracts see it
pub record Declaration : Type 0 where
  pub name : List ℕ
  pub file : List ℕ
  pub columns : List ColumnDecl
  pub key : Option (List ℕ)
  pub order : Option (List ℕ)
  pub references : List Reference

-- a table as contracts see it
pub record Relation : Type 0 where
  pub decl : Declaration
  pub rows : List (List Value)

-- a value that is not NULL and is of the kind
abbrev pub IsOfKind : Kind → Value → Type 0
IsOfKind kind.Int (value.Int n) = FitsSigned w64 n
IsOfKind (kind.Num scale) (value.Int n) = FitsSigned w64 n
IsOfKind kind.Text (value.Text t) = Unit {0}
IsOfKind _ _ = ⊥

-- NULL only where the column is nullable, and else of the column's kind
abbrev pub FitsColumn : ColumnDecl → Value → Type 0
FitsColumn column value.Null = column.nullable ≡ true
FitsColumn column (value.Int n) = IsOfKind column.kind (value.Int n)
FitsColumn column (value.Text t) = IsOfKind column.kind (value.Text t)

-- one value per column, and each fits its column
abbrev pub FitsColumns : List ColumnDecl → List Value → Type 0
FitsColumns [] [] = Unit {0}
FitsColumns (column ∷ columns) (v ∷ values) = FitsColumn column v × FitsColumns columns values
FitsColumns [] (v ∷ values) = ⊥
FitsColumns (column ∷ columns) [] = ⊥

-- a fixed-point number has from 1 to the most decimals
abbrev pub IsValidKind : Kind → Type 0
IsValidKind kind.Int = Unit {0}
IsValidKind (kind.Num scale) = (1 ≤ scale) × (scale ≤ MOST_DECIMALS)
IsValidKind kind.Text = Unit {0}

abbrev pub HasValidKind : ColumnDecl → Type 0
HasValidKind column = IsValidKind column.kind

-- the columns that refer are columns of the referring table
abbrev pub RefersByOwn : ℕ → Reference → Type 0
RefersByOwn width reference = AllBelow reference.columns width

-- a declaration is narrow, and KEY, ORDER and the references name columns of its own
pub record IsDeclaration (decl : Declaration) : Type 0 where
  pub narrow : length decl.columns ≤ MOST_COLUMNS
  pub scales : All HasValidKind decl.columns
  pub key_named : NamesColumns decl.key (length decl.columns)
  pub order_named : NamesColumns decl.order (length decl.columns)
  pub references_named : All (RefersByOwn (length decl.columns)) decl.references

-- the rows are what the declaration says
pub record IsRelation (table : Relation) : Type 0 where
  pub declared : IsDeclaration table.decl
  pub few : length table.rows ≤ MOST_RECORDS
  pub fit : All (FitsColumns table.decl.columns) table.rows
  pub keyed : KeyHolds table.decl.key table.rows
  pub ordered : OrderHolds table.decl.order table.rows
