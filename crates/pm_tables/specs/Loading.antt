-- when bytes are a table of a declaration, why they are none, and what they call for
use Rattle.std.specs.Prelude.{◌≡◌, ◌≢◌, ◌≤◌, ◌⊎◌, ◌∷◌, ℕ, List, length}
use Rattle.csv.specs.Reading.{default_config, records}
use Rattle.pm_values.specs.declared.value.Value.{Value}
use Rattle.pm_values.specs.Table.{Declaration}
use Rattle.pm_values.specs.Order.{KeyHolds, OrderHolds}
use Rattle.pm_tables.specs.declared.fault.DataBad.{DataBad}
use Rattle.pm_tables.specs.declared.fault.DataBad.TheVariants as bad
use Rattle.pm_values.specs.declared.table.ColumnDecl.{ColumnDecl}
use Rattle.pm_tables.specs.HasRead.{EndsTooLate}
use Rattle.pm_tables.specs.Reading.{FaultsFile, IsList}
use Rattle.pm_tables.specs.Typing.{FaultsFirst, WritesRows}
use Rattle.pm_tables.specs.Table.{FaultsTable}

-- under the header stand at most so many records, and these are the rows that they write
pub record WritesTable (decl : Declaration) (bytes : List ℕ) (most : ℕ) (rows : List (List Value)) : Type 0 where
  pub list : List (List (List ℕ))
  pub listed : IsList decl.columns bytes most list
  pub typed : WritesRows decl.columns list rows

-- these are the rows that the bytes write, and KEY and ORDER hold of them
pub record IsTable (decl : Declaration) (bytes : List ℕ) (most : ℕ) (rows : List (List Value)) : Type 0 where
  pub written : WritesTable decl bytes most rows
  pub keyed : KeyHolds decl.key rows
  pub ordered : OrderHolds decl.order rows

-- under the header stand at most so many records, and the first of them that writes no row is at fault
pub record FaultsRecords (decl : Declaration) (bytes : List ℕ) (most : ℕ) (e : DataBad) : Type 0 where
  pub list : List (List (List ℕ))
  pub listed : IsList decl.columns bytes most list
  pub first : FaultsFirst decl.columns list 0 (length list) e

-- behind the header of the text stand at most so many records, and these are the rows that they write
abbrev pub WritesBehind : List ColumnDecl → List ℕ → List (List ℕ) → ℕ → List (List Value) → Type 0
WritesBehind columns text header most rows = (list : List (List (List ℕ))) × (records default_config text ≡ header ∷ list)
    × (length list ≤ most) × WritesRows columns list rows

-- there are more, or the first of them that writes no row is at fault
abbrev pub FaultsBehind : List ColumnDecl → List ℕ → List (List ℕ) → ℕ → DataBad → Type 0
FaultsBehind columns text header most e = EndsTooLate text header most e ⊎ ((list : List (List (List ℕ)))
    × (records default_config text ≡ header ∷ list) × (length list ≤ most) × FaultsFirst columns list 0 (length list) e)

-- the bytes write rows, and KEY or else ORDER is at fault
pub record FaultsRows (decl : Declaration) (bytes : List ℕ) (most : ℕ) (e : DataBad) : Type 0 where
  pub rows : List (List Value)
  pub written : WritesTable decl bytes most rows
  pub first : FaultsTable decl rows e

-- why the bytes are no table, in the order in which it is looked for; want of memory is no reason
abbrev pub Faults : Declaration → List ℕ → ℕ → DataBad → Type 0
Faults decl bytes most e = (e ≢ bad.Memory) × (FaultsFile decl.columns bytes most e ⊎ FaultsRecords decl bytes most e ⊎ FaultsRows decl bytes most e)

-- the rows of a table, or a refusal
pub data Answer : Type 0 where
  Rows : List (List Value) → Answer
  Refused : DataBad → Answer

-- what the bytes call for
abbrev pub CallsFor : Declaration → List ℕ → ℕ → Answer → Type 0
CallsFor decl bytes most (Rows rows) = IsTable decl bytes most rows
CallsFor decl bytes most (Refused e) = Faults decl bytes most e
