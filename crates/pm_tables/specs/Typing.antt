-- the rows that records write
use Rattle.std.specs.Prelude.{◌≡◌, ◌≢◌, ◌⊎◌, ◌≤◌, ◌<◌, ◌+◌, ℕ, zero, suc, List, [], ◌∷◌, length, get_or, slice_range}
use Rattle.pm_values.specs.declared.value.Value.{Value}
use Rattle.pm_values.specs.declared.table.ColumnDecl.{ColumnDecl}
use Rattle.pm_tables.specs.declared.fault.DataBad.{DataBad}
use Rattle.pm_tables.specs.declared.fault.DataBad.TheVariants as bad
use Rattle.pm_tables.specs.Field.{HasValue, HasNoValue}

-- a record has one field per column, and these are the values of its fields
abbrev pub WritesRow : List ColumnDecl → List (List ℕ) → List Value → Type 0
WritesRow [] [] [] = Unit {0}
WritesRow (column ∷ columns) (field ∷ fields) (v ∷ row) = HasValue column field v × WritesRow columns fields row
WritesRow [] (field ∷ fields) row = ⊥
WritesRow [] [] (v ∷ row) = ⊥
WritesRow (column ∷ columns) [] row = ⊥
WritesRow (column ∷ columns) (field ∷ fields) [] = ⊥

-- these are the rows that records write, one for each
abbrev pub WritesRows : List ColumnDecl → List (List (List ℕ)) → List (List Value) → Type 0
WritesRows columns [] [] = Unit {0}
WritesRows columns (fields ∷ records) (row ∷ rows) = WritesRow columns fields row × WritesRows columns records rows
WritesRows columns [] (row ∷ rows) = ⊥
WritesRows columns (fields ∷ records) [] = ⊥

-- the field at this position, from 0, is the first that has no value
abbrev pub LacksFirst : List ColumnDecl → List (List ℕ) → ℕ → Type 0
LacksFirst [] fields position = ⊥
LacksFirst (column ∷ columns) [] position = ⊥
LacksFirst (column ∷ columns) (field ∷ fields) zero = HasNoValue column field
LacksFirst (column ∷ columns) (field ∷ fields) (suc position) = (v : Value) × HasValue column field v × LacksFirst columns fields position

-- why record number r writes no row
abbrev pub FaultsRecord : List ColumnDecl → List (List ℕ) → ℕ → DataBad → Type 0
FaultsRecord columns fields r (bad.Width at) = (at ≡ r) × (length fields ≢ length columns)
FaultsRecord columns fields r (bad.Field at column) = (at ≡ r) × (length fields ≡ length columns)
    × (position : ℕ) × (column ≡ position + 1) × LacksFirst columns fields position
FaultsRecord columns fields r bad.Memory = Unit {0}
FaultsRecord columns fields r bad.TooLong = ⊥
FaultsRecord columns fields r (bad.NotText n) = ⊥
FaultsRecord columns fields r bad.NoHeader = ⊥
FaultsRecord columns fields r (bad.Header c) = ⊥
FaultsRecord columns fields r bad.TooManyRows = ⊥
FaultsRecord columns fields r (bad.DoubleKey a b) = ⊥
FaultsRecord columns fields r (bad.OutOfOrder at) = ⊥
FaultsRecord columns fields r (bad.NoTarget at number) = ⊥

-- want of memory, or the fault of the first of the records from one position up to another that writes no row
abbrev pub FaultsFirst : List ColumnDecl → List (List (List ℕ)) → ℕ → ℕ → DataBad → Type 0
FaultsFirst columns records from to e = (e ≡ bad.Memory) ⊎ ((at : ℕ) × (from ≤ at) × (at < to)
    × ((rows : List (List Value)) × WritesRows columns (slice_range records from at) rows)
    × FaultsRecord columns (get_or records at []) (at + 1) e)
