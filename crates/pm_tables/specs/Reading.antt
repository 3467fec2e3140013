-- the records of a file, and the first fault that makes it no list of records under the header of a declaration
use Rattle.std.specs.Prelude.{◌≡◌, ◌≢◌, ◌+◌, ◌<◌, ◌≤◌, ℕ, List, [], ◌∷◌, length, map, take, slice_get, IsUtf8}
use Rattle.std.specs.Str.{IsValidUpTo}
use Rattle.csv.specs.Reading.{default_config, records, strip_bom}
use Rattle.pm_values.specs.declared.table.ColumnDecl.{ColumnDecl}
use Rattle.pm_tables.specs.declared.fault.DataBad.{DataBad}
use Rattle.pm_tables.specs.declared.fault.DataBad.TheVariants as bad

-- the records of a file: one byte order mark at its front is no part of them
abbrev pub records_of : List ℕ → List (List (List ℕ))
records_of bytes = records default_config (strip_bom bytes)

abbrev pub names_of : List ColumnDecl → List (List ℕ)
names_of columns = map (λ column. column.name) columns

-- position, from 0, is the first at which the lists differ, or at which one of them has ended
abbrev pub DiffersAt : List (List ℕ) → List (List ℕ) → ℕ → Type 0
DiffersAt xs ys position = (take position xs ≡ take position ys) × (slice_get xs position ≢ slice_get ys position)

-- a text whose first record is the list of column names, and the records that follow, at most so many
abbrev pub IsList : List ColumnDecl → List ℕ → ℕ → List (List (List ℕ)) → Type 0
IsList columns bytes most list = IsUtf8 bytes × (records_of bytes ≡ names_of columns ∷ list) × (length list ≤ most)

-- why the bytes are no such list
abbrev pub FaultsFile : List ColumnDecl → List ℕ → ℕ → DataBad → Type 0
FaultsFile columns bytes most (bad.NotText n) = ¬ (IsUtf8 bytes) × IsValidUpTo bytes n
FaultsFile columns bytes most bad.NoHeader = IsUtf8 bytes × (records_of bytes ≡ [])
FaultsFile columns bytes most (bad.Header c) = IsUtf8 bytes × (header : List (List ℕ)) × (list : List (List (List ℕ)))
    × (records_of bytes ≡ header ∷ list) × (position : ℕ) × (c ≡ position + 1) × DiffersAt header (names_of columns) position
FaultsFile columns bytes most bad.TooManyRows = IsUtf8 bytes × (list : List (List (List ℕ)))
    × (records_of bytes ≡ names_of columns ∷ list) × (most < length list)
FaultsFile columns bytes most bad.Memory = Unit {0}
FaultsFile columns bytes most bad.TooLong = ⊥
FaultsFile columns bytes most (bad.Width at) = ⊥
FaultsFile columns bytes most (bad.Field at column) = ⊥
FaultsFile columns bytes most (bad.DoubleKey a b) = ⊥
FaultsFile columns bytes most (bad.OutOfOrder at) = ⊥
FaultsFile columns bytes most (bad.NoTarget r number) = ⊥
