-- why rows are no table of a declaration
use Rattle.std.specs.Prelude.{◌≡◌, ◌≢◌, ◌+◌, ◌<◌, ℕ, suc, List, length, Some}
use Rattle.std.specs.declared.cmp.Ordering.TheVariants as ordering
use Rattle.pm_values.specs.declared.value.Value.{Value}
use Rattle.pm_values.specs.Table.{Declaration}
use Rattle.pm_values.specs.Order.{KeyHolds, key_at, values_cmp}
use Rattle.pm_tables.specs.declared.fault.DataBad.{DataBad}
use Rattle.pm_tables.specs.declared.fault.DataBad.TheVariants as bad

-- row j, from 0, is the first that agrees with an earlier one in these columns, and the first such earlier one is row i
pub record RepeatsFirst (columns : List ℕ) (rows : List (List Value)) (i j : ℕ) : Type 0 where
  pub order : i < j
  pub within : j < length rows
  pub same : key_at columns rows i ≡ key_at columns rows j
  pub first : (h k : ℕ) → h < k → k < j → key_at columns rows h ≢ key_at columns rows k
  pub least : (h : ℕ) → h < i → key_at columns rows h ≢ key_at columns rows j

-- row i + 1, from 0, is the first that is below the one before by these columns
pub record FallsFirst (columns : List ℕ) (rows : List (List Value)) (i : ℕ) : Type 0 where
  pub within : suc i < length rows
  pub falls : values_cmp (key_at columns rows i) (key_at columns rows (suc i)) ≡ ordering.Greater
  pub first : (k : ℕ) → k < i → values_cmp (key_at columns rows k) (key_at columns rows (suc k)) ≢ ordering.Greater

-- why the rows are no table: want of memory, the first repeated KEY, or where KEY holds the first fall of ORDER
abbrev pub FaultsTable : Declaration → List (List Value) → DataBad → Type 0
FaultsTable decl rows (bad.DoubleKey a b) = (columns : List ℕ) × (decl.key ≡ Some columns)
    × (i : ℕ) × (j : ℕ) × (a ≡ i + 1) × (b ≡ j + 1) × RepeatsFirst columns rows i j
FaultsTable decl rows (bad.OutOfOrder r) = KeyHolds decl.key rows × (columns : List ℕ) × (decl.order ≡ Some columns)
    × (i : ℕ) × (r ≡ i + 2) × FallsFirst columns rows i
FaultsTable decl rows bad.Memory = Unit {0}
FaultsTable decl rows bad.TooLong = ⊥
FaultsTable decl rows (bad.NotText n) = ⊥
FaultsTable decl rows bad.NoHeader = ⊥
FaultsTable decl rows (bad.Header c) = ⊥
FaultsTable decl rows bad.TooManyRows = ⊥
FaultsTable decl rows (bad.Width at) = ⊥
FaultsTable decl rows (bad.Field at column) = ⊥
FaultsTable decl rows (bad.NoTarget r number) = ⊥
