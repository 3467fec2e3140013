-- why a reference does not hold of the rows of a table
use Rattle.std.specs.Prelude.{◌≡◌, ◌+◌, ◌-◌, ◌<◌, ℕ, true, false, List, [], length, get_or}
use Rattle.pm_values.specs.declared.value.Value.{Value}
use Rattle.pm_values.specs.declared.table.Reference.{Reference}
use Rattle.pm_values.specs.References.{has_target}
use Rattle.pm_values.specs.Table.{Declaration}
use Rattle.pm_tables.specs.declared.fault.DataBad.{DataBad}
use Rattle.pm_tables.specs.declared.fault.DataBad.TheVariants as bad

-- the reference with this number, from 1, of a table that has it
abbrev pub reference_of : Declaration → ℕ → Reference
reference_of decl number = get_or decl.references (number - 1) (record { columns = []; target = []; keys = [] })

-- row number i, from 0, is the first of the rows without a target
pub record LacksTargetFirst (reference : Reference) (rows targets : List (List Value)) (i : ℕ) : Type 0 where
  pub within : i < length rows
  pub lacks : has_target reference targets (get_or rows i []) ≡ false
  pub first : (k : ℕ) → k < i → has_target reference targets (get_or rows k []) ≡ true

-- why the reference with this number does not hold: want of memory, or the first row without a target
abbrev pub FaultsReference : Reference → ℕ → List (List Value) → List (List Value) → DataBad → Type 0
FaultsReference reference number rows targets (bad.NoTarget r n) = (n ≡ number) × (i : ℕ) × (r ≡ i + 1) × LacksTargetFirst reference rows targets i
FaultsReference reference number rows targets bad.Memory = Unit {0}
FaultsReference reference number rows targets bad.TooLong = ⊥
FaultsReference reference number rows targets (bad.NotText n) = ⊥
FaultsReference reference number rows targets bad.NoHeader = ⊥
FaultsReference reference number rows targets (bad.Header c) = ⊥
FaultsReference reference number rows targets bad.TooManyRows = ⊥
FaultsReference reference number rows targets (bad.Width at) = ⊥
FaultsReference reference number rows targets (bad.Field at column) = ⊥
FaultsReference reference number rows targets (bad.DoubleKey a b) = ⊥
FaultsReference reference number rows targets (bad.OutOfOrder at) = ⊥
