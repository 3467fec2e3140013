-- what a check of some of the references finds: want of memory, or the fault of the first of them that does not hold
use Rattle.std.specs.Prelude.{◌≡◌, ◌≢◌, ◌⊎◌, ◌<◌, ◌≤◌, ℕ, length}
use Rattle.pm_values.specs.declared.limits.TheConstants.{MOST_REFERENCES}
use Rattle.pm_values.specs.Table.{Declaration, Relation}
use Rattle.pm_plan.specs.Rows.{Db}
use Rattle.pm_tables.specs.declared.fault.DataBad.{DataBad}
use Rattle.pm_tables.specs.declared.fault.DataBad.TheVariants as bad
use Rattle.pm_tables.specs.References.{FaultsReference, reference_of}
use Rattle.pm_requests.specs.References.{HoldsBetween, FaultsBetween, FaultsFirst}

-- a table within the limit of references
abbrev pub HasFewReferences : Declaration → Type 0
HasFewReferences decl = length decl.references ≤ MOST_REFERENCES

-- of the reference with this number to this table
abbrev pub FindsOfPair : Relation → ℕ → Relation → DataBad → Type 0
FindsOfPair child number parent e = (e ≡ bad.Memory) ⊎ ((reference_of child.decl number).target ≡ parent.decl.name)
    × (e ≢ bad.Memory) × FaultsReference (reference_of child.decl number) number child.rows parent.rows e

-- of the reference with this number
abbrev pub FindsOfNumber : Db → ℕ → ℕ → DataBad → Type 0
FindsOfNumber db i number e =
    (e ≡ bad.Memory) ⊎ ((j : ℕ) × FaultsBetween db i number j e × ((k : ℕ) → k < j → HoldsBetween db i number k))

-- of the references of the table at this position
abbrev pub FindsOfTable : Db → ℕ → DataBad → Type 0
FindsOfTable db i e = (e ≡ bad.Memory) ⊎ ((number : ℕ) × (j : ℕ) × FaultsBetween db i number j e
    × ((k : ℕ) → k < j → HoldsBetween db i number k) × ((m k : ℕ) → m < number → HoldsBetween db i m k))

-- of all references, where this is one of the table at this position
abbrev pub Finds : Db → ℕ → DataBad → Type 0
Finds db i e = (e ≡ bad.Memory) ⊎ FaultsFirst db i e
