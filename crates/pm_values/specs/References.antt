-- when the rows of a table have the targets to which a reference of theirs points
use Rattle.std.specs.Prelude.{Bool, IsTrue, List, All}
use Rattle.std.specs.List.{list_any}
use Rattle.pm_values.specs.declared.table.Reference.{Reference}
use Rattle.pm_values.specs.Row.{Row, pick}
use Rattle.pm_values.specs.Equality.{same_values}

-- the row's reference columns equal the keys of one of the targets
abbrev pub has_target : Reference → List Row → Row → Bool
has_target reference targets row = list_any (λ target. same_values (pick reference.columns row) (pick reference.keys target)) targets

-- each of the rows has a target
abbrev pub ReferenceHolds : Reference → List Row → List Row → Type 0
ReferenceHolds reference rows targets = All (λ row. IsTrue (has_target reference targets row)) rows
