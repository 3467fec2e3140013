use Rattle.std.proofs.Common.{◌≡◌, ◌≢◌, true, [], rules}
use Rattle.pm_tables.proofs.Values.{scaled_value}
use Rattle.pm_tables.proofs.field.field_value.Goals as goal
use Rattle.pm_tables.proofs.field.field_value.Goals.{else-column-via-then-column+else-is_empty, else-column-via-else-column}

pub returns-in-Num : goal.returns-in-Num
returns-in-Num c =
    let some : c.args.column.now.nullable ≡ true → c.args.field.now ≢ [] = elim c.else-column.branch [
      | else-column-via-then-column+else-is_empty w ↦ λ h k. search rules
      | else-column-via-else-column w ↦ λ h. search rules
    ] in
    scaled_value c.args.column.now c.args.field.now c.in-Num.scale c.scaled_of.result c.in-Num.is some
    (rw c.as_bytes.ensures.value at c.scaled_of.ensures)
