use Rattle.std.proofs.Common.{◌≡◌, map, take}
use Rattle.pm_lines.proofs.rows.with_quoted.Given as goal

-- the cells so far show the fields so far
abbrev pub invariant-loop-field : goal.invariant-loop-field
invariant-loop-field l = map (λ cell. cell.now) l.cells.items ≡ take l.field-index l.fields
