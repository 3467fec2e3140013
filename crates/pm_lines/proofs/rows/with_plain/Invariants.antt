use Rattle.std.proofs.Common.{◌≡◌, ◌++◌, drop}
use Rattle.csv.specs.Writing.{default_writer, fields_text}
use Rattle.pm_lines.proofs.rows.with_plain.Given as goal

-- what the line has so far, and the fields to come, are all
abbrev pub invariant-loop-field : goal.invariant-loop-field
invariant-loop-field l =
    l.line.items ++ fields_text default_writer (drop l.field-index l.rest) ≡ l.fn.before.items ++ (l.first ++ fields_text default_writer l.rest)
