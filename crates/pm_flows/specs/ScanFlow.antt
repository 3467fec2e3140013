-- a scan's events and its row at hand
use Rattle.std.specs.Prelude.{◌≡◌, ℕ, zero, suc, true, ◌≤◌, length, drop, map, get_or}
use Rattle.pm_values.specs.declared.value.Value.TheVariants.{Null}
use Rattle.pm_values.specs.Table.{Relation}
use Rattle.pm_values.specs.Row.{Row}
use Rattle.pm_flows.specs.Coming.{rows_by}
use Rattle.pm_flows.specs.Held.{held_in_row}
use Rattle.pm_flows.specs.Flow.{Flow}
use Rattle.pm_flows.specs.declared.scan.Scan.TheInside.{Inside}

-- a row of NULLs
abbrev pub nulls : Relation → Row
nulls table = map (λ column. Null) table.decl.columns

-- the last of the first so many rows, and NULLs before the first
abbrev pub last_of : ℕ → Relation → Row
last_of zero table = nulls table
last_of (suc k) table = get_or table.rows k (nulls table)

abbrev pub scan_flow : Inside → Flow
scan_flow a =
    record {
      node = a.number;
      depth = 0;
      rest = rows_by a.number true (drop a.next a.table.now.rows);
      free_end = true;
      hand = last_of a.next a.table.now;
      held = held_in_row (length a.table.now.decl.columns);
    }

pub record IsScan (a : Inside) : Type 0 where
  pub within : a.next ≤ length a.table.now.rows
  pub null : a.null ≡ Null
