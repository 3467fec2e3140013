-- the gauges that a run keeps, one for each node
use Rattle.std.specs.Prelude.{ℕ, ◌<◌, ◌≤◌, ◌^◌, [], length}
use Rattle.pm_plan.specs.declared.gauge.Gauge.{Gauge}
use Rattle.pm_plan.specs.declared.plan.Node.{Node}
use Rattle.pm_plan.specs.declared.plan.Node.TheVariants as node
use Rattle.pm_plan.specs.Rows.{Db, table_rows}
use Rattle.pm_plan.specs.Joins.{right_columns, worst}
use Rattle.pm_plan.specs.Tree.{Group}
use Rattle.pm_work.specs.Moments.{settled_over}
use Rattle.pm_flows.specs.declared.taken.Taken.{Taken}

-- the gauge of a node before the first event
abbrev pub first_gauge : Db → Node → Gauge
first_gauge db (node.Scan table label) =
    record { handed = 0; settled = length (table_rows db table); worst = 0; size = length (table_rows db table) }
first_gauge db (node.Group child keys items) = record { handed = 0; settled = settled_over (Group keys items) []; worst = 0; size = 0 }
first_gauge db (node.Seek left table pairs label unique) =
    record { handed = 0; settled = 0; worst = worst (right_columns pairs) (table_rows db table); size = length (table_rows db table) }
first_gauge db _ = record { handed = 0; settled = 0; worst = 0; size = 0 }

-- its rows can be counted in 128 bits
pub record IsCounted (g : Gauge) : Type 0 where
  pub handed : g.handed < 2 ^ 128
  pub settled : g.settled < 2 ^ 128

-- the event is of one of so many nodes, and one of them reads its row, or none does
pub record IsAmong (count : ℕ) (t : Taken) : Type 0 where
  pub some : 1 ≤ t.node
  pub node : t.node ≤ count
  pub reader : t.reader ≤ count
