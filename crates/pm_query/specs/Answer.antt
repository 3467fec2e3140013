-- the rows that a query asks for
use Rattle.std.specs.Prelude.{ℕ, ◌+◌, ◌==◌, Bool, true, false, nat_eq, Option, None, Some, if◌then◌else◌, List, [], ◌∷◌, ◌++◌, map, filter}
use Rattle.std.specs.List.{flat_map, list_all}
use Rattle.pm_values.specs.declared.condition.Cond.{Cond}
use Rattle.pm_values.specs.Row.{Row, pick}
use Rattle.pm_values.specs.Equality.{same_values}
use Rattle.pm_values.specs.Condition.{keeps}
use Rattle.pm_plan.specs.declared.plan.SortKey.{SortKey}
use Rattle.pm_values.specs.Keys.{once}
use Rattle.pm_plan.specs.Rows.{Db, table_rows, decls_of}
use Rattle.pm_plan.specs.Joins.{or_padded}
use Rattle.pm_plan.specs.Kinds.{table_width}
use Rattle.pm_plan.specs.Sorting.{sorted}
use Rattle.pm_plan.specs.Grouping.{grouped}
use Rattle.pm_plan.specs.Outputs.{keeps_if}
use Rattle.pm_query.specs.declared.query.Conjunct.{Conjunct}
use Rattle.pm_query.specs.declared.query.QuerySource.{QuerySource}
use Rattle.pm_query.specs.declared.query.Query.{Query}

abbrev pub same_source : Option ℕ → Option ℕ → Bool
same_source None None = true
same_source None (Some b) = false
same_source (Some a) None = false
same_source (Some a) (Some b) = nat_eq a b

-- each of these conditions is true on the row
abbrev pub meets : List Cond → Row → Bool
meets conds row = list_all (λ cond. keeps cond row) conds

abbrev pub stands_in : Option ℕ → Conjunct → Bool
stands_in on conjunct = same_source on conjunct.on

-- the conditions of the ON of the source at this position, and of WHERE
abbrev pub conditions_in : Option ℕ → Query → List Cond
conditions_in on query = map (λ conjunct. conjunct.cond) (filter (stands_in on) query.conjuncts)

-- a row so far, followed by each row of one more entry on which the conditions are true; after LEFT JOIN by NULLs, once, where there is none
abbrev pub entered : Db → QuerySource → List Cond → Row → List Row
entered db source conds l =
    let found = filter (meets conds) (map (λ r. l ++ r) (table_rows db source.table)) in
    if source.left then or_padded (table_width (decls_of db) source.table) l found else found

-- the rows so far, followed by one row of each further entry, the first of which has this position
abbrev pub combinations : Query → Db → ℕ → List Row → List QuerySource → List Row
combinations query db position rows [] = rows
combinations query db position rows (source ∷ sources) =
    combinations query db (position + 1) (flat_map (entered db source (conditions_in (Some position) query)) rows) sources

-- those that meet WHERE: they stand by the row's number in the first source, then in the second, and so on
abbrev pub combined : Query → Db → List Row
combined query db = filter (meets (conditions_in None query)) (combinations query db 0 ([] ∷ []) query.sources)

-- in a grouped query the groups that HAVING keeps
abbrev pub rows_of : Query → Db → List Row
rows_of query db =
    if query.grouped then filter (keeps_if query.having) (grouped query.keys query.aggregates (combined query db)) else combined query db

-- the position of a column among the selected ones, its first one
abbrev pub position_of : ℕ → List ℕ → ℕ
position_of column [] = 0
position_of column (output ∷ outputs) = if column == output then 0 else 1 + position_of column outputs

-- the order of the selected rows
abbrev pub selected_orders : Query → List SortKey
selected_orders query = map (λ key. record { column = position_of key.column query.outputs; descending = key.descending }) query.orders

-- without DISTINCT sorted and then selected; with DISTINCT selected, each different row once, and then sorted
abbrev pub answer : Query → Db → List Row
answer query db =
    if query.distinct
    then sorted (selected_orders query) (once same_values (map (pick query.outputs) (rows_of query db)))
    else map (pick query.outputs) (sorted query.orders (rows_of query db))
