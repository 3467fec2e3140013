-- queries for worked examples
use Rattle.std.specs.Prelude.{ℕ, true, false, List, [], ◌∷◌, Option, None, Some, codes}
use Rattle.pm_values.specs.declared.condition.Comparison.TheVariants as comparison
use Rattle.pm_values.specs.Table.{Declaration}
use Rattle.pm_plan.specs.declared.plan.Aggregate.TheVariants as aggregate
use Rattle.pm_plan.specs.declared.plan.SortKey.{SortKey}
use Rattle.pm_plan.specs.Tree.{Filter, Project, Sort, Group, Hash, Tree, Scan, Over, Join}
use Rattle.pm_plan.specs.Worked.{declared, integer_column, against, label, on, pair, flags, order_decl, customer_decl}
use Rattle.pm_query.specs.declared.query.QueryTable.{QueryTable}
use Rattle.pm_query.specs.declared.query.QuerySource.{QuerySource}
use Rattle.pm_query.specs.declared.query.Conjunct.{Conjunct}
use Rattle.pm_query.specs.declared.query.Query.{Query}
use Rattle.pm_query.specs.Worked.{table_at, source, conjunct, equal, column_less, of_table, orders_with_names}

-- tables of one column of whole numbers
abbrev pub of_column : List ℕ → Option (List ℕ) → Declaration
of_column name key = declared name (integer_column (codes "x") ∷ []) key None

abbrev pub keyless : List ℕ → Declaration
keyless name = of_column name None

abbrev pub keyed : List ℕ → Declaration
keyed name = of_column name (Some (0 ∷ []))

-- the first column of these tables, joined by these conjuncts
abbrev pub first_of : List QueryTable → List QuerySource → List Conjunct → Query
first_of tables sources conjuncts = record {
  tables = tables;
  sources = sources;
  conjuncts = conjuncts;
  grouped = false;
  keys = [];
  aggregates = [];
  having = None;
  outputs = 0 ∷ [];
  heads = codes "x" ∷ [];
  orders = [];
  distinct = false;
}

-- SELECT a.x FROM a JOIN b ON a.x = b.x
abbrev pub two_keyless : Query
two_keyless =
    first_of
    (table_at 0 (keyless (codes "a")) ∷ table_at 1 (keyless (codes "b")) ∷ [])
    (source 0 (codes "a") ∷ source 1 (codes "b") ∷ [])
    (conjunct (Some 1) (equal 0 1) ∷ [])

-- SELECT a.x FROM a JOIN b ON a.x = b.x JOIN c ON a.x = c.x JOIN d ON a.x = d.x, where c and d have a KEY
abbrev pub two_keyless_two_keyed : Query
two_keyless_two_keyed =
    first_of
    (table_at 0 (keyless (codes "a")) ∷ table_at 1 (keyless (codes "b")) ∷ table_at 2 (keyed (codes "c")) ∷ table_at 3 (keyed (codes "d")) ∷ [])
    (source 0 (codes "a") ∷ source 1 (codes "b") ∷ source 2 (codes "c") ∷ source 3 (codes "d") ∷ [])
    (conjunct (Some 1) (equal 0 1) ∷ conjunct (Some 2) (equal 0 2) ∷ conjunct (Some 3) (equal 0 3) ∷ [])

-- SELECT SUM(a.x) FROM a JOIN b ON a.x = b.x JOIN e ON a.x = e.x
abbrev pub sum_of_three : Query
sum_of_three =
    record (first_of
    (table_at 0 (keyless (codes "a")) ∷ table_at 1 (keyless (codes "b")) ∷ table_at 2 (keyless (codes "e")) ∷ [])
    (source 0 (codes "a") ∷ source 1 (codes "b") ∷ source 2 (codes "e") ∷ [])
    (conjunct (Some 1) (equal 0 1) ∷ conjunct (Some 2) (equal 0 2) ∷ [])) { grouped = true; aggregates = aggregate.Sum 0 ∷ [] }

-- SELECT COUNT(*) FROM ord HAVING COUNT(*) > 5
abbrev pub counted_above : Tree
counted_above = Over (Project (0 ∷ [])) (Over (Filter (against comparison.Greater 0 5)) (Over (Group [] (aggregate.CountAll ∷ [])) (Scan 0 (label (codes "ord") (codes "ord")))))

-- ON .. AND o.amt > 5 AND o.amt < c.id: the first is on the first source alone, and the second reads both and is no pair
abbrev pub orders_below_id : Query
orders_below_id = orders_with_names order_decl customer_decl (conjunct (Some 1) (against comparison.Greater 2 5) ∷ conjunct (Some 1) (column_less 2 3) ∷ [])

abbrev pub filtered_above : Tree
filtered_above =
    Over (Project (4 ∷ 2 ∷ []))
    (Over (Filter (column_less 2 3))
    (Join (Hash false) (on (pair 1 0) (flags false true))
    (Over (Filter (against comparison.Greater 2 5)) (Scan 0 (label (codes "ord") (codes "o"))))
    (Scan 1 (label (codes "cust") (codes "c")))))

-- SELECT DISTINCT cust, amt FROM ord ORDER BY amt
abbrev pub different_amounts : Query
different_amounts = record (of_table order_decl (1 ∷ 2 ∷ [])) { orders = record { column = 2; descending = false } ∷ []; distinct = true }

abbrev pub by_second : List SortKey
by_second = record { column = 1; descending = false } ∷ []

abbrev pub different_sorted : Tree
different_sorted = Over (Sort by_second) (Over (Group (0 ∷ 1 ∷ []) []) (Over (Project (1 ∷ 2 ∷ [])) (Scan 0 (label (codes "ord") (codes "ord")))))

-- ON a.x = b.x AND b.x = a.x
abbrev pub joined_both_ways : Query
joined_both_ways = record two_keyless { conjuncts = conjunct (Some 1) (equal 0 1) ∷ conjunct (Some 1) (equal 1 0) ∷ [] }

abbrev pub joined_once : Tree
joined_once = Over (Project (0 ∷ [])) (Join (Hash false) (on (pair 0 0) (flags false false)) (Scan 0 (label (codes "a") (codes "a"))) (Scan 1 (label (codes "b") (codes "b"))))
