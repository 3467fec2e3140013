-- queries for worked examples
use Rattle.std.specs.Prelude.{ℕ, true, false, List, [], ◌∷◌, map, Option, None, Some, codes}
use Rattle.pm_values.specs.declared.condition.Comparison.TheVariants as comparison
use Rattle.pm_values.specs.declared.condition.Operand.TheVariants as operand
use Rattle.pm_values.specs.declared.condition.Cond.{Cond}
use Rattle.pm_values.specs.declared.condition.Cond.TheVariants as cond
use Rattle.pm_values.specs.Table.{Declaration}
use Rattle.pm_plan.specs.declared.plan.Aggregate.TheVariants as aggregate
use Rattle.pm_plan.specs.declared.plan.SortKey.{SortKey}
use Rattle.pm_plan.specs.Worked.{number, against, declared, integer_column, text_column, order_decl, customer_decl}
use Rattle.pm_query.specs.declared.query.QueryTable.{QueryTable}
use Rattle.pm_query.specs.declared.query.QuerySource.{QuerySource}
use Rattle.pm_query.specs.declared.query.Conjunct.{Conjunct}
use Rattle.pm_query.specs.declared.query.Query.{Query}

abbrev pub table_at : ℕ → Declaration → QueryTable
table_at place decl = record { place = place; decl = decl }

abbrev pub source : ℕ → List ℕ → QuerySource
source table alias = record { table = table; alias = alias; left = false }

-- after LEFT JOIN
abbrev pub left_source : ℕ → List ℕ → QuerySource
left_source table alias = record { table = table; alias = alias; left = true }

abbrev pub conjunct : Option ℕ → Cond → Conjunct
conjunct on c = record { on = on; cond = c }

abbrev pub equal : ℕ → ℕ → Cond
equal x y = cond.Compare comparison.Equal (operand.Column x 0) (operand.Column y 0)

-- a column below another
abbrev pub column_less : ℕ → ℕ → Cond
column_less x y = cond.Compare comparison.Less (operand.Column x 0) (operand.Column y 0)

-- 1 < 2
abbrev pub numbers_less : Cond
numbers_less = cond.Compare comparison.Less (operand.Literal (number 1) 0) (operand.Literal (number 2) 0)

-- SELECT c.name, o.amt FROM ord o JOIN cust c ON o.cust = c.id, and these further conditions
abbrev pub orders_with_names : Declaration → Declaration → List Conjunct → Query
orders_with_names orders customers further = record {
  tables = table_at 1 orders ∷ table_at 0 customers ∷ [];
  sources = source 0 (codes "o") ∷ source 1 (codes "c") ∷ [];
  conjuncts = conjunct (Some 1) (equal 1 3) ∷ further;
  grouped = false;
  keys = [];
  aggregates = [];
  having = None;
  outputs = 4 ∷ 2 ∷ [];
  heads = codes "name" ∷ codes "amt" ∷ [];
  orders = [];
  distinct = false;
}

-- WHERE o.amt > 5
abbrev pub large_orders : Declaration → Declaration → Query
large_orders orders customers = orders_with_names orders customers (conjunct None (against comparison.Greater 2 5) ∷ [])

-- a head for each output
abbrev pub some_heads : List ℕ → List (List ℕ)
some_heads outputs = map (λ output. codes "x") outputs

-- of one table, named as it is declared, without conditions
abbrev pub of_table : Declaration → List ℕ → Query
of_table decl outputs = record {
  tables = table_at 0 decl ∷ [];
  sources = source 0 decl.name ∷ [];
  conjuncts = [];
  grouped = false;
  keys = [];
  aggregates = [];
  having = None;
  outputs = outputs;
  heads = some_heads outputs;
  orders = [];
  distinct = false;
}

abbrev pub group_decl : Declaration
group_decl = declared (codes "g") (integer_column (codes "id") ∷ text_column (codes "k") ∷ record (integer_column (codes "v")) { nullable = true } ∷ []) (Some (0 ∷ [])) None

-- SELECT k, COUNT(*), COUNT(v), SUM(v) FROM g GROUP BY k HAVING SUM(v) > 1
abbrev pub sums_by_key : Query
sums_by_key =
    record (of_table group_decl (0 ∷ 1 ∷ 2 ∷ 3 ∷ [])) {
      grouped = true;
      keys = 1 ∷ [];
      aggregates = aggregate.CountAll ∷ aggregate.Count 2 ∷ aggregate.Sum 2 ∷ [];
      having = Some (against comparison.Greater 3 1);
    }

-- SELECT DISTINCT k FROM g ORDER BY k DESC
abbrev pub different_keys : Query
different_keys = record (of_table group_decl (1 ∷ [])) { distinct = true; orders = record { column = 1; descending = true } ∷ [] }

-- SELECT cust, SUM(amt) AS t FROM ord GROUP BY cust ORDER BY t DESC, cust
abbrev pub sums_by_customer : Query
sums_by_customer =
    record (of_table order_decl (0 ∷ 1 ∷ [])) {
      grouped = true;
      keys = 1 ∷ [];
      aggregates = aggregate.Sum 2 ∷ [];
      orders = record { column = 1; descending = true } ∷ record { column = 0; descending = false } ∷ [];
    }

-- SELECT COUNT(*) FROM ord
abbrev pub order_count : Query
order_count = record (of_table order_decl (0 ∷ [])) { grouped = true; aggregates = aggregate.CountAll ∷ [] }

-- SELECT b.id FROM one a JOIN big b ON a.x = b.id
abbrev pub few_in_many : Query
few_in_many =
    record (of_table (declared (codes "one") (integer_column (codes "x") ∷ []) None None) (1 ∷ [])) {
      tables =
          table_at 0 (declared (codes "one") (integer_column (codes "x") ∷ []) None None)
          ∷ table_at 1 (declared (codes "big") (integer_column (codes "id") ∷ []) (Some (0 ∷ [])) None)
          ∷ [];
      sources = source 0 (codes "a") ∷ source 1 (codes "b") ∷ [];
      conjuncts = conjunct (Some 1) (equal 0 1) ∷ [];
    }

-- items and their prices by day, joined on the item alone, which is a part of the KEY
abbrev pub priced_items : Query
priced_items =
    record (of_table (declared (codes "item") (integer_column (codes "id") ∷ []) (Some (0 ∷ [])) None) (0 ∷ 3 ∷ [])) {
      tables =
          table_at 0 (declared (codes "item") (integer_column (codes "id") ∷ []) (Some (0 ∷ [])) None)
          ∷ table_at 1 (declared (codes "price") (integer_column (codes "item") ∷ integer_column (codes "day") ∷ integer_column (codes "p") ∷ []) (Some (0 ∷ 1 ∷ [])) None)
          ∷ [];
      sources = source 0 (codes "i") ∷ source 1 (codes "p") ∷ [];
      conjuncts = conjunct (Some 1) (equal 0 1) ∷ [];
    }

-- ---- three tables: orders, their customers, and the customers' regions

abbrev pub region_decl : Declaration
region_decl = declared (codes "region") (integer_column (codes "id") ∷ text_column (codes "name") ∷ []) (Some (0 ∷ [])) None

abbrev pub client_decl : Declaration
client_decl = declared (codes "client") (integer_column (codes "id") ∷ integer_column (codes "region") ∷ []) (Some (0 ∷ [])) None

-- FROM ord o JOIN client c ON c.id = o.cust AND o.cust = c.id AND c.id > 1 JOIN region r ON r.id = c.region AND o.amt < r.id WHERE 1 < 2
abbrev pub three_sources : Query
three_sources =
    record (of_table order_decl (0 ∷ 6 ∷ [])) {
      tables = table_at 0 order_decl ∷ table_at 1 client_decl ∷ table_at 2 region_decl ∷ [];
      sources = source 0 (codes "o") ∷ source 1 (codes "c") ∷ source 2 (codes "r") ∷ [];
      conjuncts =
          conjunct (Some 1) (equal 3 1) ∷ conjunct (Some 1) (equal 1 3) ∷ conjunct (Some 1) (against comparison.Greater 3 1)
          ∷ conjunct (Some 2) (equal 5 4) ∷ conjunct (Some 2) (column_less 2 5) ∷ conjunct None numbers_less ∷ [];
    }

-- ---- two tables with an ORDER of two columns

abbrev pub twice_ordered : List ℕ → Declaration
twice_ordered name = declared name (integer_column (codes "a") ∷ integer_column (codes "b") ∷ integer_column (codes "c") ∷ []) None (Some (1 ∷ 0 ∷ []))

-- FROM t x JOIN u y ON x.a = y.a AND x.b = y.b, or only these of the pairs
abbrev pub two_orders : List Conjunct → Query
two_orders pairs =
    record (of_table (twice_ordered (codes "t")) (0 ∷ [])) {
      tables = table_at 0 (twice_ordered (codes "t")) ∷ table_at 1 (twice_ordered (codes "u")) ∷ [];
      sources = source 0 (codes "x") ∷ source 1 (codes "y") ∷ [];
      conjuncts = pairs;
    }

-- ---- left joins and references

-- SELECT c.name, o.amt FROM cust c LEFT JOIN ord o ON o.cust = c.id, and these further conditions
abbrev pub customers_left_joined : List Conjunct → Query
customers_left_joined further =
    record (of_table customer_decl (1 ∷ 4 ∷ [])) {
      tables = table_at 0 customer_decl ∷ table_at 1 order_decl ∷ [];
      sources = source 0 (codes "c") ∷ left_source 1 (codes "o") ∷ [];
      conjuncts = conjunct (Some 1) (equal 3 0) ∷ further;
    }

-- the orders with their customer, and the orders again by their id
abbrev pub orders_twice : Query
orders_twice =
    record (of_table order_decl (0 ∷ [])) {
      tables = table_at 0 order_decl ∷ table_at 1 customer_decl ∷ [];
      sources = source 0 (codes "o") ∷ source 1 (codes "c") ∷ source 0 (codes "p") ∷ [];
      conjuncts = conjunct (Some 1) (equal 1 3) ∷ conjunct (Some 2) (equal 0 5) ∷ [];
    }

-- two tables without a KEY, and one with one
abbrev pub keyless_and_keyed : Query
keyless_and_keyed =
    record (of_table (declared (codes "a") (integer_column (codes "x") ∷ []) None None) (0 ∷ [])) {
      tables =
          table_at 0 (declared (codes "a") (integer_column (codes "x") ∷ []) None None)
          ∷ table_at 1 (declared (codes "b") (integer_column (codes "x") ∷ []) None None)
          ∷ table_at 2 (declared (codes "big") (integer_column (codes "id") ∷ []) (Some (0 ∷ [])) None)
          ∷ [];
      sources = source 0 (codes "a") ∷ source 1 (codes "b") ∷ source 2 (codes "c") ∷ [];
      conjuncts = conjunct (Some 1) (equal 0 1) ∷ conjunct (Some 2) (equal 0 2) ∷ [];
    }

-- ---- order and groups

-- SELECT id FROM ord in this order
abbrev pub orders_sorted : List SortKey → Query
orders_sorted keys = record (of_table order_decl (0 ∷ [])) { orders = keys }

abbrev pub descending : ℕ → SortKey
descending column = record { column = column; descending = true }

-- SELECT MIN(v), MAX(v) FROM g GROUP BY k
abbrev pub ranges_by_key : Query
ranges_by_key = record (of_table group_decl (1 ∷ 2 ∷ [])) { grouped = true; keys = 1 ∷ []; aggregates = aggregate.Min 2 ∷ aggregate.Max 2 ∷ [] }

-- SELECT COUNT(*) FROM ord HAVING COUNT(*) > 5
abbrev pub many_orders : Query
many_orders = record (of_table order_decl (0 ∷ [])) { grouped = true; aggregates = aggregate.CountAll ∷ []; having = Some (against comparison.Greater 0 5) }

-- SELECT DISTINCT COUNT(*) FROM g GROUP BY k
abbrev pub different_counts : Query
different_counts = record (of_table group_decl (1 ∷ [])) { grouped = true; keys = 1 ∷ []; aggregates = aggregate.CountAll ∷ []; distinct = true }

-- WHERE o.amt IS NULL
abbrev pub no_amount : Conjunct
no_amount = conjunct None (cond.IsNull (operand.Column 4 0))
