-- Texts of statements over a schema, and what they are bound to.
use Rattle.std.specs.Prelude.{◌≡◌, ℕ, pos, true, false, List, [], ◌∷◌, Some, None, Result, Ok, codes}
use Rattle.pm_syntax.specs.declared.tree.Select.{Select}
use Rattle.pm_syntax.specs.Worked.{TextCallsFor}
use Rattle.pm_values.specs.declared.value.Kind.TheVariants as kind
use Rattle.pm_values.specs.declared.value.Value.TheVariants as value
use Rattle.pm_values.specs.declared.condition.Comparison.TheVariants as comparison
use Rattle.pm_values.specs.declared.condition.Operand.TheVariants as operand
use Rattle.pm_values.specs.declared.condition.Cond.{Cond}
use Rattle.pm_values.specs.declared.condition.Cond.TheVariants as cond
use Rattle.pm_values.specs.Row.{Row}
use Rattle.pm_values.specs.Table.{Declaration}
use Rattle.pm_plan.specs.Rows.{Db}
use Rattle.pm_plan.specs.declared.plan.Aggregate.TheVariants as aggregate
use Rattle.pm_plan.specs.Worked.{number, against, declared, customer_decl, order_decl}
use Rattle.pm_query.specs.declared.query.Query.{Query}
use Rattle.pm_query.specs.Worked.{table_at, conjunct, equal, of_table, orders_with_names, customers_left_joined}
use Rattle.pm_names.specs.declared.fault.BindBad.{BindBad}
use Rattle.pm_binder.specs.Bound.{bound}
use Rattle.pm_binder.specs.Meaning.{select_rows}

-- cust (id INT NOT NULL, name TEXT), ord (id INT NOT NULL, cust INT NOT NULL, amt INT NOT NULL), price (p NUM(2) NOT NULL)
abbrev pub shop_schema : List Declaration
shop_schema = customer_decl ∷ order_decl ∷ declared (codes "price") (record { name = codes "p"; kind = kind.Num 2; nullable = false } ∷ []) None None ∷ []

-- the text is a statement that is bound so
abbrev pub TextBinds : List ℕ → Result Query BindBad → Type 0
TextBinds text answer = (select : Select) × TextCallsFor text (Ok select) × (bound select shop_schema ≡ answer)

-- the customers' table has the first place of the schema, the orders' the second
abbrev pub of_orders : List ℕ → List (List ℕ) → Query
of_orders outputs heads = record (of_table order_decl outputs) { tables = table_at 1 order_decl ∷ []; heads = heads }

-- 1 = 1
abbrev pub numbers_equal : Cond
numbers_equal = cond.Compare comparison.Equal (operand.Literal (value.Int (pos 1)) 0) (operand.Literal (value.Int (pos 1)) 0)

-- SELECT c.name, o.amt FROM ord o JOIN cust c ON o.cust = c.id AND c.id = o.cust WHERE 1 = 1
abbrev pub joined_twice : Query
joined_twice = orders_with_names order_decl customer_decl (conjunct (Some 1) (equal 3 1) ∷ conjunct None numbers_equal ∷ [])

-- SELECT c.name, o.amt FROM cust c LEFT JOIN ord o ON o.cust = c.id AND (o.amt > 5 AND o.amt NOT IN (7, NULL))
abbrev pub left_joined : Query
left_joined =
    record (customers_left_joined (
    conjunct (Some 1) (against comparison.Greater 4 5)
    ∷ conjunct (Some 1) (cond.Not (cond.Any (against comparison.Equal 4 7 ∷ cond.Compare comparison.Equal (operand.Column 4 0) (operand.Literal value.Null 0) ∷ [])))
    ∷ [])) { heads = codes "name" ∷ codes "amt" ∷ [] }

-- SELECT cust, SUM(amt) AS total FROM ord GROUP BY cust HAVING COUNT(*) > 1 AND SUM(amt) > 5 ORDER BY total DESC, cust
abbrev pub totals : Query
totals =
    record (of_orders (0 ∷ 1 ∷ []) (codes "cust" ∷ codes "total" ∷ [])) {
      grouped = true;
      keys = 1 ∷ [];
      aggregates = aggregate.Sum 2 ∷ aggregate.CountAll ∷ [];
      having = Some (cond.All (against comparison.Greater 2 1 ∷ against comparison.Greater 1 5 ∷ []));
      orders = record { column = 1; descending = true } ∷ record { column = 0; descending = false } ∷ [];
    }

-- SELECT cust AS amt FROM ord GROUP BY cust ORDER BY SUM(amt)
abbrev pub hidden_column : Query
hidden_column =
    record (of_orders (0 ∷ []) (codes "amt" ∷ [])) {
      grouped = true;
      keys = 1 ∷ [];
      aggregates = aggregate.Sum 2 ∷ [];
      orders = record { column = 1; descending = false } ∷ [];
    }

-- SELECT COUNT(*) FROM ord HAVING COUNT(*) > 1
abbrev pub counted : Query
counted =
    record (of_orders (0 ∷ []) (codes "COUNT(*)" ∷ [])) { grouped = true; aggregates = aggregate.CountAll ∷ []; having = Some (against comparison.Greater 0 1) }

-- SELECT cust AS amt, amt AS cust FROM ord ORDER BY amt
abbrev pub swapped : Query
swapped = record (of_orders (1 ∷ 2 ∷ []) (codes "amt" ∷ codes "cust" ∷ [])) { orders = record { column = 1; descending = false } ∷ [] }

-- the text is a statement that asks for these rows of the database
abbrev pub TextAsksFor : List ℕ → Db → List Row → Type 0
TextAsksFor text db rows = (select : Select) × TextCallsFor text (Ok select) × (select_rows select shop_schema db ≡ rows)

-- each customer with each amount, and one without an order with NULL
abbrev pub customers_with_amounts : List Row
customers_with_amounts =
    (value.Text (codes "Ann") ∷ number 5 ∷ []) ∷ (value.Text (codes "Ann") ∷ number 7 ∷ []) ∷ (value.Text (codes "Bob") ∷ value.Null ∷ []) ∷ (value.Text (codes "Cy") ∷ number 9 ∷ []) ∷ []
