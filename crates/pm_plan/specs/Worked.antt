-- tables and parts of conditions and plans, for worked examples
use Rattle.std.specs.Prelude.{ℕ, pos, true, false, Bool, List, [], ◌∷◌, Option, None, Some, codes}
use Rattle.pm_values.specs.declared.value.Value.{Value}
use Rattle.pm_values.specs.declared.value.Value.TheVariants.{Null, Int, Text}
use Rattle.pm_values.specs.declared.value.Kind.TheVariants as kind
use Rattle.pm_values.specs.declared.table.ColumnDecl.{ColumnDecl}
use Rattle.pm_values.specs.declared.condition.Comparison.{Comparison}
use Rattle.pm_values.specs.declared.condition.Operand.TheVariants as operand
use Rattle.pm_values.specs.declared.condition.Cond.{Cond}
use Rattle.pm_values.specs.declared.condition.Cond.TheVariants as cond
use Rattle.pm_values.specs.Row.{Row}
use Rattle.pm_values.specs.Table.{Declaration, Relation}
use Rattle.pm_plan.specs.declared.plan.Label.{Label}
use Rattle.pm_plan.specs.declared.plan.Pair.{Pair}
use Rattle.pm_plan.specs.declared.plan.Unique.{Unique}
use Rattle.pm_plan.specs.Rows.{Db}
use Rattle.pm_plan.specs.Tree.{On}

-- ---- parts

abbrev pub number : ℕ → Value
number n = Int (pos n)

abbrev pub integer_column : List ℕ → ColumnDecl
integer_column name = record { name = name; kind = kind.Int; nullable = false }

abbrev pub text_column : List ℕ → ColumnDecl
text_column name = record { name = name; kind = kind.Text; nullable = true }

-- without references
abbrev pub declared : List ℕ → List ColumnDecl → Option (List ℕ) → Option (List ℕ) → Declaration
declared name columns key order = record { name = name; file = name; columns = columns; key = key; order = order; references = [] }

abbrev pub over : Declaration → List Row → Relation
over decl rows = record { decl = decl; rows = rows }

abbrev pub label : List ℕ → List ℕ → Label
label table alias = record { table = table; alias = alias }

-- a column against a number
abbrev pub against : Comparison → ℕ → ℕ → Cond
against how column n = cond.Compare how (operand.Column column 0) (operand.Literal (number n) 0)

abbrev pub pair : ℕ → ℕ → List Pair
pair left right = record { left = left; right = right } ∷ []

-- of a join that is not total
abbrev pub flags : Bool → Bool → Unique
flags left right = record { left = left; right = right; total = false }

-- pairs and flags of a join
abbrev pub on : List Pair → Unique → On
on pairs unique = record { pairs = pairs; unique = unique }

-- ---- customers and their orders

abbrev pub customer_columns : List ColumnDecl
customer_columns = integer_column (codes "id") ∷ text_column (codes "name") ∷ []

abbrev pub order_columns : List ColumnDecl
order_columns = integer_column (codes "id") ∷ integer_column (codes "cust") ∷ integer_column (codes "amt") ∷ []

abbrev pub customer_decl : Declaration
customer_decl = declared (codes "cust") customer_columns (Some (0 ∷ [])) None

abbrev pub order_decl : Declaration
order_decl = declared (codes "ord") order_columns (Some (0 ∷ [])) None

-- the same, ascending by id and by customer
abbrev pub ordered_customer_decl : Declaration
ordered_customer_decl = declared (codes "cust") customer_columns (Some (0 ∷ [])) (Some (0 ∷ []))

abbrev pub ordered_order_decl : Declaration
ordered_order_decl = declared (codes "ord") order_columns (Some (0 ∷ [])) (Some (1 ∷ []))

-- the orders refer to the customers
abbrev pub referring_order_decl : Declaration
referring_order_decl = record order_decl { references = record { columns = 1 ∷ []; target = codes "cust"; keys = 0 ∷ [] } ∷ [] }

abbrev pub customer_rows : List Row
customer_rows =
    (number 1 ∷ Text (codes "Ann") ∷ []) ∷ (number 2 ∷ Text (codes "Bob") ∷ []) ∷ (number 3 ∷ Text (codes "Cy") ∷ []) ∷ []

abbrev pub order_rows : List Row
order_rows =
    (number 10 ∷ number 1 ∷ number 5 ∷ []) ∷ (number 11 ∷ number 1 ∷ number 7 ∷ [])
    ∷ (number 12 ∷ number 3 ∷ number 9 ∷ []) ∷ (number 13 ∷ number 9 ∷ number 1 ∷ []) ∷ []

-- those whose customer is there
abbrev pub known_order_rows : List Row
known_order_rows =
    (number 10 ∷ number 1 ∷ number 5 ∷ []) ∷ (number 11 ∷ number 1 ∷ number 7 ∷ []) ∷ (number 12 ∷ number 3 ∷ number 9 ∷ []) ∷ []

-- orders, then customers
abbrev pub shop : Db
shop = over order_decl order_rows ∷ over customer_decl customer_rows ∷ []

abbrev pub ordered_shop : Db
ordered_shop = over ordered_order_decl order_rows ∷ over ordered_customer_decl customer_rows ∷ []

-- orders that refer to the customers, then customers
abbrev pub referring_shop : Db
referring_shop = over referring_order_decl known_order_rows ∷ over customer_decl customer_rows ∷ []

-- customers, then orders
abbrev pub customers_first : Db
customers_first = over customer_decl customer_rows ∷ over order_decl order_rows ∷ []

abbrev pub no_orders : Db
no_orders = over order_decl [] ∷ []

abbrev pub customers_alone : Db
customers_alone = over customer_decl customer_rows ∷ []

abbrev pub orders_alone : Db
orders_alone = over order_decl order_rows ∷ []

-- ---- three rows of one column

-- TABLE t FROM 't.csv' (a INT NOT NULL);
abbrev pub numbers_decl : Declaration
numbers_decl = record (declared (codes "t") (integer_column (codes "a") ∷ []) None None) { file = codes "t.csv" }

abbrev pub numbers : Relation
numbers = over numbers_decl ((number 7 ∷ []) ∷ (number 8 ∷ []) ∷ (number 9 ∷ []) ∷ [])

-- ---- a small table and one with a KEY

abbrev pub few_and_many : List Row → Db
few_and_many many =
    over (declared (codes "one") (integer_column (codes "x") ∷ []) None None) ((number 3 ∷ []) ∷ (number 40 ∷ []) ∷ [])
    ∷ over (declared (codes "big") (integer_column (codes "id") ∷ []) (Some (0 ∷ [])) None) many
    ∷ []

-- ---- two tables without a KEY

abbrev pub keyless : Db
keyless =
    over (declared (codes "a") (integer_column (codes "x") ∷ []) None None) ((number 5 ∷ []) ∷ (number 7 ∷ []) ∷ (number 5 ∷ []) ∷ [])
    ∷ over (declared (codes "b") (integer_column (codes "y") ∷ []) None None) ((number 5 ∷ []) ∷ (number 6 ∷ []) ∷ (number 5 ∷ []) ∷ [])
    ∷ []

-- ---- groups with NULLs

abbrev pub group_rows : List Row
group_rows =
    (number 1 ∷ Text (codes "b") ∷ number 5 ∷ []) ∷ (number 2 ∷ Null ∷ Null ∷ []) ∷ (number 3 ∷ Text (codes "a") ∷ number 2 ∷ [])
    ∷ (number 4 ∷ Null ∷ Null ∷ []) ∷ (number 5 ∷ Text (codes "b") ∷ number 1 ∷ []) ∷ []

abbrev pub groups : Db
groups =
    over (declared (codes "g") (integer_column (codes "id") ∷ text_column (codes "k") ∷ record { name = codes "v"; kind = kind.Int; nullable = true } ∷ []) (Some (0 ∷ [])) None)
    group_rows ∷ []
