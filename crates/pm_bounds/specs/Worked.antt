-- parts of worked examples of bounds
use Rattle.std.specs.Prelude.{ℕ, Bool, true, false, List, [], ◌∷◌, None, Some, codes}
use Rattle.pm_plan.specs.declared.gauge.Bound.{Bound}
use Rattle.pm_plan.specs.declared.gauge.Whole.{Whole}
use Rattle.pm_plan.specs.Rows.{Db}
use Rattle.pm_plan.specs.Tree.{Project, Method, Hash, Merge, Tree, Scan, Over, Join, Index}
use Rattle.pm_plan.specs.Worked.{declared, integer_column, over, number, label, pair, flags, on, numbers, customer_decl, customer_rows, order_decl, order_rows, ordered_customer_decl, ordered_order_decl}
use Rattle.pm_bounds.specs.Bounds.{whole_at}

abbrev pub enclosed : ℕ → ℕ → ℕ → Whole
enclosed work lo hi = record { work = work; lo = lo; hi = hi }

abbrev pub bound : ℕ → ℕ → Bound
bound lo hi = record { lo = lo; hi = hi }

-- after each of so many events, from the first of these on
abbrev pub wholes : Db → Tree → List ℕ → List Whole
wholes db tree [] = []
wholes db tree (t ∷ moments) = whole_at db tree t ∷ wholes db tree moments

-- SELECT * FROM t
abbrev pub three_rows : Db
three_rows = numbers ∷ []

abbrev pub three : Tree
three = Over (Project (0 ∷ [])) (Scan 0 (label (codes "t") (codes "t")))

-- SELECT c.name, o.amt FROM cust c JOIN ord o ON c.id = o.cust: the left side is unique
abbrev pub customers_with : Method → Tree
customers_with method =
    Over (Project (1 ∷ 4 ∷ []))
    (Join method (on (pair 0 1) (flags true false)) (Scan 0 (label (codes "cust") (codes "c"))) (Scan 1 (label (codes "ord") (codes "o"))))

-- SELECT c.name, o.amt FROM ord o JOIN cust c ON o.cust = c.id, where no reference says that an order's customer is there
abbrev pub unreferenced_join : Tree
unreferenced_join =
    Over (Project (4 ∷ 2 ∷ []))
    (Join (Hash false) (on (pair 1 0) (flags false true)) (Scan 0 (label (codes "ord") (codes "o"))) (Scan 1 (label (codes "cust") (codes "c"))))

abbrev pub customers_looked_up : Tree
customers_looked_up =
    Over (Project (1 ∷ 4 ∷ []))
    (Index (Scan 0 (label (codes "cust") (codes "c"))) (record { table = 1; label = label (codes "ord") (codes "o"); on = on (pair 0 1) (flags true false) }) None)

-- customers, then no orders
abbrev pub customers_without_orders : Db
customers_without_orders = over customer_decl customer_rows ∷ over order_decl [] ∷ []

-- the ordered tables, customers first
abbrev pub ordered_customers_first : Db
ordered_customers_first = over ordered_customer_decl customer_rows ∷ over ordered_order_decl order_rows ∷ []

-- 5, 5, 7 merged with 5, 5, 6, on columns that are no KEY
abbrev pub ordered_keyless : Db
ordered_keyless =
    over (declared (codes "a") (integer_column (codes "x") ∷ []) None (Some (0 ∷ []))) ((number 5 ∷ []) ∷ (number 5 ∷ []) ∷ (number 7 ∷ []) ∷ [])
    ∷ over (declared (codes "b") (integer_column (codes "y") ∷ []) None (Some (0 ∷ []))) ((number 5 ∷ []) ∷ (number 5 ∷ []) ∷ (number 6 ∷ []) ∷ [])
    ∷ []

abbrev pub keyless_merge : Tree
keyless_merge =
    Over (Project (0 ∷ 1 ∷ []))
    (Join Merge (on (pair 0 0) (flags false false)) (Scan 0 (label (codes "a") (codes "a"))) (Scan 1 (label (codes "b") (codes "b"))))

-- a table of one column, which has a KEY or not, joined to a tree on this column of it
abbrev pub and_table : ℕ → Bool → ℕ → Tree → Tree
and_table table keyed column left =
    Join (Hash false) (on (pair column 0) (flags false keyed)) left (Scan table (label (codes "t") (codes "t")))

-- tables of one column, each joined to the one before it, none with a KEY
abbrev pub five_tables : Tree
five_tables =
    and_table 4 false 3 (and_table 3 false 2 (and_table 2 false 1 (and_table 1 false 0 (Scan 0 (label (codes "t") (codes "t"))))))

abbrev pub first_column : Tree → Tree
first_column tree = Over (Project (0 ∷ [])) tree

-- two tables without a KEY, and two with one
abbrev pub two_keyed : Tree
two_keyed = first_column (and_table 3 true 0 (and_table 2 true 0 (and_table 1 false 0 (Scan 0 (label (codes "t") (codes "t"))))))
