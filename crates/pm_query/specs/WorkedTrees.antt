-- the trees that are built for the worked queries
use Rattle.std.specs.Prelude.{ℕ, true, false, List, [], ◌∷◌, Some, None, codes}
use Rattle.pm_values.specs.declared.condition.Comparison.TheVariants as comparison
use Rattle.pm_values.specs.declared.condition.Cond.TheVariants as cond
use Rattle.pm_values.specs.declared.condition.Operand.TheVariants as operand
use Rattle.pm_plan.specs.Tree.{Project, Filter, Hash, Merge, Seek, Tree, Scan, Over, Join, Index}
use Rattle.pm_plan.specs.Worked.{label, pair, flags, on, against}
use Rattle.pm_query.specs.Worked.{column_less, numbers_less}

-- a table by its place, its name and its alias
abbrev pub scan : ℕ → List ℕ → List ℕ → Tree
scan table name alias = Scan table (label name alias)

abbrev pub orders : Tree
orders = scan 0 (codes "ord") (codes "o")

abbrev pub few_scanned_by_hash : Tree
few_scanned_by_hash = Over (Project (1 ∷ [])) (Join (Hash false) (on (pair 0 0) (flags false true)) (scan 0 (codes "one") (codes "a")) (scan 1 (codes "big") (codes "b")))

abbrev pub items_with_prices : Tree
items_with_prices = Over (Project (0 ∷ 3 ∷ [])) (Join (Hash false) (on (pair 0 0) (flags true false)) (scan 0 (codes "item") (codes "i")) (scan 1 (codes "price") (codes "p")))

-- orders with their clients, joined by hash; the clients' own condition stands below the join
abbrev pub orders_with_clients : Tree
orders_with_clients = Join (Hash false) (on (pair 1 0) (flags false true)) orders (Over (Filter (against comparison.Greater 0 1)) (scan 1 (codes "client") (codes "c")))

-- the conditions that no source takes
abbrev pub left_over : Tree → Tree
left_over tree = Over (Project (0 ∷ 6 ∷ [])) (Over (Filter (cond.All (column_less 2 5 ∷ numbers_less ∷ []))) tree)

abbrev pub three_by_hash : Tree
three_by_hash = left_over (Join (Hash false) (on (pair 4 0) (flags false true)) orders_with_clients (scan 2 (codes "region") (codes "r")))

abbrev pub clients_sought : Seek
clients_sought = record { table = 1; label = label (codes "client") (codes "c"); on = on (pair 1 0) (flags false true) }

abbrev pub regions_sought : Seek
regions_sought = record { table = 2; label = label (codes "region") (codes "r"); on = on (pair 4 0) (flags false true) }

abbrev pub three_by_index : Tree
three_by_index = left_over (Index (Index orders clients_sought (Some (against comparison.Greater 3 1))) regions_sought None)

abbrev pub both_orders_merged : Tree
both_orders_merged = Over (Project (0 ∷ [])) (Join Merge (on (record { left = 1; right = 1 } ∷ record { left = 0; right = 0 } ∷ []) (flags false false)) (scan 0 (codes "t") (codes "x")) (scan 1 (codes "u") (codes "y")))

abbrev pub first_orders_merged : Tree
first_orders_merged = Over (Project (0 ∷ [])) (Join Merge (on (pair 1 1) (flags false false)) (scan 0 (codes "t") (codes "x")) (scan 1 (codes "u") (codes "y")))

abbrev pub second_order_by_hash : Tree
second_order_by_hash = Over (Project (0 ∷ [])) (Join (Hash false) (on (pair 0 0) (flags false false)) (scan 0 (codes "t") (codes "x")) (scan 1 (codes "u") (codes "y")))

abbrev pub sought_without_key : Tree
sought_without_key = Over (Project (0 ∷ [])) (Index (scan 0 (codes "t") (codes "x")) (record { table = 1; label = label (codes "u") (codes "y"); on = on (pair 0 0) (flags false false) }) None)

abbrev pub two_pairs_by_hash : Tree
two_pairs_by_hash = Over (Project (4 ∷ 2 ∷ [])) (Join (Hash false) (on (record { left = 1; right = 0 } ∷ record { left = 0; right = 0 } ∷ []) (flags true true)) orders (scan 1 (codes "cust") (codes "c")))

-- two tables without KEY, joined by hash
abbrev pub keyless_joined : Tree
keyless_joined = Join (Hash false) (on (pair 0 0) (flags false false)) (scan 0 (codes "a") (codes "a")) (scan 1 (codes "b") (codes "b"))

abbrev pub keyed_sought : Tree
keyed_sought = Over (Project (0 ∷ [])) (Index keyless_joined (record { table = 2; label = label (codes "big") (codes "c"); on = on (pair 0 0) (flags false true) }) None)

abbrev pub keyed_by_hash : Tree
keyed_by_hash = Over (Project (0 ∷ [])) (Join (Hash false) (on (pair 0 0) (flags false true)) keyless_joined (scan 2 (codes "big") (codes "c")))

abbrev pub orders_twice_joined : Tree
orders_twice_joined = Over (Project (0 ∷ [])) (Join (Hash false) (on (pair 0 0) (flags true true)) (Join (Hash false) (on (pair 1 0) (flags false true)) orders (scan 1 (codes "cust") (codes "c"))) (scan 0 (codes "ord") (codes "p")))

abbrev pub customers : Tree
customers = scan 0 (codes "cust") (codes "c")

abbrev pub padded_filtered_above : Tree
padded_filtered_above = Over (Project (1 ∷ 4 ∷ [])) (Over (Filter (cond.IsNull (operand.Column 4 0))) (Join (Hash true) (on (pair 0 1) (flags true false)) customers (scan 1 (codes "ord") (codes "o"))))

abbrev pub padded_right_filtered : Tree
padded_right_filtered = Over (Project (1 ∷ 4 ∷ [])) (Join (Hash true) (on (pair 0 1) (flags true false)) customers (Over (Filter (against comparison.Greater 2 5)) (scan 1 (codes "ord") (codes "o"))))

abbrev pub filtered_not_total : Tree
filtered_not_total = Over (Project (4 ∷ 2 ∷ [])) (Join (Hash false) (on (pair 1 0) (flags false true)) orders (Over (Filter (against comparison.Greater 0 1)) (scan 1 (codes "cust") (codes "c"))))
