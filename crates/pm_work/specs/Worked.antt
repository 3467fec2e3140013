-- plans for worked examples
use Rattle.std.specs.Prelude.{true, false, [], ◌∷◌, None, codes}
use Rattle.pm_values.specs.declared.table.Reference.{Reference}
use Rattle.pm_values.specs.declared.condition.Comparison.TheVariants as comparison
use Rattle.pm_plan.specs.declared.plan.Aggregate.TheVariants as aggregate
use Rattle.pm_plan.specs.declared.plan.Unique.{Unique}
use Rattle.pm_plan.specs.Tree.{Filter, Project, Sort, Group, Hash, Merge, Tree, Scan, Over, Join, Index, Seek}
use Rattle.pm_plan.specs.Worked.{label, against, pair, flags, on}

abbrev pub scan_orders : Tree
scan_orders = Scan 0 (label (codes "ord") (codes "o"))

abbrev pub scan_customers : Tree
scan_customers = Scan 1 (label (codes "cust") (codes "c"))

abbrev pub above_five : Tree
above_five = Over (Filter (against comparison.Greater 2 5)) scan_orders

abbrev pub seek_customers : Seek
seek_customers = record { table = 1; label = label (codes "cust") (codes "c"); on = on (pair 1 0) (flags false true) }

-- SELECT c.name, o.amt FROM ord o JOIN cust c ON o.cust = c.id WHERE o.amt > 5
abbrev pub hashed : Tree
hashed = Over (Project (4 ∷ 2 ∷ [])) (Join (Hash false) (on (pair 1 0) (flags false true)) above_five scan_customers)

abbrev pub sought_rows : Tree
sought_rows = Over (Project (4 ∷ 2 ∷ [])) (Index above_five seek_customers None)

-- the same without WHERE
abbrev pub sought_all : Tree
sought_all = Over (Project (4 ∷ 2 ∷ [])) (Index scan_orders seek_customers None)

abbrev pub merged_rows : Tree
merged_rows = Over (Project (4 ∷ 2 ∷ [])) (Join Merge (on (pair 1 0) (flags false true)) above_five scan_customers)

-- WHERE o.amt = 7
abbrev pub merged_few : Tree
merged_few = Over (Project (4 ∷ 2 ∷ [])) (Join Merge (on (pair 1 0) (flags false true)) (Over (Filter (against comparison.Equal 2 7)) scan_orders) scan_customers)

-- REFERENCES (cust) TO cust (id), of ord
abbrev pub customer_reference : Reference
customer_reference = record { columns = 1 ∷ []; target = codes "cust"; keys = 0 ∷ [] }

-- SELECT c.name, o.amt FROM ord o JOIN cust c ON o.cust = c.id, each order's customer being there
abbrev pub total_join : Tree
total_join =
    Over (Project (4 ∷ 2 ∷ []))
    (Join (Hash false) (on (pair 1 0) (record { left = false; right = true; total = true })) scan_orders scan_customers)

-- SELECT c.name, o.amt FROM cust c LEFT JOIN ord o ON o.cust = c.id
abbrev pub padded_join : Tree
padded_join =
    Over (Project (1 ∷ 4 ∷ []))
    (Join (Hash true) (on (pair 0 1) (flags true false)) (Scan 0 (label (codes "cust") (codes "c"))) (Scan 1 (label (codes "ord") (codes "o"))))

-- SELECT COUNT(*) FROM ord
abbrev pub counted : Tree
counted = Over (Project (0 ∷ [])) (Over (Group [] (aggregate.CountAll ∷ [])) (Scan 0 (label (codes "ord") (codes "ord"))))

-- SELECT id FROM ord
abbrev pub order_ids : Tree
order_ids = Over (Project (0 ∷ [])) (Scan 0 (label (codes "ord") (codes "ord")))

-- SELECT name FROM cust WHERE id >= 2
abbrev pub customers_from_two : Tree
customers_from_two =
    Over (Project (1 ∷ [])) (Over (Filter (against comparison.AtLeast 0 2)) (Scan 0 (label (codes "cust") (codes "cust"))))

-- SELECT cust, SUM(amt) AS t FROM ord GROUP BY cust ORDER BY t DESC, cust
abbrev pub summed : Tree
summed =
    Over (Project (0 ∷ 1 ∷ []))
    (Over (Sort (record { column = 1; descending = true } ∷ record { column = 0; descending = false } ∷ []))
    (Over (Group (1 ∷ []) (aggregate.Sum 2 ∷ [])) (Scan 0 (label (codes "ord") (codes "ord")))))

-- ---- a small table and one with a KEY

-- SELECT b.id FROM one a JOIN big b ON a.x = b.id, with these flags
abbrev pub looked_up_with : Unique → Tree
looked_up_with unique =
    Over (Project (1 ∷ []))
    (Index (Scan 0 (label (codes "one") (codes "a"))) (record { table = 1; label = label (codes "big") (codes "b"); on = on (pair 0 0) unique }) None)

abbrev pub looked_up : Tree
looked_up = looked_up_with (flags false true)

-- ---- two tables without a KEY

-- SELECT * FROM a JOIN b ON a.x = b.y
abbrev pub keyless_join : Tree
keyless_join =
    Over (Project (0 ∷ 1 ∷ []))
    (Join (Hash false) (on (pair 0 0) (flags false false)) (Scan 0 (label (codes "a") (codes "a"))) (Scan 1 (label (codes "b") (codes "b"))))

-- SELECT COUNT(*), a.x FROM a LEFT JOIN b ON a.x = b.y WHERE a.x > 5 GROUP BY a.x ORDER BY COUNT(*) DESC
abbrev pub counted_left_join : Tree
counted_left_join =
    Over (Project (1 ∷ 0 ∷ []))
    (Over (Sort (record { column = 1; descending = true } ∷ []))
    (Over (Group (0 ∷ []) (aggregate.CountAll ∷ []))
    (Join (Hash true) (on (pair 0 0) (flags false false)) (Over (Filter (against comparison.Greater 0 5)) (Scan 0 (label (codes "a") (codes "a")))) (Scan 1 (label (codes "b") (codes "b"))))))

-- SELECT * FROM a JOIN b ON a.x = b.y
abbrev pub looked_up_keyless : Tree
looked_up_keyless =
    Index (Scan 0 (label (codes "a") (codes "a"))) (record { table = 1; label = label (codes "b") (codes "b"); on = on (pair 0 0) (flags false false) }) None

-- ---- groups with NULLs

-- SELECT k, COUNT(*), COUNT(v), SUM(v) FROM g GROUP BY k
abbrev pub grouped_rows : Tree
grouped_rows =
    Over (Project (0 ∷ 1 ∷ 2 ∷ 3 ∷ []))
    (Over (Group (1 ∷ []) (aggregate.CountAll ∷ aggregate.Count 2 ∷ aggregate.Sum 2 ∷ [])) (Scan 0 (label (codes "g") (codes "g"))))

-- the same HAVING SUM(v) > 1
abbrev pub grouped_few : Tree
grouped_few =
    Over (Project (0 ∷ 1 ∷ 2 ∷ 3 ∷ []))
    (Over (Filter (against comparison.Greater 3 1))
    (Over (Group (1 ∷ []) (aggregate.CountAll ∷ aggregate.Count 2 ∷ aggregate.Sum 2 ∷ [])) (Scan 0 (label (codes "g") (codes "g")))))

-- SELECT DISTINCT k FROM g ORDER BY k DESC
abbrev pub distinct_rows : Tree
distinct_rows =
    Over (Sort (record { column = 0; descending = true } ∷ []))
    (Over (Group (0 ∷ []) []) (Over (Project (1 ∷ [])) (Scan 0 (label (codes "g") (codes "g")))))

-- SELECT x.id FROM g x JOIN g y ON x.k = y.k
abbrev pub paired_rows : Tree
paired_rows =
    Over (Project (0 ∷ []))
    (Join (Hash false) (on (pair 1 1) (flags false false)) (Scan 0 (label (codes "g") (codes "x"))) (Scan 0 (label (codes "g") (codes "y"))))
