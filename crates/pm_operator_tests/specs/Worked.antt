-- plans for the tests
use Rattle.std.specs.Prelude.{false, [], ◌∷◌, None, Some, codes}
use Rattle.pm_values.specs.declared.condition.Comparison.TheVariants as comparison
use Rattle.pm_plan.specs.Rows.{Db}
use Rattle.pm_plan.specs.Tree.{Filter, Hash, Merge, Tree, Scan, Over, Join}
use Rattle.pm_plan.specs.Worked.{against, declared, flags, integer_column, label, number, on, over, pair}

-- SELECT * FROM a JOIN b ON a.x = b.y WHERE b.y > 9
abbrev pub joined_with_none : Tree
joined_with_none =
    Join (Hash false) (on (pair 0 0) (flags false false)) (Scan 0 (label (codes "a") (codes "a")))
    (Over (Filter (against comparison.Greater 0 9)) (Scan 1 (label (codes "b") (codes "b"))))

-- two tables whose rows ascend
abbrev pub ascending : Db
ascending =
    over (declared (codes "a") (integer_column (codes "x") ∷ []) None (Some (0 ∷ []))) ((number 5 ∷ []) ∷ (number 5 ∷ []) ∷ (number 7 ∷ []) ∷ [])
    ∷ over (declared (codes "b") (integer_column (codes "y") ∷ []) None (Some (0 ∷ []))) ((number 5 ∷ []) ∷ (number 5 ∷ []) ∷ (number 6 ∷ []) ∷ (number 9 ∷ []) ∷ (number 9 ∷ []) ∷ [])
    ∷ []

-- SELECT * FROM a JOIN b ON a.x = b.y
abbrev pub merged_pairs : Tree
merged_pairs = Join Merge (on (pair 0 0) (flags false false)) (Scan 0 (label (codes "a") (codes "a"))) (Scan 1 (label (codes "b") (codes "b")))
