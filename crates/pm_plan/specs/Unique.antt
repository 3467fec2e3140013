-- when the declarations say that no two rows of a tree agree in columns and hold no NULL there
use Rattle.std.specs.Prelude.{ℕ, Bool, false, ◌&&◌, nat_eq, nat_lt, List, filter, slice_get, Option, None, Some}
use Rattle.std.specs.List.{list_any, list_all}
use Rattle.pm_values.specs.Table.{Declaration}
use Rattle.pm_plan.specs.Joins.{right_columns}
use Rattle.pm_plan.specs.Kinds.{width}
use Rattle.pm_plan.specs.Tree.{Tree, Scan, Over, Join, Index, keeps_columns}

-- the KEY is there, and each of its columns is among these
abbrev pub key_within : List ℕ → Option (List ℕ) → Bool
key_within columns None = false
key_within columns (Some key) = list_all (λ k. list_any (nat_eq k) columns) key

abbrev pub key_of : Option Declaration → Option (List ℕ)
key_of None = None
key_of (Some decl) = decl.key

abbrev pub unique_table : List Declaration → ℕ → List ℕ → Bool
unique_table decls table columns = key_within columns (key_of (slice_get decls table))

-- the columns of the left side, which has so many
abbrev pub left_part : ℕ → List ℕ → List ℕ
left_part wide columns = filter (λ c. nat_lt c wide) columns

-- a join is unique where its right side is unique on the right columns of its pairs, and its left side on the left part of the columns
abbrev pub unique_on : List Declaration → Tree → List ℕ → Bool
unique_on decls (Scan table label) columns = unique_table decls table columns
unique_on decls (Over op child) columns = keeps_columns op && unique_on decls child columns
unique_on decls (Join method on left right) columns =
    unique_on decls right (right_columns on.pairs) && unique_on decls left (left_part (width decls left) columns)
unique_on decls (Index left seek cond) columns =
    unique_table decls seek.table (right_columns seek.on.pairs) && unique_on decls left (left_part (width decls left) columns)
