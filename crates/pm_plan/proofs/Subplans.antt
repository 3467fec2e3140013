-- the columns of what stands in a list of nodes
use Rattle.std.proofs.Common.{◌≡◌, ℕ, ◌+◌, List, ◌++◌, max, ap}
use Rattle.std.specs.Prelude.{Option}
use Rattle.pm_values.specs.declared.condition.Cond.{Cond}
use Rattle.pm_values.specs.Table.{Declaration}
use Rattle.pm_plan.specs.declared.plan.Label.{Label}
use Rattle.pm_plan.specs.declared.plan.Node.{Node}
use Rattle.pm_plan.specs.Tree.{Method, On, Seek, Tree, Scan}
use Rattle.pm_plan.specs.Preorder.{Subplan, Rooted, Sought, IsTreeAt}
use Rattle.pm_plan.specs.Kinds.{kinds_of, table_kinds}
use Rattle.pm_plan.specs.Unique.{unique_table}
use Rattle.pm_plan.specs.Standing.{Stands, subplan_kinds, subplan_unique}
use Rattle.pm_plan.proofs.Inversion.{OverTwo, OverSeek, right_at, seek_at}

-- a Scan or a Seek of the table
pub record ReadsTable (p : Subplan) (table : ℕ) : Type 0 where
  pub kinds : (decls : List Declaration) → subplan_kinds decls p ≡ table_kinds decls table
  pub unique : (decls : List Declaration) (columns : List ℕ) → subplan_unique decls p columns ≡ unique_table decls table columns

pub scan_reads : (p : Subplan) (table : ℕ) (label : Label) → p ≡ Rooted (Scan table label) → ReadsTable p table
scan_reads p table label is = record { kinds = λ decls. ap (subplan_kinds decls) is; unique = λ decls columns. ap (λ q. subplan_unique decls q columns) is }

pub seek_reads : (p : Subplan) (s : Seek) → p ≡ Sought s → ReadsTable p s.table
seek_reads p s is = record { kinds = λ decls. ap (subplan_kinds decls) is; unique = λ decls columns. ap (λ q. subplan_unique decls q columns) is }

-- the two sides of a join or an Index, the right one at this number
pub record Sides (nodes : List Node) (p : Subplan) (n m : ℕ) : Type 0 where
  pub left_tree : Tree
  pub right_part : Subplan
  pub left_stands : IsTreeAt nodes left_tree (n + 1)
  pub right_stands : Stands nodes right_part m
  pub kinds : (decls : List Declaration) → subplan_kinds decls p ≡ kinds_of decls left_tree ++ subplan_kinds decls right_part

pub join_sides : (nodes : List Node) (p : Subplan) (n : ℕ) (method : Method) (on : On) (left right m : ℕ) → m ≡ max (n + 1) right
    → OverTwo nodes p n method on left right → Sides nodes p n m
join_sides nodes p n method on left right m at i =
    record {
      left_tree = i.left_tree;
      right_part = Rooted i.right_tree;
      left_stands = i.left_stands;
      right_stands = right_at nodes p n method on left right m i at;
      kinds = λ decls. ap (subplan_kinds decls) i.is;
    }

pub index_sides : (nodes : List Node) (p : Subplan) (n : ℕ) (cond : Option Cond) (left seek m : ℕ) → m ≡ max (n + 1) seek
    → OverSeek nodes p n cond left seek → Sides nodes p n m
index_sides nodes p n cond left seek m at i =
    record {
      left_tree = i.left_tree;
      right_part = Sought i.sought;
      left_stands = i.left_stands;
      right_stands = (n + 1, seek_at nodes p n cond left seek m i at);
      kinds = λ decls. ap (subplan_kinds decls) i.is;
    }
