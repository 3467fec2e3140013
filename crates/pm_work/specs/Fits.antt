-- the plans that are run over a database
use Rattle.std.specs.Prelude.{◌≡◌, ℕ, true, map, length, slice_get, None, All}
use Rattle.pm_values.specs.Table.{IsRelation}
use Rattle.pm_values.specs.References.{ReferenceHolds}
use Rattle.pm_plan.specs.declared.plan.Plan.{Plan}
use Rattle.pm_plan.specs.Rows.{Db, table_rows, decls_of}
use Rattle.pm_plan.specs.Tree.{Tree}
use Rattle.pm_plan.specs.Preorder.{tree_of}
use Rattle.pm_plan.specs.References.{references_or_none, is_named}
use Rattle.pm_plan.specs.Valid.{tables_of, IsValidTree, IsValid}
use Rattle.pm_work.specs.First.{Sizes, too_wide}

abbrev pub sizes_of : Db → Sizes
sizes_of db = map (λ table. length table.rows) db

-- each reference of the first table to the second one, which is told by its name, holds of their rows
abbrev pub ReferencesBetween : Db → ℕ → ℕ → Type 0
ReferencesBetween db child parent =
    All (λ reference. is_named (slice_get (decls_of db) parent) reference.target ≡ true → ReferenceHolds reference (table_rows db child) (table_rows db parent))
    (references_or_none (slice_get (decls_of db) child))

-- the references between two tables that the tree names, or of one to itself
abbrev pub ReferencesHold : Db → Tree → Type 0
ReferencesHold db tree = All (λ child. All (ReferencesBetween db child) (tables_of tree)) (tables_of tree)

-- the tables are as they are declared, their references hold, and each operator of the tree keeps the rules
pub record IsSound (db : Db) (tree : Tree) : Type 0 where
  pub tables : All IsRelation db
  pub operators : IsValidTree (decls_of db) tree
  pub references : ReferencesHold db tree

-- the plan keeps the rules for the declared tables, its first bound is at most 10^34, no sum is taken over more than 10^18 rows, and the
-- references between the tables that it names hold
pub record Fits (plan : Plan) (db : Db) : Type 0 where
  pub valid : IsValid plan (decls_of db)
  pub narrow : too_wide (sizes_of db) (tree_of plan.nodes) ≡ None
  pub references : ReferencesHold db (tree_of plan.nodes)
