-- describes steps of bodies: how check_plan reads the nodes of a list, and where a tree or a Seek stands in it
use Rattle.std.specs.Prelude.{◌≡◌, ◌+◌, ℕ, Bool, List, length, map, slice_get, Option, Some, IfSome}
use Rattle.pm_values.specs.declared.value.Kind.{Kind}
use Rattle.pm_values.specs.declared.value.Kind.TheVariants as kind
use Rattle.pm_values.specs.Table.{Declaration}
use Rattle.pm_plan.specs.declared.plan.Node.{Node}
use Rattle.pm_plan.specs.declared.plan.Pair.{Pair}
use Rattle.pm_plan.specs.declared.kinds.Origin.{Origin}
use Rattle.pm_plan.specs.declared.kinds.Origin.TheVariants as origin
use Rattle.pm_plan.specs.declared.uniqueness.Side.{Side}
use Rattle.pm_plan.specs.declared.uniqueness.Side.TheVariants as side
use Rattle.pm_plan.specs.declared.fits.OperandClass.{OperandClass}
use Rattle.pm_plan.specs.declared.fits.OperandClass.TheVariants as class
use Rattle.pm_plan.specs.Tree.{Seek, Tree, size}
use Rattle.pm_plan.specs.Preorder.{Subplan, Rooted, Sought, seek_node, node_at, IsTreeAt}
use Rattle.pm_plan.specs.Kinds.{kinds_of, table_kinds, kind_at, OperandKind, OfColumn, OfNull, OfNumber, OfText}
use Rattle.pm_plan.specs.Unique.{unique_on, unique_table, left_part}
use Rattle.pm_plan.specs.Flags.{scanned_table}

-- ---- a tree, or the Seek of an Index, in the list

-- node n of the list is a Seek of this left side
abbrev pub IsSeekAt : List Node → ℕ → ℕ → Type 0
IsSeekAt nodes n left = (s : Seek) × (node_at nodes n ≡ Some (seek_node s left))

-- node n of the list is the tree's root, or the Seek
abbrev pub Stands : List Node → Subplan → ℕ → Type 0
Stands nodes (Rooted t) n = IsTreeAt nodes t n
Stands nodes (Sought s) n = (left : ℕ) × (node_at nodes n ≡ Some (seek_node s left))

-- the number after the tree that stands at number n, none where no tree stands there
pub record IsEnd (nodes : List Node) (n : ℕ) (end : Option ℕ) : Type 0 where
  pub found : (t : Tree) → IsTreeAt nodes t n → end ≡ Some (n + size t)
  pub stands : IfSome end (λ e. (t : Tree) × IsTreeAt nodes t n × (e ≡ n + size t))

-- the kinds of its rows' columns
abbrev pub subplan_kinds : List Declaration → Subplan → List Kind
subplan_kinds decls (Rooted t) = kinds_of decls t
subplan_kinds decls (Sought s) = table_kinds decls s.table

abbrev pub subplan_width : List Declaration → Subplan → ℕ
subplan_width decls p = length (subplan_kinds decls p)

-- no two of its rows agree in the columns
abbrev pub subplan_unique : List Declaration → Subplan → List ℕ → Bool
subplan_unique decls (Rooted t) columns = unique_on decls t columns
subplan_unique decls (Sought s) columns = unique_table decls s.table columns

-- the table whose rows, all of them, are its own
abbrev pub subplan_table : Subplan → Option ℕ
subplan_table (Rooted t) = scanned_table t
subplan_table (Sought s) = Some s.table

-- ---- columns

-- the kind of a column that comes from a child's, if there is such a column
abbrev pub origin_kind : List Kind → Origin → Option Kind
origin_kind kinds (origin.Child column) = slice_get kinds column
origin_kind kinds (origin.Chosen column) = Some (kind_at kinds column)
origin_kind kinds origin.Count = Some kind.Int

-- the columns of one side of pairs
abbrev pub side_column : Side → Pair → ℕ
side_column side.Left pair = pair.left
side_column side.Right pair = pair.right

abbrev pub side_columns : Side → List Pair → List ℕ
side_columns side pairs = map (side_column side) pairs

-- the same columns of so many, in the same order
abbrev pub AgreeBelow : ℕ → List ℕ → List ℕ → Type 0
AgreeBelow wide a b = left_part wide a ≡ left_part wide b

-- what an operand is, as the code says it
abbrev pub operand_class : OperandClass → OperandKind
operand_class (class.Column k) = OfColumn k
operand_class class.Null = OfNull
operand_class class.Number = OfNumber
operand_class class.Text = OfText
