-- the kinds of the columns of each operator's rows, and the conditions, pairs and sums that fit them
use Rattle.std.specs.Prelude.{ℕ, Bool, true, false, not, ◌&&◌, nat_eq, nat_lt, nat_le, List, [], ◌++◌, map, length, get_or, slice_get, Option, None, Some}
use Rattle.std.specs.List.{list_all}
use Rattle.pm_values.specs.declared.value.Kind.{Kind}
use Rattle.pm_values.specs.declared.value.Kind.TheVariants as kind
use Rattle.pm_values.specs.declared.value.Value.TheVariants as value
use Rattle.pm_values.specs.declared.table.ColumnDecl.{ColumnDecl}
use Rattle.pm_values.specs.declared.condition.Operand.{Operand}
use Rattle.pm_values.specs.declared.condition.Operand.TheVariants as operand
use Rattle.pm_values.specs.declared.condition.Cond.{Cond, fold-Cond}
use Rattle.pm_values.specs.declared.condition.Cond.TheOpen.{Cond-F}
use Rattle.pm_values.specs.declared.condition.Cond.TheOpen as layer
use Rattle.pm_values.specs.Table.{Declaration}
use Rattle.pm_plan.specs.declared.plan.Aggregate.{Aggregate}
use Rattle.pm_plan.specs.declared.plan.Aggregate.TheVariants as aggregate
use Rattle.pm_plan.specs.declared.plan.Pair.{Pair}
use Rattle.pm_plan.specs.Tree.{Unary, Filter, Project, Sort, Group, Tree, Scan, Over, Join, Index}

-- the columns of a declared table, none past the last table
abbrev pub columns_or_none : Option Declaration → List ColumnDecl
columns_or_none None = []
columns_or_none (Some decl) = decl.columns

abbrev pub columns_of : List Declaration → ℕ → List ColumnDecl
columns_of decls table = columns_or_none (slice_get decls table)

abbrev pub table_kinds : List Declaration → ℕ → List Kind
table_kinds decls table = map (λ column. column.kind) (columns_of decls table)

-- the kind of a column, a whole number's past the end
abbrev pub kind_at : List Kind → ℕ → Kind
kind_at kinds column = get_or kinds column kind.Int

-- a count is a whole number; a sum, a least and a greatest value have the kind of their column
abbrev pub kind_of_item : List Kind → Aggregate → Kind
kind_of_item kinds aggregate.CountAll = kind.Int
kind_of_item kinds (aggregate.Count column) = kind.Int
kind_of_item kinds (aggregate.Sum column) = kind_at kinds column
kind_of_item kinds (aggregate.Min column) = kind_at kinds column
kind_of_item kinds (aggregate.Max column) = kind_at kinds column

-- of what an operator hands out, from its child's
abbrev pub kinds_over : Unary → List Kind → List Kind
kinds_over (Filter cond) kinds = kinds
kinds_over (Project columns) kinds = map (kind_at kinds) columns
kinds_over (Sort keys) kinds = kinds
kinds_over (Group keys items) kinds = map (kind_at kinds) keys ++ map (kind_of_item kinds) items

-- of the rows of the tree's root
abbrev pub kinds_of : List Declaration → Tree → List Kind
kinds_of decls (Scan table label) = table_kinds decls table
kinds_of decls (Over op child) = kinds_over op (kinds_of decls child)
kinds_of decls (Join method on left right) = kinds_of decls left ++ kinds_of decls right
kinds_of decls (Index left seek cond) = kinds_of decls left ++ table_kinds decls seek.table

-- how many columns they have
abbrev pub width : List Declaration → Tree → ℕ
width decls tree = length (kinds_of decls tree)

abbrev pub table_width : List Declaration → ℕ → ℕ
table_width decls table = length (columns_of decls table)

-- both whole numbers, both of the same scale, or both texts
abbrev pub same_kind : Kind → Kind → Bool
same_kind kind.Int kind.Int = true
same_kind (kind.Num s) (kind.Num t) = nat_eq s t
same_kind kind.Text kind.Text = true
same_kind _ _ = false

abbrev pub is_number : Kind → Bool
is_number kind.Int = true
is_number (kind.Num scale) = true
is_number kind.Text = false

abbrev pub scale_of : Kind → ℕ
scale_of kind.Int = 0
scale_of (kind.Num scale) = scale
scale_of kind.Text = 0

-- what an operand is: a column of a kind, or a literal
pub data OperandKind : Type 0 where
  OfColumn : (kind : Kind) → OperandKind
  OfNull : OperandKind
  OfNumber : OperandKind
  OfText : OperandKind

abbrev pub operand_kind : List Kind → Operand → OperandKind
operand_kind kinds (operand.Column at scale) = OfColumn (kind_at kinds at)
operand_kind kinds (operand.Literal value.Null scale) = OfNull
operand_kind kinds (operand.Literal (value.Int n) scale) = OfNumber
operand_kind kinds (operand.Literal (value.Text t) scale) = OfText

-- NULL fits all; columns of one kind fit; a number literal fits numbers, and a text literal texts
abbrev pub kinds_fit : OperandKind → OperandKind → Bool
kinds_fit OfNull _ = true
kinds_fit (OfColumn k) OfNull = true
kinds_fit OfNumber OfNull = true
kinds_fit OfText OfNull = true
kinds_fit (OfColumn k) (OfColumn l) = same_kind k l
kinds_fit (OfColumn k) OfNumber = is_number k
kinds_fit (OfColumn k) OfText = not (is_number k)
kinds_fit OfNumber (OfColumn k) = is_number k
kinds_fit OfNumber OfNumber = true
kinds_fit OfNumber OfText = false
kinds_fit OfText (OfColumn k) = not (is_number k)
kinds_fit OfText OfNumber = false
kinds_fit OfText OfText = true

-- a column of the row with the scale of its kind, or a literal of at most 6 decimals
abbrev pub operand_fits : List Kind → Operand → Bool
operand_fits kinds (operand.Column at scale) = nat_lt at (length kinds) && nat_eq scale (scale_of (kind_at kinds at))
operand_fits kinds (operand.Literal v scale) = nat_le scale 6

-- both sides of a comparison fit the row, and each other
abbrev pub comparison_fits : List Kind → Operand → Operand → Bool
comparison_fits kinds left right = operand_fits kinds left && operand_fits kinds right && kinds_fit (operand_kind kinds left) (operand_kind kinds right)

abbrev pub condition_layer : List Kind → Cond-F Bool → Bool
condition_layer kinds (layer.All members) = list_all (λ m. m) members
condition_layer kinds (layer.Any members) = list_all (λ m. m) members
condition_layer kinds (layer.Not part) = part
condition_layer kinds (layer.Compare how left right) = comparison_fits kinds left right
condition_layer kinds (layer.IsNull of) = operand_fits kinds of

-- each operand of the condition fits the row, and each comparison its two sides
abbrev pub condition_fits : List Kind → Cond → Bool
condition_fits kinds = fold-Cond Bool (condition_layer kinds)

abbrev pub condition_fits_if : List Kind → Option Cond → Bool
condition_fits_if kinds None = true
condition_fits_if kinds (Some cond) = condition_fits kinds cond

-- columns of the two sides, of one kind
abbrev pub pair_fits : List Kind → List Kind → Pair → Bool
pair_fits lefts rights pair =
    nat_lt pair.left (length lefts) && nat_lt pair.right (length rights) && same_kind (kind_at lefts pair.left) (kind_at rights pair.right)

-- the aggregate's column is one of the row, and a number where it is summed
abbrev pub item_fits : List Kind → Aggregate → Bool
item_fits kinds aggregate.CountAll = true
item_fits kinds (aggregate.Count column) = nat_lt column (length kinds)
item_fits kinds (aggregate.Sum column) = nat_lt column (length kinds) && is_number (kind_at kinds column)
item_fits kinds (aggregate.Min column) = nat_lt column (length kinds)
item_fits kinds (aggregate.Max column) = nat_lt column (length kinds)
