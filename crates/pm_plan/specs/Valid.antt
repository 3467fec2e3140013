-- the rules that a plan keeps for the tables that are declared
use Rattle.std.specs.Prelude.{◌≡◌, ◌≢◌, ◌≤◌, ◌<◌, ◌^◌, ℕ, Bool, true, false, ◌&&◌, ◌||◌, List, [], ◌∷◌, ◌++◌, length, map, take, nat_lt, slice_get, Option, None, Some}
use Rattle.std.specs.List.{list_all}
use Rattle.pm_values.specs.declared.value.Kind.{Kind}
use Rattle.pm_values.specs.declared.condition.Cond.{Cond}
use Rattle.pm_values.specs.Table.{Declaration}
use Rattle.pm_plan.specs.declared.plan.Plan.{Plan}
use Rattle.pm_plan.specs.declared.plan.Label.{Label}
use Rattle.pm_plan.specs.declared.plan.Pair.{Pair}
use Rattle.pm_plan.specs.declared.plan.Aggregate.{Aggregate}
use Rattle.pm_plan.specs.Joins.{left_columns, right_columns}
use Rattle.pm_plan.specs.Tree.{Unary, Filter, Project, Sort, Group, Method, Hash, Merge, On, Seek, Tree, Scan, Over, Join, Index, Each, list_in}
use Rattle.pm_plan.specs.Preorder.{tree_of, IsNumbered}
use Rattle.pm_plan.specs.Kinds.{kinds_of, width, table_kinds, table_width, condition_fits, condition_fits_if, pair_fits, item_fits}
use Rattle.pm_plan.specs.Flags.{join_flags, seek_flags}

-- the table is declared, and named so
abbrev pub IsNamed : Option Declaration → Label → Type 0
IsNamed None label = ⊥
IsNamed (Some decl) label = label.table ≡ decl.name

abbrev pub IsTable : List Declaration → ℕ → Label → Type 0
IsTable decls table label = IsNamed (slice_get decls table) label

abbrev pub are_below : ℕ → List ℕ → Bool
are_below wide columns = list_all (λ c. nat_lt c wide) columns

abbrev pub is_filter : Unary → Bool
is_filter (Filter cond) = true
is_filter (Project columns) = false
is_filter (Sort keys) = false
is_filter (Group keys items) = false

abbrev pub is_group : Unary → Bool
is_group (Filter cond) = false
is_group (Project columns) = false
is_group (Sort keys) = false
is_group (Group keys items) = true

-- no projection, sort or group stands in the tree, so it may stand below a join
abbrev pub is_joinable : Tree → Bool
is_joinable (Scan table label) = true
is_joinable (Over op child) = is_filter op && is_joinable child
is_joinable (Join method on left right) = is_joinable left && is_joinable right
is_joinable (Index left seek cond) = is_joinable left

abbrev pub has_group : Tree → Bool
has_group (Scan table label) = false
has_group (Over op child) = is_group op || has_group child
has_group (Join method on left right) = has_group left || has_group right
has_group (Index left seek cond) = has_group left

-- a scan, or a filter over a scan
abbrev pub is_source : Tree → Bool
is_source (Scan table label) = true
is_source (Over (Filter cond) (Scan table label)) = true
is_source _ = false

abbrev pub leftmost_table : Tree → ℕ
leftmost_table (Scan table label) = table
leftmost_table (Over op child) = leftmost_table child
leftmost_table (Join method on left right) = leftmost_table left
leftmost_table (Index left seek cond) = leftmost_table left

abbrev pub order_or_none : Option (List ℕ) → List ℕ
order_or_none None = []
order_or_none (Some order) = order

-- the columns of the ORDER, none where there is none
abbrev pub order_of : Option Declaration → List ℕ
order_of None = []
order_of (Some decl) = order_or_none decl.order

-- the ORDER of the table of the leftmost scan
abbrev pub leftmost_order : List Declaration → Tree → List ℕ
leftmost_order decls tree = order_of (slice_get decls (leftmost_table tree))

-- pairs of columns of one kind, at least one and fewer than 2^32
pub record PairsFit (lefts rights : List Kind) (pairs : List Pair) : Type 0 where
  pub some : pairs ≢ []
  pub few : length pairs < 2 ^ 32
  pub fit : list_all (pair_fits lefts rights) pairs ≡ true

-- the i-th pair is the i-th ORDER column of the leftmost table with the i-th of the right side's table
pub record IsOrdered (decls : List Declaration) (left right : Tree) (pairs : List Pair) : Type 0 where
  pub lefts : left_columns pairs ≡ take (length pairs) (leftmost_order decls left)
  pub rights : right_columns pairs ≡ take (length pairs) (leftmost_order decls right)

-- what the way of joining asks for besides
abbrev pub MethodFits : List Declaration → Method → Tree → Tree → List Pair → Type 0
MethodFits decls (Hash pad) left right pairs = Unit {0}
MethodFits decls Merge left right pairs = IsOrdered decls left right pairs

-- a join of two trees keeps the rules
pub record IsValidJoin (decls : List Declaration) (method : Method) (on : On) (left right : Tree) : Type 0 where
  pub pairs : PairsFit (kinds_of decls left) (kinds_of decls right) on.pairs
  pub flags : on.unique ≡ join_flags decls method left right on.pairs
  pub joinable : is_joinable left ≡ true
  pub source : is_source right ≡ true
  pub ordered : MethodFits decls method left right on.pairs

-- so does a Seek over its left side
pub record IsValidSeek (decls : List Declaration) (left : Tree) (seek : Seek) : Type 0 where
  pub named : IsTable decls seek.table seek.label
  pub pairs : PairsFit (kinds_of decls left) (table_kinds decls seek.table) seek.on.pairs
  pub flags : seek.on.unique ≡ seek_flags decls left seek.table seek.on.pairs
  pub narrow : table_width decls seek.table < 2 ^ 32

-- a group: its columns are those of its child, and above another group it computes nothing
pub record IsValidGroup (kinds : List Kind) (grouped : Bool) (keys : List ℕ) (items : List Aggregate) : Type 0 where
  pub columns : are_below (length kinds) keys ≡ true
  pub fit : list_all (item_fits kinds) items ≡ true
  pub alone : grouped ≡ true → items ≡ []

-- an operator over a child whose columns are of these kinds, and which has a group in it or not
abbrev pub IsValidOver : List Kind → Bool → Unary → Type 0
IsValidOver kinds grouped (Filter cond) = condition_fits kinds cond ≡ true
IsValidOver kinds grouped (Project columns) = are_below (length kinds) columns ≡ true
IsValidOver kinds grouped (Sort keys) = are_below (length kinds) (map (λ key. key.column) keys) ≡ true
IsValidOver kinds grouped (Group keys items) = IsValidGroup kinds grouped keys items

pub record IsValidIndex (decls : List Declaration) (left : Tree) (seek : Seek) (cond : Option Cond) : Type 0 where
  pub fits : condition_fits_if (kinds_of decls left ++ table_kinds decls seek.table) cond ≡ true
  pub joinable : is_joinable left ≡ true

-- the tree's root
abbrev pub IsValidRoot : List Declaration → Tree → Type 0
IsValidRoot decls (Scan table label) = IsTable decls table label
IsValidRoot decls (Over op child) = IsValidOver (kinds_of decls child) (has_group child) op
IsValidRoot decls (Join method on left right) = IsValidJoin decls method on left right
IsValidRoot decls (Index left seek cond) = IsValidIndex decls left seek cond

-- each node, all with fewer than 2^32 columns
abbrev pub IsValidTree : List Declaration → Tree → Type 0
IsValidTree decls tree = Each (λ t. IsValidRoot decls t × (width decls t < 2 ^ 32)) (λ left seek. IsValidSeek decls left seek) tree

-- the tables of the Scans and Seeks
abbrev pub root_table : Tree → List ℕ
root_table (Scan table label) = table ∷ []
root_table (Over op child) = []
root_table (Join method on left right) = []
root_table (Index left seek cond) = []

abbrev pub tables_of : Tree → List ℕ
tables_of tree = list_in root_table (λ left seek. seek.table ∷ []) tree

pub record IsValid (plan : Plan) (decls : List Declaration) : Type 0 where
  pub numbered : IsNumbered plan.nodes
  pub operators : IsValidTree decls (tree_of plan.nodes)
  pub few : length (tables_of (tree_of plan.nodes)) ≤ 8
  pub heads : length plan.heads ≡ width decls (tree_of plan.nodes)
  pub kinds : plan.kinds ≡ kinds_of decls (tree_of plan.nodes)
