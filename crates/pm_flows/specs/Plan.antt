-- the events of a tree as the iterators over it have them to come
use Rattle.std.specs.Prelude.{◌≡◌, ℕ, ◌+◌, ◌-◌, ◌<◌, ◌≤◌, ◌^◌, ◌==◌, Bool, true, false, ◌&&◌, if◌then◌else◌, List, [], ◌∷◌, ◌++◌, length, All, Option}
use Rattle.pm_values.specs.Row.{Row, AllBelow}
use Rattle.pm_values.specs.WellFormed.{IsWellFormed}
use Rattle.pm_values.specs.Table.{IsRelation, Relation}
use Rattle.pm_values.specs.declared.condition.Cond.{Cond}
use Rattle.pm_plan.specs.declared.plan.Node.{Node}
use Rattle.pm_plan.specs.declared.plan.Pair.{Pair}
use Rattle.pm_plan.specs.Rows.{Db, table_rows, decls_of}
use Rattle.pm_plan.specs.declared.plan.Aggregate.{Aggregate}
use Rattle.pm_plan.specs.Joins.{left_columns, right_columns, keys_of, join}
use Rattle.pm_joins.proofs.Ascending.{Ascend}
use Rattle.pm_plan.specs.Tree.{Unary, Filter, Project, Sort, Group, Method, Hash, Merge, Tree, Scan, Over, Join, Index, Each, streams, right_number}
use Rattle.pm_plan.specs.Preorder.{IsTreeAt}
use Rattle.pm_plan.specs.Kinds.{width}
use Rattle.pm_plan.specs.Outputs.{output, rows_over}
use Rattle.pm_plan.specs.Valid.{is_source, IsValidTree}
use Rattle.pm_work.specs.Events.{events}
use Rattle.pm_work.specs.Changes.{settled_by_row}
use Rattle.pm_flows.specs.Coming.{Coming, taken_read, rows_by, rows_in, streamed}
use Rattle.pm_blocks.specs.Limits.{AreFew, IsWithin}
use Rattle.pm_blocks.specs.SortedNumbers.{sort_columns}
use Rattle.pm_flows.specs.Hashed.{hashed}
use Rattle.pm_flows.specs.Merged.{merging}
use Rattle.pm_flows.specs.Sought.{IsWellFormedIf, looked_up}
use Rattle.pm_flows.specs.Flow.{Flow}

-- node n takes these events in before it hands out a row, the rows of its child after the first ones, and each step may take memory
abbrev pub taken_in : ℕ → (List Row → Row → ℕ) → List Row → List Coming → List Coming
taken_in n settles rows [] = []
taken_in n settles rows (e ∷ es) =
    if e.taken.node == n + 1
    then record { taken = taken_read n (settles rows e.row) 0 e.taken; row = e.row; free = false } ∷ taken_in n settles (rows ++ e.row ∷ []) es
    else record { taken = e.taken; row = e.row; free = false } ∷ taken_in n settles rows es

-- an operator over a child with these events: right after each row of the child what that row calls for, or all at the end
abbrev pub coming_over : Unary → ℕ → List Coming → List Coming
coming_over op n below =
    if streams op then streamed n (settled_by_row op []) (λ row. rows_over op (row ∷ [])) [] below
    else taken_in n (settled_by_row op) [] below ++ rows_by n false (rows_over op (rows_in (n + 1) below))

-- a join whose sides have these events, the right side having number r and rows of so many columns
abbrev pub coming_joined : Method → List Pair → ℕ → ℕ → ℕ → List Coming → List Coming → List Coming
coming_joined (Hash pad) pairs n r wide lefts rights = hashed n pad pairs r wide rights lefts
coming_joined Merge pairs n r wide lefts rights = merging n r pairs [] lefts rights

-- the events of a tree whose root has number n
abbrev pub coming : Db → Tree → ℕ → List Coming
coming db (Scan table label) n = rows_by n true (table_rows db table)
coming db (Over op child) n = coming_over op n (coming db child (n + 1))
coming db (Join method on left right) n =
    coming_joined method on.pairs n (right_number n left) (width (decls_of db) right) (coming db left (n + 1)) (coming db right (right_number n left))
coming db (Index left seek cond) n =
    looked_up cond n (right_number n left) seek.on.pairs (table_rows db seek.table) [] (coming db left (n + 1))

-- the step at the end takes no memory
abbrev pub ends_free : Tree → Bool
ends_free (Scan table label) = true
ends_free (Over op child) = streams op && ends_free child
ends_free (Join method on left right) = ends_free left && ends_free right
ends_free (Index left seek cond) = ends_free left

-- a group reads few enough rows for its aggregates
abbrev pub reads_few : Unary → List Row → Type 0
reads_few (Filter cond) rows = Unit {0}
reads_few (Project columns) rows = Unit {0}
reads_few (Sort keys) rows = Unit {0}
reads_few (Group keys items) rows = AreFew items rows

abbrev pub reads_few_at : Db → Tree → Type 0
reads_few_at db (Scan table label) = Unit {0}
reads_few_at db (Over op child) = reads_few op (output db child)
reads_few_at db (Join method on left right) = Unit {0}
reads_few_at db (Index left seek cond) = Unit {0}

-- each group of the tree does
abbrev pub GroupsReadFew : Db → Tree → Type 0
GroupsReadFew db tree = Each (reads_few_at db) (λ left seek. Unit {0}) tree

-- a valid tree stands at node n of the list, its events can be counted in 128 bits, and its groups read few enough rows
pub record IsRunnable (nodes : List Node) (db : Db) (n : ℕ) : Type 0 where
  pub some : 1 ≤ n
  pub tree : Tree
  pub stands : IsTreeAt nodes tree n
  pub tables : All IsRelation db
  pub operators : IsValidTree (decls_of db) tree
  pub few : length (events db tree n) < 2 ^ 128
  pub groups : GroupsReadFew db tree

-- an iterator of the tree's root, which has number n, has all events to come
pub record IsFresh (db : Db) (tree : Tree) (n : ℕ) (f : Flow) : Type 0 where
  pub node : f.node ≡ n
  pub small : n < 2 ^ 32
  pub rest : f.rest ≡ coming db tree n
  pub free_end : f.free_end ≡ ends_free tree
  pub width : length f.hand ≡ width (decls_of db) tree
  pub laid : length f.held.places ≡ length f.hand

-- what a group asks of its child's rows, which have so many columns
pub record CanGroup (keys : List ℕ) (items : List Aggregate) (wide : ℕ) (rows : List Row) : Type 0 where
  pub keys_within : AllBelow keys wide
  pub items_within : All (IsWithin wide) items
  pub narrow : length keys + length items < 2 ^ 32
  pub few : AreFew items rows

-- what an operator asks of the rows of its child
abbrev pub CanRead : Unary → ℕ → List Row → Type 0
CanRead (Filter cond) wide rows = IsWellFormed wide cond
CanRead (Project columns) wide rows = AllBelow columns wide
CanRead (Sort keys) wide rows = AllBelow (sort_columns keys) wide
CanRead (Group keys items) wide rows = CanGroup keys items wide rows

-- how many columns its rows have
abbrev pub wide_over : Unary → ℕ → ℕ
wide_over (Filter cond) wide = wide
wide_over (Project columns) wide = length columns
wide_over (Sort keys) wide = wide
wide_over (Group keys items) wide = length keys + length items

-- an iterator of node n, of an operator over a child that has handed out nothing
pub record IsOver (op : Unary) (n : ℕ) (child f : Flow) : Type 0 where
  pub node : f.node ≡ n
  pub rest : f.rest ≡ coming_over op n child.rest
  pub free_end : f.free_end ≡ (streams op && child.free_end)
  pub width : length f.hand ≡ wide_over op (length child.hand)
  pub laid : length f.held.places ≡ length f.hand

-- a valid scan, or a filter over one, stands at node n of the list
pub record IsSideAt (nodes : List Node) (db : Db) (n : ℕ) : Type 0 where
  pub tree : Tree
  pub stands : IsTreeAt nodes tree n
  pub tables : All IsRelation db
  pub operators : IsValidTree (decls_of db) tree
  pub source : is_source tree ≡ true

-- a side that has all events of this tree to come
pub record IsFreshSide (db : Db) (tree : Tree) (n : ℕ) (f : Flow) : Type 0 where
  pub node : f.node ≡ n
  pub rest : f.rest ≡ coming db tree n
  pub width : length f.hand ≡ width (decls_of db) tree
  pub room : length f.rest ≤ 2 ^ 25
  pub ends : ends_free tree ≡ true

-- what a join asks of its sides, which have handed out nothing
pub record CanJoin (n : ℕ) (pairs : List Pair) (l r : Flow) : Type 0 where
  pub left : l.node ≡ n + 1
  pub laid : length l.held.places ≡ length l.hand
  pub numbered : n + 1 < 2 ^ 32
  pub right : n + 1 < r.node
  pub narrow : length l.hand + length r.hand < 2 ^ 32
  pub lefts : AllBelow (left_columns pairs) (length l.hand)
  pub rights : AllBelow (right_columns pairs) (length r.hand)
  pub few : length pairs < 2 ^ 32
  pub room : length r.rest < 2 ^ 32 - 1

pub record MergesWell (pairs : List Pair) (lefts rights : List Row) : Type 0 where
  pub lefts_ascend : Ascend (keys_of (left_columns pairs) lefts)
  pub rights_ascend : Ascend (keys_of (right_columns pairs) rights)
  pub few : length (join pairs lefts rights) < 2 ^ 128

-- what a merge join asks besides: the keys of both sides ascend, and its rows can be counted in 128 bits
abbrev pub CanMerge : Method → ℕ → List Pair → Flow → Flow → Type 0
CanMerge (Hash pad) n pairs l r = Unit {0}
CanMerge Merge n pairs l r = MergesWell pairs (rows_in (n + 1) l.rest) (rows_in r.node r.rest)

abbrev pub joined : Method → ℕ → List Pair → Flow → Flow → List Coming
joined method n pairs left right = coming_joined method pairs n right.node (length right.hand) left.rest right.rest

-- an iterator of node n, of a join of these sides
pub record IsJoined (method : Method) (n : ℕ) (pairs : List Pair) (left right f : Flow) : Type 0 where
  pub node : f.node ≡ n
  pub rest : f.rest ≡ joined method n pairs left right
  pub free_end : f.free_end ≡ left.free_end
  pub width : length f.hand ≡ length left.hand + length right.hand
  pub laid : length f.held.places ≡ length f.hand

-- what an index join asks of its left side, which has handed out nothing, and of the table of its Seek
pub record CanLookUp (n seek : ℕ) (cond : Option Cond) (pairs : List Pair) (table : Relation) (l : Flow) : Type 0 where
  pub left : l.node ≡ n + 1
  pub numbered : n + 1 < 2 ^ 32
  pub behind : n + 1 < seek
  pub narrow : length l.hand + length table.decl.columns < 2 ^ 32
  pub lefts : AllBelow (left_columns pairs) (length l.hand)
  pub well_formed : IsWellFormedIf (length l.hand + length table.decl.columns) cond
  pub few : length (looked_up cond n seek pairs table.rows [] l.rest) < 2 ^ 128
  pub laid : length l.held.places ≡ length l.hand

-- an iterator of node n, of an index join of this left side
pub record IsLookedUp (n seek : ℕ) (cond : Option Cond) (pairs : List Pair) (table : Relation) (l f : Flow) : Type 0 where
  pub node : f.node ≡ n
  pub rest : f.rest ≡ looked_up cond n seek pairs table.rows [] l.rest
  pub free_end : f.free_end ≡ l.free_end
  pub width : length f.hand ≡ length l.hand + length table.decl.columns
  pub laid : length f.held.places ≡ length f.hand
