-- the counts that can stand at one moment of a run: no node has handed out more than its output, nor more than is settled, nor before the
-- rows that it has to read first
use Rattle.std.specs.Prelude.{◌≡◌, ℕ, ◌+◌, ◌<◌, ◌≤◌, length}
use Rattle.pm_plan.specs.Rows.{Db}
use Rattle.pm_plan.specs.Tree.{Unary, Filter, Project, Sort, Group, Method, Hash, Merge, Tree, Scan, Over, Join, Index, Seek, right_number, EachAt}
use Rattle.pm_plan.specs.Outputs.{output, sought}
use Rattle.pm_work.specs.Moments.{Counts, settled, seek_settled}

-- a sort hands out no more rows than it has read, and none before it has read all
pub record SortIsOrderly (count read rows : ℕ) : Type 0 where
  pub within : count ≤ read
  pub waits : 0 < count → read ≡ rows

-- an operator that has handed out so many rows, with so many settled, over a child that has handed out so many of its rows
abbrev pub OverIsOrderly : Unary → ℕ → ℕ → ℕ → ℕ → Type 0
OverIsOrderly (Filter cond) count settled read rows = count ≤ settled
OverIsOrderly (Project columns) count settled read rows = count ≤ read
OverIsOrderly (Sort keys) count settled read rows = SortIsOrderly count read rows
OverIsOrderly (Group keys items) count settled read rows = 0 < count → read ≡ rows

-- a hash join reads its right side to the end before its left side
abbrev pub JoinIsOrderly : Method → ℕ → ℕ → ℕ → Type 0
JoinIsOrderly (Hash pad) left_count right_count right_rows = 0 < left_count → right_count ≡ right_rows
JoinIsOrderly Merge left_count right_count right_rows = Unit {0}

-- what holds at the tree's root beside that it is within its output
abbrev pub RootIsOrderly : Db → Tree → ℕ → Counts → Type 0
RootIsOrderly db (Scan table label) n K = Unit {0}
RootIsOrderly db (Over op child) n K = OverIsOrderly op (K n) (settled db (Over op child) n K) (K (n + 1)) (length (output db child))
RootIsOrderly db (Join method on left right) n K =
    (K n ≤ settled db (Join method on left right) n K)
    × JoinIsOrderly method (K (n + 1)) (K (right_number n left)) (length (output db right))
RootIsOrderly db (Index left seek cond) n K = K n ≤ settled db (Index left seek cond) n K

pub record IsOrderly (db : Db) (tree : Tree) (n : ℕ) (K : Counts) : Type 0 where
  pub within : K n ≤ length (output db tree)
  pub root : RootIsOrderly db tree n K

-- the Seek of Index n
pub record SeekIsOrderly (db : Db) (left : Tree) (seek : Seek) (n : ℕ) (K : Counts) : Type 0 where
  pub within : K (right_number n left) ≤ length (sought db seek (output db left))
  pub settled : K (right_number n left) ≤ seek_settled db left seek n K

-- of each node
abbrev pub Orderly : Db → Tree → ℕ → Counts → Type 0
Orderly db tree n K = EachAt (λ t m. IsOrderly db t m K) (λ left seek m. SeekIsOrderly db left seek m K) tree n
