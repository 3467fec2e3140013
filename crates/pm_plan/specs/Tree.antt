-- a plan as a tree of operators, by the number of their children. A Seek is a part of its Index, and its number follows the last one of the
-- left side
use Rattle.std.specs.Prelude.{ℕ, ◌+◌, Bool, true, false, List, [], ◌∷◌, ◌++◌, Option}
use Rattle.pm_values.specs.declared.condition.Cond.{Cond}
use Rattle.pm_plan.specs.declared.plan.Label.{Label}
use Rattle.pm_plan.specs.declared.plan.Pair.{Pair}
use Rattle.pm_plan.specs.declared.plan.Unique.{Unique}
use Rattle.pm_plan.specs.declared.plan.SortKey.{SortKey}
use Rattle.pm_plan.specs.declared.plan.Aggregate.{Aggregate}

-- an operator over one child
pub data Unary : Type 0 where
  Filter : (cond : Cond) → Unary
  Project : (columns : List ℕ) → Unary
  Sort : (keys : List SortKey) → Unary
  Group : (keys : List ℕ) (items : List Aggregate) → Unary

-- how two sides are joined: by a hash table of the right side's rows, which may pad a left row without a match, or by merging
pub data Method : Type 0 where
  Hash : (pad : Bool) → Method
  Merge : Method

-- the pairs of columns that a join compares, and what the declarations say of its sides there
pub record On : Type 0 where
  pub pairs : List Pair
  pub unique : Unique

pub record Seek : Type 0 where
  pub table : ℕ
  pub label : Label
  pub on : On

pub data Tree : Type 0 where
  Scan : (table : ℕ) (label : Label) → Tree
  Over : (op : Unary) (child : Tree) → Tree
  Join : (method : Method) (on : On) (left right : Tree) → Tree
  Index : (left : Tree) (seek : Seek) (cond : Option Cond) → Tree

-- how many nodes it has
abbrev pub size : Tree → ℕ
size (Scan table label) = 1
size (Over op child) = 1 + size child
size (Join method on left right) = 1 + (size left + size right)
size (Index left seek cond) = 2 + size left

-- the number of the right side of a join that has number n, and of the Seek of an Index that has number n
abbrev pub right_number : ℕ → Tree → ℕ
right_number n left = n + 1 + size left

-- it hands out rows of its child, all columns of them
abbrev pub keeps_columns : Unary → Bool
keeps_columns (Filter cond) = true
keeps_columns (Project columns) = false
keeps_columns (Sort keys) = true
keeps_columns (Group keys items) = false

-- it hands out what a row of its child calls for right after that row; the others read their child to its end first
abbrev pub streams : Unary → Bool
streams (Filter cond) = true
streams (Project columns) = true
streams (Sort keys) = false
streams (Group keys items) = false

-- a left row without a match is handed out with NULLs
abbrev pub pads : Method → Bool
pads (Hash pad) = pad
pads Merge = false

-- ---- walks over a tree: a Seek is told by its left side, and in the walks with numbers by the number of its Index

-- a fact of each node
abbrev pub Each : (Tree → Type 0) → (Tree → Seek → Type 0) → Tree → Type 0
Each P S (Scan table label) = P (Scan table label)
Each P S (Over op child) = P (Over op child) × Each P S child
Each P S (Join method on left right) = P (Join method on left right) × Each P S left × Each P S right
Each P S (Index left seek cond) = P (Index left seek cond) × S left seek × Each P S left

-- a fact of each node and its number, the root having number n
abbrev pub EachAt : (Tree → ℕ → Type 0) → (Tree → Seek → ℕ → Type 0) → Tree → ℕ → Type 0
EachAt P S (Scan table label) n = P (Scan table label) n
EachAt P S (Over op child) n = P (Over op child) n × EachAt P S child (n + 1)
EachAt P S (Join method on left right) n =
    P (Join method on left right) n × EachAt P S left (n + 1) × EachAt P S right (right_number n left)
EachAt P S (Index left seek cond) n = P (Index left seek cond) n × S left seek n × EachAt P S left (n + 1)

-- a number for each node, added up
abbrev pub sum_in : (Tree → ℕ) → (Tree → Seek → ℕ) → Tree → ℕ
sum_in f s (Scan table label) = f (Scan table label)
sum_in f s (Over op child) = f (Over op child) + sum_in f s child
sum_in f s (Join method on left right) = f (Join method on left right) + (sum_in f s left + sum_in f s right)
sum_in f s (Index left seek cond) = f (Index left seek cond) + (sum_in f s left + s left seek)

abbrev pub sum_at : (Tree → ℕ → ℕ) → (Tree → Seek → ℕ → ℕ) → Tree → ℕ → ℕ
sum_at f s (Scan table label) n = f (Scan table label) n
sum_at f s (Over op child) n = f (Over op child) n + sum_at f s child (n + 1)
sum_at f s (Join method on left right) n =
    f (Join method on left right) n + (sum_at f s left (n + 1) + sum_at f s right (right_number n left))
sum_at f s (Index left seek cond) n = f (Index left seek cond) n + (sum_at f s left (n + 1) + s left seek n)

-- items for each node, in preorder
abbrev pub list_in : {A : Type 0} → (Tree → List A) → (Tree → Seek → List A) → Tree → List A
list_in f s (Scan table label) = f (Scan table label)
list_in f s (Over op child) = f (Over op child) ++ list_in f s child
list_in f s (Join method on left right) = f (Join method on left right) ++ (list_in f s left ++ list_in f s right)
list_in f s (Index left seek cond) = f (Index left seek cond) ++ (list_in f s left ++ s left seek)

-- one item for each node, in preorder
abbrev pub list_at : {A : Type 0} → (Tree → ℕ → A) → (Tree → Seek → ℕ → A) → Tree → ℕ → List A
list_at f s (Scan table label) n = f (Scan table label) n ∷ []
list_at f s (Over op child) n = f (Over op child) n ∷ list_at f s child (n + 1)
list_at f s (Join method on left right) n =
    f (Join method on left right) n ∷ (list_at f s left (n + 1) ++ list_at f s right (right_number n left))
list_at f s (Index left seek cond) n = f (Index left seek cond) n ∷ (list_at f s left (n + 1) ++ s left seek n ∷ [])
