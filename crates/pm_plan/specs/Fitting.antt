-- describes steps of bodies: the rules of valid plans as they are tested
use Rattle.std.specs.Prelude.{◌≡◌, ℕ, ◌-◌, Bool, true, false, if◌then◌else◌, List, Option, None}
use Rattle.pm_values.specs.Table.{Declaration}
use Rattle.pm_plan.specs.declared.plan.Pair.{Pair}
use Rattle.pm_plan.specs.declared.plan.Unique.{Unique}
use Rattle.pm_plan.specs.declared.plan.Node.{Node}
use Rattle.pm_plan.specs.declared.plan.Node.TheVariants as node
use Rattle.pm_plan.specs.Joins.{right_columns}
use Rattle.pm_plan.specs.Tree.{Tree, Scan, Over, Join, Index}
use Rattle.pm_plan.specs.Preorder.{Subplan}
use Rattle.pm_plan.specs.Kinds.{kinds_of}
use Rattle.pm_plan.specs.References.{Entry}
use Rattle.pm_plan.specs.Flags.{flags_of}
use Rattle.pm_plan.specs.Valid.{PairsFit, IsValidSeek, IsValidTree}
use Rattle.pm_plan.specs.Standing.{subplan_kinds, subplan_unique, subplan_table}

-- the tree is a Scan
abbrev pub is_scan : Tree → Bool
is_scan (Scan table label) = true
is_scan (Over op child) = false
is_scan (Join method on left right) = false
is_scan (Index left seek cond) = false

-- an entry that no left join pads
abbrev pub unpadded : ℕ → ℕ → Entry
unpadded table from = record { table = table; from = from; padded = false }

-- a pair with its left column counted from this one on
abbrev pub shifted : ℕ → Pair → Pair
shifted from pair = record { left = pair.left - from; right = pair.right }

-- the table whose rows, all of them, a right side has, none where the join pads
abbrev pub whole_table : Bool → Subplan → Option ℕ
whole_table pad q = if pad then None else subplan_table q

-- pairs of two sides, and their flags
pub record IsPaired (decls : List Declaration) (pad : Bool) (l : Tree) (q : Subplan) (pairs : List Pair) (unique : Unique) : Type 0 where
  pub fit : PairsFit (kinds_of decls l) (subplan_kinds decls q) pairs
  pub flags : unique ≡ flags_of decls l pairs (subplan_unique decls q (right_columns pairs)) (whole_table pad q)

-- the Seek of the tree's root is valid, where that is an Index
abbrev pub HasSeek : List Declaration → Tree → Type 0
HasSeek decls (Scan table label) = Unit {0}
HasSeek decls (Over op child) = Unit {0}
HasSeek decls (Join method on left right) = Unit {0}
HasSeek decls (Index left seek cond) = IsValidSeek decls left seek

-- the nodes below the tree's root are valid
abbrev pub AreBelow : List Declaration → Tree → Type 0
AreBelow decls (Scan table label) = Unit {0}
AreBelow decls (Over op child) = IsValidTree decls child
AreBelow decls (Join method on left right) = IsValidTree decls left × IsValidTree decls right
AreBelow decls (Index left seek cond) = IsValidTree decls left

-- a Scan or a Seek
abbrev pub reads_table : Node → Bool
reads_table (node.Scan table label) = true
reads_table (node.Seek left table pairs label unique) = true
reads_table _ = false
