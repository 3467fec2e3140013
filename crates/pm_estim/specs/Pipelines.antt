-- pipelines, and the driver nodes that feed them. A pipeline is a group of operators that run at the same time; it ends below an operator that
-- reads its child to the end first, and at the build side of a hash join
use Rattle.std.specs.Prelude.{ℕ, ◌+◌, Bool, true, false, not, if◌then◌else◌, List, [], ◌∷◌, ◌++◌}
use Rattle.pm_plan.specs.Tree.{Hash, Merge, Tree, Scan, Over, Join, Index, streams, list_in, sum_at}
use Rattle.pm_work.specs.Moments.{Gauges}
use Rattle.pm_bounds.specs.Bounds.{hi}

-- the root feeds its pipeline: a scan, a sort or a group
abbrev pub is_driver : Tree → Bool
is_driver (Scan table label) = true
is_driver (Over op child) = not (streams op)
is_driver (Join method on left right) = false
is_driver (Index left seek cond) = false

-- of each node in preorder
abbrev pub drivers_of : Tree → List Bool
drivers_of tree = list_in (λ t. is_driver t ∷ []) (λ left seek. false ∷ []) tree

-- how many pipelines begin below the root's own
abbrev pub cuts : Tree → ℕ
cuts (Scan table label) = 0
cuts (Over op child) = if streams op then cuts child else 1 + cuts child
cuts (Join (Hash pad) on left right) = cuts left + (1 + cuts right)
cuts (Join Merge on left right) = cuts left + cuts right
cuts (Index left seek cond) = cuts left

-- the number of each node's pipeline in preorder, from that of the root's own and from the next number: in preorder, each node at which a
-- pipeline begins takes the next number
abbrev pub pipes_from : ℕ → ℕ → Tree → List ℕ
pipes_from own next (Scan table label) = own ∷ []
pipes_from own next (Over op child) = own ∷ (if streams op then pipes_from own next child else pipes_from next (next + 1) child)
pipes_from own next (Join (Hash pad) on left right) =
    own ∷ (pipes_from own next left ++ pipes_from (next + cuts left) (next + cuts left + 1) right)
pipes_from own next (Join Merge on left right) = own ∷ (pipes_from own next left ++ pipes_from own (next + cuts left) right)
pipes_from own next (Index left seek cond) = own ∷ (pipes_from own next left ++ own ∷ [])

-- of a plan, whose root is in pipeline 1
abbrev pub pipes_of : Tree → List ℕ
pipes_of tree = pipes_from 1 2 tree

-- a number of each driver node, added up
abbrev pub driven : (Tree → ℕ → ℕ) → Tree → ℕ → ℕ
driven f tree n = sum_at (λ t m. if is_driver t then f t m else 0) (λ left seek m. 0) tree n

-- the rows that the driver nodes have handed out, and the upper bounds of all their rows
abbrev pub driven_handed : Tree → Gauges → ℕ
driven_handed tree G = driven (λ t m. (G m).handed) tree 1

abbrev pub driven_hi : Tree → Gauges → ℕ
driven_hi tree G = driven (λ t m. hi t m G) tree 1
