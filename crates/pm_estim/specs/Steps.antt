-- describes steps of bodies: how the nodes of a tree are given their pipelines
use Rattle.std.specs.Prelude.{◌≡◌, ℕ, ◌+◌, Bool, true, false, List, ◌++◌}
use Rattle.pm_plan.specs.declared.plan.Node.{Node}
use Rattle.pm_plan.specs.Tree.{Tree, Method, Hash, Merge}
use Rattle.pm_plan.specs.Preorder.{IsTreeAt}
use Rattle.pm_estim.specs.declared.pipes.Pipe.{Pipe}
use Rattle.pm_estim.specs.declared.pipes.Numbers.{Numbers}
use Rattle.pm_estim.specs.Pipelines.{cuts, pipes_from}
use Rattle.pm_estim.specs.Lists.{pipes_with}

-- a tree stands at number n
abbrev pub Stands : List Node → ℕ → Type 0
Stands nodes n = (t : Tree) × IsTreeAt nodes t n

-- the right side of a hash join is a pipeline of its own
abbrev pub is_built : Method → Bool
is_built (Hash pad) = true
is_built Merge = false

-- below a cut the next pipeline begins
abbrev pub numbers_below : Bool → Numbers → Numbers
numbers_below true numbers = record { own = numbers.next; next = numbers.next + 1 }
numbers_below false numbers = numbers

-- the tree's nodes are added, and this is the number of the pipeline that comes next
pub record IsPlaced (tree : Tree) (numbers : Numbers) (before after : List Pipe) (next : ℕ) : Type 0 where
  pub pipes : after ≡ before ++ pipes_with (pipes_from numbers.own numbers.next tree) tree
  pub comes : next ≡ numbers.next + cuts tree
