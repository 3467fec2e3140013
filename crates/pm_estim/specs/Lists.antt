-- the pipelines of a plan's nodes as a list in preorder, and what a progress line shows, from lists
use Rattle.std.specs.Prelude.{◌≡◌, ℕ, if◌then◌else◌, List, length, map, sum_by}
use Rattle.std.specs.List.{zip}
use Rattle.pm_plan.specs.declared.gauge.Gauge.{Gauge}
use Rattle.pm_plan.specs.declared.gauge.Bound.{Bound}
use Rattle.pm_plan.specs.declared.gauge.Whole.{Whole}
use Rattle.pm_plan.specs.declared.gauge.Shown.{Shown}
use Rattle.pm_plan.specs.Tree.{Tree, size}
use Rattle.pm_work.specs.Moments.{gauge_in}
use Rattle.pm_bounds.specs.Bounds.{bounds_of, whole_of}
use Rattle.pm_estim.specs.declared.pipes.Pipe.{Pipe}
use Rattle.pm_estim.specs.Pipelines.{pipes_of, drivers_of}
use Rattle.pm_estim.specs.Estimates.{safe_root}

-- each node's pipeline with whether the node feeds it
abbrev pub pipes_with : List ℕ → Tree → List Pipe
pipes_with numbers tree = map (λ p. record { number = p.0; driver = p.1 }) (zip numbers (drivers_of tree))

abbrev pub pipes_in : Tree → List Pipe
pipes_in tree = pipes_with (pipes_of tree) tree

-- the sum of a number of each driver node
abbrev pub driven_sum : {X : Type 0} → (X → ℕ) → List Pipe → List X → ℕ
driven_sum value pipes items = sum_by (λ p. if p.0.driver then value p.1 else 0) (zip pipes items)

-- dne is the count of the driver nodes over their upper bounds
abbrev pub estimated : List Pipe → List Gauge → List Bound → Whole → Shown
estimated pipes gauges bounds whole =
    record {
      work = whole.work;
      lo = whole.lo;
      hi = whole.hi;
      dne_num = driven_sum (λ g. g.handed) pipes gauges;
      dne_den = driven_sum (λ b. b.hi) pipes bounds;
      safe_den = safe_root whole.lo whole.hi;
    }

-- the lists are those of the tree: its pipelines, a gauge for each node, and the bounds and sums that follow from these
pub record AreOf (tree : Tree) (pipes : List Pipe) (gauges : List Gauge) (bounds : List Bound) (whole : Whole) : Type 0 where
  pub pipes_are : pipes ≡ pipes_in tree
  pub each_node : length gauges ≡ size tree
  pub bounds_are : bounds ≡ bounds_of tree 1 (gauge_in gauges)
  pub whole_is : whole ≡ whole_of tree (gauge_in gauges)
