use Rattle.std.proofs.Common.{refl}
use Rattle.pm_plan.specs.Preorder.{Rooted}
use Rattle.pm_plan.specs.Joins.{left_columns}
use Rattle.pm_plan.proofs.valid.flags_of.Goals as goal

pub returns : goal.returns
returns c =
    λ l h small. let left = c.is_unique_at.ensures (Rooted l) (left_columns c.args.pairs.now) h refl in
    let total = c.refers_if.ensures l h small in cc
