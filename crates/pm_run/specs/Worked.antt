-- a plan for worked examples
use Rattle.std.specs.Prelude.{[], ◌∷◌, codes}
use Rattle.pm_values.specs.declared.value.Kind.TheVariants as kind
use Rattle.pm_plan.specs.declared.plan.Plan.{Plan}
use Rattle.pm_plan.specs.Preorder.{nodes_of}
use Rattle.pm_work.specs.Worked.{hashed}

-- SELECT c.name, o.amt FROM ord o JOIN cust c ON o.cust = c.id WHERE o.amt > 5
abbrev pub hashed_plan : Plan
hashed_plan = record { nodes = nodes_of hashed 1; heads = codes "name" ∷ codes "amt" ∷ []; kinds = kind.Text ∷ kind.Int ∷ [] }
