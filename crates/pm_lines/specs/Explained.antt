-- the lines of what is known of a plan before it runs: the bounds of each operator with its pipeline, and those of the whole work
use Rattle.std.specs.Prelude.{ℕ, Bool, if◌then◌else◌, List, ◌++◌, codes, decimal}
use Rattle.pm_plan.specs.declared.gauge.Bound.{Bound}
use Rattle.pm_plan.specs.declared.gauge.Whole.{Whole}

-- of an operator, counted from 1, in a pipeline, and whether it feeds it
abbrev pub bound_line : ℕ → Bound → ℕ → Bool → List ℕ
bound_line node bound pipe driver =
    codes "B " ++ decimal node ++ codes " lo=" ++ decimal bound.lo ++ codes " hi=" ++ decimal bound.hi
    ++ codes " pipe=" ++ decimal pipe ++ codes " driver=" ++ (if driver then codes "yes" else codes "no") ++ codes "\n"

-- of the whole work, before the first event
abbrev pub first_line : Whole → List ℕ
first_line whole = codes "F lo=" ++ decimal whole.lo ++ codes " hi=" ++ decimal whole.hi ++ codes "\n"
