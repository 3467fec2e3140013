use Rattle.std.proofs.Common.{◌≡◌, true, take}
use Rattle.std.specs.List.{list_any, list_all}
use Rattle.pm_plan.specs.References.{same_pair, paired}
use Rattle.pm_plan.specs.Fitting.{shifted}
use Rattle.pm_joining.proofs.references.are_compared.Given as goal

abbrev pub invariant-loop-i : goal.invariant-loop-i
invariant-loop-i l =
    list_all (λ other. list_any (λ pair. same_pair other (shifted l.from pair)) l.pairs) (take l.i (paired l.reference.columns l.reference.keys)) ≡ true
