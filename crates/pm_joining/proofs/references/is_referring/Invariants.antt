use Rattle.std.proofs.Common.{◌≡◌, false, take}
use Rattle.std.specs.List.{list_any}
use Rattle.pm_plan.specs.References.{same_pair, paired}
use Rattle.pm_plan.specs.Fitting.{shifted}
use Rattle.pm_joining.proofs.references.is_referring.Given as goal

abbrev pub invariant-loop-i : goal.invariant-loop-i
invariant-loop-i l = list_any (same_pair (shifted l.from l.pair)) (take l.i (paired l.reference.columns l.reference.keys)) ≡ false
