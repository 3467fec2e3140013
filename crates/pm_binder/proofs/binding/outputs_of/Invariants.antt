use Rattle.std.proofs.Common.{◌≡◌, take}
use Rattle.pm_binder.specs.Bound.{outputs_of}
use Rattle.pm_binder.proofs.binding.outputs_of.Given as goal

abbrev pub invariant-loop-placed : goal.invariant-loop-placed
invariant-loop-placed l = l.outputs ≡ outputs_of l.shape (take l.placed-index l.items)
