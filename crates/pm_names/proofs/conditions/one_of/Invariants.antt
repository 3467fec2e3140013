use Rattle.std.proofs.Common.{◌≡◌, map, take}
use Rattle.pm_names.specs.Conditions.{equals_literal}
use Rattle.pm_names.proofs.conditions.one_of.Given as goal

abbrev pub invariant-loop-literal : goal.invariant-loop-literal
invariant-loop-literal l = l.conds ≡ map (equals_literal l.known l.shape l.of) (take l.literal-index l.literals)
