use Rattle.std.proofs.Common.{◌≡◌, [], take}
use Rattle.std.specs.List.{flat_map}
use Rattle.pm_syntax.specs.declared.tree.Atom.TheVariants as atom
use Rattle.pm_names.specs.Kinds.{kind_breaches}
use Rattle.pm_names.proofs.kinds.check_literals.Given as goal

abbrev pub invariant-loop-literal : goal.invariant-loop-literal
invariant-loop-literal l = flat_map (λ x. kind_breaches l.known l.of (atom.Literal x) l.at) (take l.literal-index l.literals) ≡ []
