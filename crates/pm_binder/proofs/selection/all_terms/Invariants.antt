use Rattle.std.proofs.Common.{◌≡◌}
use Rattle.pm_binder.specs.Grouping.{all_terms}
use Rattle.pm_binder.proofs.selection.all_terms.Given as goal

abbrev pub invariant-loop-column : goal.invariant-loop-column
invariant-loop-column l = l.terms ≡ all_terms l.column l.at
