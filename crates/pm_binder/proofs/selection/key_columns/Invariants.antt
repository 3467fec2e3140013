use Rattle.std.proofs.Common.{◌≡◌, take}
use Rattle.pm_binder.specs.Grouping.{key_columns}
use Rattle.pm_binder.proofs.selection.key_columns.Given as goal

abbrev pub invariant-loop-name : goal.invariant-loop-name
invariant-loop-name l = l.keys ≡ key_columns l.known (take l.name-index l.groups)
