use Rattle.std.proofs.Common.{◌≡◌, length}
use Rattle.pm_schema.specs.References.{may_all_refer}
use Rattle.pm_schema.proofs.references.may_all_refer.Given as goal

abbrev pub invariant-names : goal.invariant-names
invariant-names l = may_all_refer l.columns l.targets l.rest l.beside ≡ may_all_refer l.columns l.targets l.names l.keys

abbrev pub decreases-names : goal.decreases-names
decreases-names l = length l.rest
