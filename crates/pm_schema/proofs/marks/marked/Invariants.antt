use Rattle.std.proofs.Common.{◌≡◌, ◌++◌, length}
use Rattle.pm_schema.specs.Terminals.{marked}
use Rattle.pm_schema.proofs.marks.marked.Given as goal

abbrev pub invariant-tokens : goal.invariant-tokens
invariant-tokens l = l.seen ++ marked l.rest ≡ marked l.initial.tokens

abbrev pub decreases-tokens : goal.decreases-tokens
decreases-tokens l = length l.rest
