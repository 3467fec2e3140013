use Rattle.std.proofs.Common.{◌≡◌, ◌+◌, fold, length}
use Rattle.pm_schema.specs.Rules.{breaches_from, breaches, earlier}
use Rattle.pm_schema.proofs.rules.check.Given as goal

abbrev pub invariant-items : goal.invariant-items
invariant-items g l = record {
  found : fold earlier l.found (breaches_from g.N.Named.name_of l.rule l.fault l.columns l.items l.i l.rest) ≡ fold earlier l.fn.so_far (breaches g.N.Named.name_of l.rule l.fault l.columns l.items);
  place : l.i + length l.rest ≡ length l.items;
}

abbrev pub decreases-items : goal.decreases-items
decreases-items g l = length l.rest
