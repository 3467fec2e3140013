use Rattle.std.proofs.Common.{◌≤◌, ◌-◌, length}
use Rattle.pm_grammar.specs.Lists.{ReadsSeries}
use Rattle.pm_grammar.proofs.Decided.{Continues}
use Rattle.pm_grammar.proofs.entries.further_series.Given as goal

abbrev pub invariant-entries : goal.invariant-entries
invariant-entries g l = Continues (ReadsSeries g.E.Series.starts g.E.Series.separates g.E.Series.peeks g.E.Series.reads l.limit) l.list l.rest l.initial.list l.initial.rest × (length l.rest ≤ l.end - l.counter)
