use Rattle.std.proofs.Common.{◌≤◌, ◌-◌, length}
use Rattle.pm_grammar.specs.Lists.{ReadsFurther}
use Rattle.pm_grammar.proofs.Decided.{Continues}
use Rattle.pm_grammar.proofs.entries.further.Given as goal

abbrev pub invariant-entries : goal.invariant-entries
invariant-entries g l = Continues (ReadsFurther (g.T.Terminal.accepts l.separator) g.E.Entry.peeks g.E.Entry.reads l.limit) l.list l.rest l.initial.list l.initial.rest × (length l.rest ≤ l.end - l.counter)
