use Rattle.pm_grammar.proofs.Decided.{list_decided, list_same}
use Rattle.pm_grammar.proofs.laws.lists_are_read_once.Goals as goal

pub returns-clause-some : goal.returns-clause-some
returns-clause-some g c keeps separator limit tokens = list_decided separator g.E.Entry.peeks g.E.Entry.reads limit tokens keeps

pub returns-clause-one : goal.returns-clause-one
returns-clause-one g c separator limit tokens = list_same separator g.E.Entry.peeks g.E.Entry.reads limit tokens
