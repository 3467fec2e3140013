use Rattle.pm_grammar.proofs.Decided.{series_decided, series_same}
use Rattle.pm_grammar.proofs.laws.series_are_read_once.Goals as goal

pub returns-clause-some : goal.returns-clause-some
returns-clause-some g c shortens limit before tokens = series_decided g.E.Series.starts g.E.Series.separates g.E.Series.peeks g.E.Series.reads limit before tokens shortens

pub returns-clause-one : goal.returns-clause-one
returns-clause-one g c limit before tokens = series_same g.E.Series.starts g.E.Series.separates g.E.Series.peeks g.E.Series.reads limit before tokens
