use Rattle.std.proofs.Common.{refl}
use Rattle.std.specs.Fmt.{digits}
use Rattle.pm_lexer.specs.Quoting.{canon_name}
use Rattle.pm_lexer.specs.Symbol.{reserved_word}
use Rattle.pm_run.proofs.worked.explain_worked.Goals as goal

pub returns : goal.returns
unfolding digits canon_name reserved_word
returns c = refl
