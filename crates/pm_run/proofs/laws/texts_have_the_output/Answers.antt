use Rattle.pm_run.proofs.Pieces.{answering-whole}
use Rattle.pm_run.proofs.laws.texts_have_the_output.Goals as goal

pub returns : goal.returns
returns c = answering-whole
