use Rattle.pm_canonical.proofs.Law.{read_back}
use Rattle.pm_canonical.proofs.read_back.canonical_text_is_read_back.Goals as goal

pub returns : goal.returns
returns c text tokens reading select lexed read same = read_back text tokens reading select lexed read same
