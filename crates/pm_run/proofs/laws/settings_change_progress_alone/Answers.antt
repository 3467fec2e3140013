use Rattle.pm_run.proofs.Pieces.{whole-text, lasting-same, lasting-text}
use Rattle.pm_run.proofs.laws.settings_change_progress_alone.Goals as goal

pub returns : goal.returns
returns c = record { text = whole-text; same = lasting-same; off = lasting-text }
