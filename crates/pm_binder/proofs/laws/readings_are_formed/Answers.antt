use Rattle.pm_binder.proofs.FormedReadings.{readings_are_formed}
use Rattle.pm_binder.proofs.laws.readings_are_formed.Goals as goal

pub returns : goal.returns
returns c text tokens select lexed read = readings_are_formed text tokens select lexed read
