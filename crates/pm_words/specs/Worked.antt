-- words of the worked examples
use Rattle.std.specs.Prelude.{List, ◌∷◌, codes, true}
use Rattle.clap.specs.Walk.{Text}
use Rattle.pm_query.specs.declared.query.Choice.TheVariants as choice
use Rattle.pm_words.specs.declared.settings.Settings.{Settings}
use Rattle.pm_words.specs.declared.settings.Settings.TheVariants as settings

-- `run s q` and these
abbrev pub run_words : List Text → List Text
run_words words = codes "run" ∷ codes "s" ∷ codes "q" ∷ words

-- `run s q` without options
abbrev pub plain_run : Settings
plain_run = settings.Run (record { schema = codes "s"; query = codes "q"; every = 1; join = choice.Auto; progress = true; workers = 1 })
