use Rattle.std.proofs.Common.{sym, ◌∙◌}
use Rattle.pm_schema.proofs.Sound.{sound_of}
use Rattle.pm_schema.proofs.schema.judged.Goals as goal

pub declared-requires : goal.declared-requires
declared-requires c = sound_of c.args.tables.now c.requires (sym c.first_breach.ensures ∙ c.in-None.is)
