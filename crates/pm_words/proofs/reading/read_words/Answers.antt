use Rattle.std.proofs.Common.{◌∙◌, ap}
use Rattle.clap.specs.Simple.{app_of}
use Rattle.clap.specs.Faults.{is_simple_and_free}
use Rattle.pm_words.specs.Settings.{texts_in}
use Rattle.pm_words.proofs.Values.{no_settings, refused_by, taken_by, verb_is_simple}
use Rattle.pm_words.proofs.reading.read_words.Goals as goal

pub returns-in_default-clause-settings : goal.returns-in_default-clause-settings
returns-in_default-clause-settings c = no_settings c.args.words.now c.in_default.ensures

pub matches_by-requires : goal.matches_by-requires
matches_by-requires c = ap is_simple_and_free c.in-Ok-command_of.ensures ∙ verb_is_simple c.in-Some.verb

pub returns-in-Ok-matches_by-clause-settings : goal.returns-in-Ok-matches_by-clause-settings
returns-in-Ok-matches_by-clause-settings c =
    taken_by c.args.words.now (texts_in c.as_slice.result.now) c.in-Some.verb (app_of c.in-Ok-command_of.command) _ c.settings_by.result c.in-Some.ensures
    (ap texts_in c.as_slice.ensures.value ∙ c.in-Ok.ensures) c.in-Ok-command_of.ensures c.in-Ok-matches_by.ensures.values c.in-Ok-matches_by.ensures.taken c.settings_by.ensures.settings

pub returns-clause-settings : goal.returns-clause-settings
returns-clause-settings c =
    refused_by c.args.words.now (texts_in c.as_slice.result.now) c.in-Some.verb (app_of c.in-Ok-command_of.command) c.in-Err.error c.in-Some.ensures
    (ap texts_in c.as_slice.ensures.value ∙ c.in-Ok.ensures) c.in-Ok-command_of.ensures (λ usage. c.in-Err.ensures.refused (cc))
