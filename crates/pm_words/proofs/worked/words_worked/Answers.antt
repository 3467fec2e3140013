use Rattle.std.proofs.Common.{refl}
use Rattle.clap.proofs.OnLiterals.{clap_on_literals}
use Rattle.pm_words.specs.Commands.{run_app, explain_app, demo_app}
use Rattle.pm_words.specs.Settings.{command_by_verb, demo_of, explain_of, read_by, run_of, settings_by, settings_of, verb_in}
use Rattle.pm_words.proofs.worked.words_worked.Goals as goal

pub returns-clause-plain : goal.returns-clause-plain
unfolding clap_on_literals settings_of settings_by read_by command_by_verb verb_in run_of explain_of demo_of run_app explain_app demo_app
returns-clause-plain c = refl

pub returns-clause-all : goal.returns-clause-all
unfolding clap_on_literals settings_of settings_by read_by command_by_verb verb_in run_of explain_of demo_of run_app explain_app demo_app
returns-clause-all c = refl

pub returns-clause-every_most : goal.returns-clause-every_most
unfolding clap_on_literals settings_of settings_by read_by command_by_verb verb_in run_of explain_of demo_of run_app explain_app demo_app
returns-clause-every_most c = refl

pub returns-clause-after_dashes : goal.returns-clause-after_dashes
unfolding clap_on_literals settings_of settings_by read_by command_by_verb verb_in run_of explain_of demo_of run_app explain_app demo_app
returns-clause-after_dashes c = refl

pub returns-clause-explain : goal.returns-clause-explain
unfolding clap_on_literals settings_of settings_by read_by command_by_verb verb_in run_of explain_of demo_of run_app explain_app demo_app
returns-clause-explain c = refl

pub returns-clause-demo : goal.returns-clause-demo
unfolding clap_on_literals settings_of settings_by read_by command_by_verb verb_in run_of explain_of demo_of run_app explain_app demo_app
returns-clause-demo c = refl

pub returns-clause-no_words : goal.returns-clause-no_words
unfolding clap_on_literals settings_of settings_by read_by command_by_verb verb_in run_of explain_of demo_of run_app explain_app demo_app
returns-clause-no_words c = refl

pub returns-clause-unknown_verb : goal.returns-clause-unknown_verb
unfolding clap_on_literals settings_of settings_by read_by command_by_verb verb_in run_of explain_of demo_of run_app explain_app demo_app
returns-clause-unknown_verb c = refl

pub returns-clause-one_file : goal.returns-clause-one_file
unfolding clap_on_literals settings_of settings_by read_by command_by_verb verb_in run_of explain_of demo_of run_app explain_app demo_app
returns-clause-one_file c = refl

pub returns-clause-three_files : goal.returns-clause-three_files
unfolding clap_on_literals settings_of settings_by read_by command_by_verb verb_in run_of explain_of demo_of run_app explain_app demo_app
returns-clause-three_files c = refl

pub returns-clause-every_none : goal.returns-clause-every_none
unfolding clap_on_literals settings_of settings_by read_by command_by_verb verb_in run_of explain_of demo_of run_app explain_app demo_app
returns-clause-every_none c = refl

pub returns-clause-every_past : goal.returns-clause-every_past
unfolding clap_on_literals settings_of settings_by read_by command_by_verb verb_in run_of explain_of demo_of run_app explain_app demo_app
returns-clause-every_past c = refl

pub returns-clause-every_negative : goal.returns-clause-every_negative
unfolding clap_on_literals settings_of settings_by read_by command_by_verb verb_in run_of explain_of demo_of run_app explain_app demo_app
returns-clause-every_negative c = refl

pub returns-clause-every_twice : goal.returns-clause-every_twice
unfolding clap_on_literals settings_of settings_by read_by command_by_verb verb_in run_of explain_of demo_of run_app explain_app demo_app
returns-clause-every_twice c = refl

pub returns-clause-every_bare : goal.returns-clause-every_bare
unfolding clap_on_literals settings_of settings_by read_by command_by_verb verb_in run_of explain_of demo_of run_app explain_app demo_app
returns-clause-every_bare c = refl

pub returns-clause-workers_past : goal.returns-clause-workers_past
unfolding clap_on_literals settings_of settings_by read_by command_by_verb verb_in run_of explain_of demo_of run_app explain_app demo_app
returns-clause-workers_past c = refl

pub returns-clause-join_unknown : goal.returns-clause-join_unknown
unfolding clap_on_literals settings_of settings_by read_by command_by_verb verb_in run_of explain_of demo_of run_app explain_app demo_app
returns-clause-join_unknown c = refl

pub returns-clause-explain_every : goal.returns-clause-explain_every
unfolding clap_on_literals settings_of settings_by read_by command_by_verb verb_in run_of explain_of demo_of run_app explain_app demo_app
returns-clause-explain_every c = refl

pub returns-clause-help : goal.returns-clause-help
unfolding clap_on_literals settings_of settings_by read_by command_by_verb verb_in run_of explain_of demo_of run_app explain_app demo_app
returns-clause-help c = refl

pub returns-clause-demo_none : goal.returns-clause-demo_none
unfolding clap_on_literals settings_of settings_by read_by command_by_verb verb_in run_of explain_of demo_of run_app explain_app demo_app
returns-clause-demo_none c = refl

pub returns-clause-demo_past : goal.returns-clause-demo_past
unfolding clap_on_literals settings_of settings_by read_by command_by_verb verb_in run_of explain_of demo_of run_app explain_app demo_app
returns-clause-demo_past c = refl
