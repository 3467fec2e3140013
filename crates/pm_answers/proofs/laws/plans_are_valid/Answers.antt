use Rattle.pm_answers.proofs.ValidPlans.{built-valid, built-sound, built-fits}
use Rattle.pm_answers.proofs.laws.plans_are_valid.Goals as goal

pub returns : goal.returns
returns c = record {
  valid = λ query sizes choice bound narrow. built-valid query bound narrow choice sizes;
  sound = λ query sizes choice db bound narrow meets. built-sound query bound narrow choice sizes db meets;
  fits = λ query sizes choice db bound narrow meets few. built-fits query bound narrow choice sizes db meets few;
}
