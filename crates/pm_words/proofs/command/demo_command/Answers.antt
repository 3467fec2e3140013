use Rattle.std.proofs.lemmas.Result.{IfOk-weaker}
use Rattle.pm_words.specs.Commands.{demo_app}
use Rattle.pm_words.proofs.Adding.{added}
use Rattle.pm_words.proofs.command.demo_command.Goals as goal

pub returns : goal.returns
unfolding demo_app
returns c =
    let h1 = added _ _ _ _ _ c.in_ok-arg.ensures c.position.ensures.local c.bare.ensures c.position.ensures.rule in
    IfOk-weaker c.arg-2.result _ _ (λ r h. added _ _ _ _ _ h c.option.ensures.local h1 c.option.ensures.rule) c.arg-2.ensures
