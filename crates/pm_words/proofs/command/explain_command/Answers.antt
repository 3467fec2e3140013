use Rattle.std.proofs.lemmas.Result.{IfOk-weaker}
use Rattle.pm_words.specs.Commands.{explain_app}
use Rattle.pm_words.proofs.Adding.{added}
use Rattle.pm_words.proofs.command.explain_command.Goals as goal

pub returns : goal.returns
unfolding explain_app
returns c =
    let h1 = added _ _ _ _ _ c.in_ok-arg.ensures c.position.ensures.local c.bare.ensures c.position.ensures.rule in
    let h2 = added _ _ _ _ _ c.in_ok-arg-2.ensures c.position-2.ensures.local h1 c.position-2.ensures.rule in
    let h3 = added _ _ _ _ _ c.in_ok-arg-3.ensures c.option.ensures.local h2 c.option.ensures.rule in
    IfOk-weaker c.arg-4.result _ _ (λ r h. added _ _ _ _ _ h c.option-2.ensures.local h3 c.option-2.ensures.rule) c.arg-4.ensures
