use Rattle.std.proofs.lemmas.Result.{IfOk-weaker}
use Rattle.pm_words.specs.Commands.{run_app}
use Rattle.pm_words.proofs.Adding.{added}
use Rattle.pm_words.proofs.command.run_command.Goals as goal

pub returns : goal.returns
unfolding run_app
returns c =
    let h1 = added _ _ _ _ _ c.in_ok-arg.ensures c.position.ensures.local c.bare.ensures c.position.ensures.rule in
    let h2 = added _ _ _ _ _ c.in_ok-arg-2.ensures c.position-2.ensures.local h1 c.position-2.ensures.rule in
    let h3 = added _ _ _ _ _ c.in_ok-arg-3.ensures c.option.ensures.local h2 c.option.ensures.rule in
    let h4 = added _ _ _ _ _ c.in_ok-arg-4.ensures c.option-2.ensures.local h3 c.option-2.ensures.rule in
    let h5 = added _ _ _ _ _ c.in_ok-arg-5.ensures c.option-3.ensures.local h4 c.option-3.ensures.rule in
    IfOk-weaker c.arg-6.result _ _ (λ r h. added _ _ _ _ _ h c.option-4.ensures.local h5 c.option-4.ensures.rule) c.arg-6.ensures
