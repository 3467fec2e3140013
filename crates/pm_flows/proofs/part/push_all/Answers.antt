use Rattle.std.proofs.Common.{take, ◌∙◌}
use Rattle.std.specs.Prelude.{Result, Ok, Err, OnErr}
use Rattle.pm_flows.proofs.part.push_all.Goals as goal

on_err : {T E P : Type 0} (r : Result T E) → P → OnErr r P
on_err (Ok x) p = tt
on_err (Err e) p = p

pub returns-in_err-push-clause-err : goal.returns-in_err-push-clause-err
returns-in_err-push-clause-err c =
    on_err c.from_residual.result (record { parts = take c.loop-part.part-index c.args.more.now; put = c.in_err-push.ensures.items ∙ c.loop-part.invariant })
