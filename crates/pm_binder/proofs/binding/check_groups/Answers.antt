use Rattle.std.proofs.Common.{◌∙◌, ap, Err, arith}
use Rattle.std.proofs.lemmas.Result.{err_from_is_err_and}
use Rattle.pm_names.specs.Names.{name_breaches}
use Rattle.pm_names.proofs.Along.{told_at, none_more}
use Rattle.pm_binder.proofs.binding.check_groups.Goals as goal

pub returns-in_err-check_name : goal.returns-in_err-check_name
returns-in_err-check_name c =
    let p = err_from_is_err_and c.from_residual.result c.from_residual.ensures.1 in
    told_at (name_breaches c.args.known.now) c.args.groups.now c.loop-name.name-index _ _ _ (omega arith) c.name-item.is c.loop-name.invariant c.in_err-check_name.ensures (p.1 ∙ ap Err p.2)

pub loop-name-preserved : goal.loop-name-preserved
loop-name-preserved c =
    none_more (name_breaches c.args.known.now) c.args.groups.now c.loop-name.name-index _ (omega arith) c.name-item.is c.loop-name.invariant c.in_ok-check_name.ensures
