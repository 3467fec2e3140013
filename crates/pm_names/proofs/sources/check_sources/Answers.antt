use Rattle.std.proofs.Common.{◌∙◌, ap, Err, arith}
use Rattle.std.proofs.lemmas.Result.{err_from_is_err_and}
use Rattle.pm_names.specs.Sources.{source_breaches}
use Rattle.pm_names.proofs.Along.{each_told, each_none_more}
use Rattle.pm_names.proofs.sources.check_sources.Goals as goal

pub returns-in_err-check_source : goal.returns-in_err-check_source
returns-in_err-check_source c =
    let p = err_from_is_err_and c.from_residual.result c.from_residual.ensures.1 in
    each_told (source_breaches c.args.schema.now c.args.sources.now) c.args.sources.now c.sources.i c.index-sources-i.result _ _ (omega arith) c.index-sources-i.is c.sources.invariant c.in_err-check_source.ensures (p.1 ∙ ap Err p.2)

pub sources-preserved : goal.sources-preserved
sources-preserved c =
    each_none_more (source_breaches c.args.schema.now c.args.sources.now) c.args.sources.now c.sources.i c.index-sources-i.result (omega arith) c.index-sources-i.is c.sources.invariant c.in_ok-check_source.ensures
