use Rattle.std.proofs.Common.{arith, ◌∙◌, sym}
use Rattle.pm_names.specs.Sources.{query_source}
use Rattle.pm_names.proofs.Steps.{map_step}
use Rattle.pm_names.proofs.sources.query_sources.Goals as goal

pub loop-source-preserved : goal.loop-source-preserved
loop-source-preserved c =
    let more = map_step (query_source c.args.schema.now c.args.places.now) c.args.sources.now c.loop-source.source-index c.source-item.result (omega arith) c.source-item.is in
    c.in_ok-push.ensures.ok ∙ rw (c.loop-source.invariant, c.in_ok-next.ensures) (sym more)
