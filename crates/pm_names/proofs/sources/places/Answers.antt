use Rattle.std.proofs.Common.{nat_eq, arith, ◌∙◌, sym}
use Rattle.std.proofs.lemmas.Bool.{eqb-true}
use Rattle.std.proofs.lemmas.List.{take_all}
use Rattle.pm_names.specs.Sources.{place_in}
use Rattle.pm_names.proofs.Once.{once_more}
use Rattle.pm_names.proofs.Steps.{once_few}
use Rattle.pm_names.proofs.sources.places.Goals as goal

pub loop-source-preserved : goal.loop-source-preserved
loop-source-preserved c =
    let more = once_more nat_eq eqb-true (place_in c.args.schema.now) c.args.sources.now c.loop-source.source-index c.source-item.result (omega arith) c.source-item.is in
    c.in_ok-push_new.ensures ∙ rw (c.loop-source.invariant, c.place_in-place.ensures.value) (sym more)

pub returns-clause-few : goal.returns-clause-few
returns-clause-few c =
    rw (c.loop-source.invariant, take_all c.loop-source.source-index c.args.sources.now (omega arith)) (once_few nat_eq (place_in c.args.schema.now) c.args.sources.now)
