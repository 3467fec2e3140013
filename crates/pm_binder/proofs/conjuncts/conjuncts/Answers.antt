use Rattle.std.proofs.Common.{arith, ◌∙◌, sym}
use Rattle.pm_binder.specs.Conjuncts.{on_conjuncts}
use Rattle.pm_names.proofs.Along.{each_more}
use Rattle.pm_binder.proofs.conjuncts.conjuncts.Goals as goal

pub sources-preserved : goal.sources-preserved
sources-preserved c =
    let more = each_more (on_conjuncts c.args.schema.now c.args.sources.now) c.args.sources.now c.sources.i c.index-sources-i.result (omega arith) c.index-sources-i.is in
    c.in_ok-push_on.ensures ∙ rw c.sources.invariant (sym more)
