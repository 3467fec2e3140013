use Rattle.pm_plan.proofs.Rules.{take_same}
use Rattle.pm_plan.specs.Kinds.{kinds_of}
use Rattle.pm_plan.proofs.valid.kinds_agree.Goals as goal

pub loop-i-preserved : goal.loop-i-preserved
loop-i-preserved c =
    λ t h. take_same c.args.kinds.now (kinds_of c.args.decls.now t) c.loop-i.i _ c.loop-i-test.true (c.loop-i.invariant t h) ((c.is_kind.ensures t h).0 c.if-not-is_kind.false)
