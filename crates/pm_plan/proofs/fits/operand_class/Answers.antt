use Rattle.std.proofs.Common.{ap, sym, ◌∙◌}
use Rattle.pm_values.specs.declared.value.Kind.TheVariants as kind
use Rattle.pm_plan.specs.Kinds.{OfColumn, operand_kind}
use Rattle.pm_plan.specs.Standing.{subplan_kinds}
use Rattle.pm_plan.proofs.Lists.{got_or}
use Rattle.pm_plan.proofs.fits.operand_class.Goals as goal

pub returns-in-Column : goal.returns-in-Column
returns-in-Column c =
    λ p h. let e = ap (operand_kind (subplan_kinds c.args.decls.now p)) c.in-Column.is in
    ap (λ k. OfColumn k) (got_or (subplan_kinds c.args.decls.now p) c.in-Column.at kind.Int _ _ c.unwrap_or.ensures (c.kind_at.ensures p h)) ∙ sym e
