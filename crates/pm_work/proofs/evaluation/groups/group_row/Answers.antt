use Rattle.std.proofs.Common.{◌∙◌, sym, subst}
use Rattle.std.specs.Prelude.{All}
use Rattle.pm_values.specs.Row.{pick}
use Rattle.pm_values.specs.Equality.{same_values}
use Rattle.pm_work.specs.Evaluation.{IsSummable}
use Rattle.pm_work.proofs.Summable.{summable_filter}
use Rattle.pm_work.proofs.evaluation.groups.group_row.Goals as goal

pub put_aggregates-requires : goal.put_aggregates-requires
put_aggregates-requires c =
    subst (λ s. All (IsSummable s) c.args.items.now) (sym (c.as_slice.ensures.value ∙ c.in_ok-own.ensures))
    (summable_filter (λ row. same_values c.args.key.now (pick c.args.keys.now row)) c.args.rows.now c.args.items.now c.requires)
