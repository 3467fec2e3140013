use Rattle.std.proofs.Common.{ap, sym, ◌∙◌}
use Rattle.std.specs.List.{list_all}
use Rattle.pm_plan.specs.Kinds.{condition_fits}
use Rattle.pm_plan.specs.Standing.{subplan_kinds}
use Rattle.pm_plan.proofs.Conditions.{fits_all, fits_any}
use Rattle.pm_plan.proofs.fits.+condition_fits.Goals as goal

pub condition_fits-returns-in-All : goal.condition_fits-returns-in-All
condition_fits-returns-in-All t c =
    λ p h. let kinds = subplan_kinds c.args.decls.now p in
    c.members_fit.ensures p h ∙ ap (list_all (condition_fits kinds)) c.as_slice.ensures ∙ sym (fits_all kinds c.in-All.members) ∙ ap (condition_fits kinds) (sym c.in-All.is)

pub condition_fits-returns-in-Any : goal.condition_fits-returns-in-Any
condition_fits-returns-in-Any t c =
    λ p h. let kinds = subplan_kinds c.args.decls.now p in
    c.members_fit-in-Any.ensures p h ∙ ap (list_all (condition_fits kinds)) c.as_slice-in-Any.ensures ∙ sym (fits_any kinds c.in-Any.members) ∙ ap (condition_fits kinds) (sym c.in-Any.is)
