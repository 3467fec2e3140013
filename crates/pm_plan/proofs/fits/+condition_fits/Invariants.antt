use Rattle.std.proofs.Common.{◌≡◌, true, take}
use Rattle.std.specs.List.{list_all}
use Rattle.pm_plan.specs.Preorder.{Subplan}
use Rattle.pm_plan.specs.Kinds.{condition_fits}
use Rattle.pm_plan.specs.Standing.{Stands, subplan_kinds}
use Rattle.pm_plan.proofs.fits.+condition_fits.Given as goal

abbrev pub invariant-members_fit-members : goal.invariant-members_fit-members
invariant-members_fit-members l =
    (p : Subplan) → Stands l.nodes p l.n → list_all (condition_fits (subplan_kinds l.decls p)) (take l.member-index l.members) ≡ true
