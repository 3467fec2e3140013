use Rattle.std.proofs.Common.{arith, refl, ◌∙◌}
use Rattle.std.proofs.lemmas.List.{take_all}
use Rattle.std.proofs.lemmas.List.Folds.{flat_map-map}
use Rattle.pm_names.specs.Conditions.{exprs_of}
use Rattle.pm_names.proofs.conditions.+push_terms.Goals as goal

pub push_members-returns : goal.push_members-returns
push_members-returns t c =
    rw (flat_map-map (λ m. m) exprs_of c.args.members.now) (c.members.invariant ∙ rw (take_all c.members.member-index c.args.members.now (omega arith)) refl)
