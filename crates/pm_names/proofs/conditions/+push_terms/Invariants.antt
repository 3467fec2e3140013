use Rattle.std.proofs.Common.{◌≡◌, ◌++◌, map, take}
use Rattle.std.specs.List.{flat_map}
use Rattle.pm_names.specs.Names.{placed_term}
use Rattle.pm_names.specs.Conditions.{exprs_of}
use Rattle.pm_names.proofs.conditions.+push_terms.Given as goal

abbrev pub invariant-push_members-members : goal.invariant-push_members-members
invariant-push_members-members l = l.terms ≡ l.initial.terms ++ map (placed_term l.known) (flat_map exprs_of (take l.member-index l.members))
