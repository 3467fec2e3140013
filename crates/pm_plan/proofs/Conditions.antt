-- what a list of conditions' fit is
use Rattle.std.proofs.Common.{◌≡◌, List, ◌∙◌}
use Rattle.std.specs.List.{list_all}
use Rattle.std.proofs.lemmas.List.Folds.{list_all-map}
use Rattle.pm_values.specs.declared.value.Kind.{Kind}
use Rattle.pm_values.specs.declared.condition.Cond.{Cond}
use Rattle.pm_values.specs.declared.condition.Cond.TheVariants as cond
use Rattle.pm_values.proofs.Folds.{fold_all, fold_any}
use Rattle.pm_plan.specs.Kinds.{condition_layer, condition_fits}

pub fits_all : (kinds : List Kind) (members : List Cond) → condition_fits kinds (cond.All members) ≡ list_all (condition_fits kinds) members
fits_all kinds members = fold_all (condition_layer kinds) members ∙ list_all-map (λ m. m) (condition_fits kinds) members

pub fits_any : (kinds : List Kind) (members : List Cond) → condition_fits kinds (cond.Any members) ≡ list_all (condition_fits kinds) members
fits_any kinds members = fold_any (condition_layer kinds) members ∙ list_all-map (λ m. m) (condition_fits kinds) members
