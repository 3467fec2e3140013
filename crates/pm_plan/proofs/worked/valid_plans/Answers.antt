use Rattle.std.proofs.Common.{◌≡◌, true, refl, codes, arith}
use Rattle.pm_values.specs.declared.value.Value.TheVariants.{Text}
use Rattle.pm_values.specs.declared.condition.Comparison.TheVariants as comparison
use Rattle.pm_values.specs.declared.condition.Operand.TheVariants as operand
use Rattle.pm_values.proofs.Folds.{fold_compare}
use Rattle.pm_plan.specs.Kinds.{condition_layer, condition_fits, table_kinds}
use Rattle.pm_plan.specs.WorkedPlans.{plain, is_ann}
use Rattle.pm_plan.proofs.worked.valid_plans.Goals as goal

fits : condition_fits (table_kinds plain 1) (is_ann 0) ≡ true
fits = fold_compare (condition_layer (table_kinds plain 1)) comparison.Equal (operand.Column 1 0) (operand.Literal (Text (codes "Ann")) 0)

pub returns-clause-hash : goal.returns-clause-hash
returns-clause-hash c = record {
  numbered = refl;
  operators = ((refl, omega arith), ((record { pairs = record { some = λ e. absurd cc; few = omega arith; fit = refl }; flags = refl; joinable = refl; source = refl; ordered = tt }, omega arith), ((fits, omega arith), (refl, omega arith)), (refl, omega arith)));
  few = omega arith;
  heads = refl;
  kinds = refl;
}

pub returns-clause-padded : goal.returns-clause-padded
returns-clause-padded c = record {
  numbered = refl;
  operators = ((refl, omega arith), ((record { pairs = record { some = λ e. absurd cc; few = omega arith; fit = refl }; flags = refl; joinable = refl; source = refl; ordered = tt }, omega arith), (refl, omega arith), (refl, omega arith)));
  few = omega arith;
  heads = refl;
  kinds = refl;
}

pub returns-clause-merged : goal.returns-clause-merged
returns-clause-merged c = record {
  numbered = refl;
  operators = ((refl, omega arith), ((record { pairs = record { some = λ e. absurd cc; few = omega arith; fit = refl }; flags = refl; joinable = refl; source = refl; ordered = record { lefts = refl; rights = refl } }, omega arith), (refl, omega arith), (refl, omega arith)));
  few = omega arith;
  heads = refl;
  kinds = refl;
}

pub returns-clause-looked_up : goal.returns-clause-looked_up
returns-clause-looked_up c = record {
  numbered = refl;
  operators = ((refl, omega arith), ((record { fits = refl; joinable = refl }, omega arith), record { named = refl; pairs = record { some = λ e. absurd cc; few = omega arith; fit = refl }; flags = refl; narrow = omega arith }, (refl, omega arith)));
  few = omega arith;
  heads = refl;
  kinds = refl;
}

pub returns-clause-total : goal.returns-clause-total
returns-clause-total c = record {
  numbered = refl;
  operators = ((refl, omega arith), ((record { pairs = record { some = λ e. absurd cc; few = omega arith; fit = refl }; flags = refl; joinable = refl; source = refl; ordered = tt }, omega arith), (refl, omega arith), (refl, omega arith)));
  few = omega arith;
  heads = refl;
  kinds = refl;
}

pub returns-clause-groups : goal.returns-clause-groups
returns-clause-groups c = record {
  numbered = refl;
  operators = ((record { columns = refl; fit = refl; alone = λ e. refl }, omega arith), ((record { columns = refl; fit = refl; alone = λ e. refl }, omega arith), (refl, omega arith)));
  few = omega arith;
  heads = refl;
  kinds = refl;
}
