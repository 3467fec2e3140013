-- what each kind of condition is on a row
use Rattle.std.proofs.Common.{◌≡◌, List, map}
use Rattle.pm_values.specs.declared.condition.Comparison.{Comparison}
use Rattle.pm_values.specs.declared.condition.Operand.{Operand}
use Rattle.pm_values.specs.declared.condition.Cond.{Cond}
use Rattle.pm_values.specs.declared.condition.Cond.TheVariants as cond
use Rattle.pm_values.specs.Equality.{is_null}
use Rattle.pm_values.specs.Row.{Row}
use Rattle.pm_values.specs.Condition.{truth, truth_of, truth_layer, negated, all_of, any_of, compared, operand_scale, operand_value}
use Rattle.pm_values.proofs.Folds.{fold_all, fold_any, fold_not, fold_compare, fold_null}

pub truth_all : (row : Row) (members : List Cond) → truth row (cond.All members) ≡ all_of (map (truth row) members)
truth_all row = fold_all (truth_layer row)

pub truth_any : (row : Row) (members : List Cond) → truth row (cond.Any members) ≡ any_of (map (truth row) members)
truth_any row = fold_any (truth_layer row)

pub truth_not : (row : Row) (part : Cond) → truth row (cond.Not part) ≡ negated (truth row part)
truth_not row = fold_not (truth_layer row)

pub truth_compare : (row : Row) (how : Comparison) (left right : Operand) → truth row (cond.Compare how left right) ≡ compared how (operand_scale left) (operand_scale right) (operand_value left row) (operand_value right row)
truth_compare row = fold_compare (truth_layer row)

pub truth_null : (row : Row) (of : Operand) → truth row (cond.IsNull of) ≡ truth_of (is_null (operand_value of row))
truth_null row = fold_null (truth_layer row)
