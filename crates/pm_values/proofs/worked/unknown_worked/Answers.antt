use Rattle.std.proofs.Common.{◌≡◌, ◌∙◌, [], ◌∷◌, ap, refl}
use Rattle.std.specs.Prelude.{pos}
use Rattle.pm_values.specs.declared.value.Value.TheVariants as value
use Rattle.pm_values.specs.declared.condition.Comparison.TheVariants as comparison
use Rattle.pm_values.specs.declared.condition.Operand.TheVariants as operand
use Rattle.pm_values.specs.declared.condition.Truth.TheVariants.{Yes, No, Unknown}
use Rattle.pm_values.specs.Condition.{truth, negated}
use Rattle.pm_values.specs.Worked.{null_row, is_one, always, never}
use Rattle.pm_values.proofs.Truths.{truth_all, truth_any, truth_not, truth_compare}
use Rattle.pm_values.proofs.worked.unknown_worked.Goals as goal

one : truth null_row is_one ≡ Unknown
one = truth_compare null_row comparison.Equal (operand.Column 0 0) (operand.Literal (value.Int (pos 1)) 0)

yes_always : truth null_row always ≡ Yes
yes_always = truth_compare null_row comparison.Equal (operand.Literal (value.Int (pos 1)) 0) (operand.Literal (value.Int (pos 1)) 0)

no_never : truth null_row never ≡ No
no_never = truth_compare null_row comparison.Equal (operand.Literal (value.Int (pos 1)) 0) (operand.Literal (value.Int (pos 2)) 0)

pub returns-clause-compared : goal.returns-clause-compared
returns-clause-compared c = one

pub returns-clause-negated : goal.returns-clause-negated
returns-clause-negated c = truth_not null_row is_one ∙ ap negated one

pub returns-clause-and_no : goal.returns-clause-and_no
returns-clause-and_no c = truth_all null_row (is_one ∷ never ∷ []) ∙ rw (one, no_never) refl

pub returns-clause-and_yes : goal.returns-clause-and_yes
returns-clause-and_yes c = truth_all null_row (is_one ∷ always ∷ []) ∙ rw (one, yes_always) refl

pub returns-clause-or_yes : goal.returns-clause-or_yes
returns-clause-or_yes c = truth_any null_row (is_one ∷ always ∷ []) ∙ rw (one, yes_always) refl

pub returns-clause-or_no : goal.returns-clause-or_no
returns-clause-or_no c = truth_any null_row (is_one ∷ never ∷ []) ∙ rw (one, no_never) refl
