use Rattle.std.proofs.Common.{length, refl, ap, sym, ◌∙◌, arith, codes}
use Rattle.std.proofs.lemmas.Bool.{false≢true}
use Rattle.pm_values.specs.declared.value.Value.TheVariants.{Text}
use Rattle.pm_values.specs.declared.condition.Comparison.TheVariants as comparison
use Rattle.pm_values.specs.declared.condition.Operand.TheVariants as operand
use Rattle.pm_values.proofs.Folds.{fold_compare}
use Rattle.pm_plan.specs.Kinds.{condition_layer, table_kinds}
use Rattle.pm_plan.specs.WorkedPlans.{plain}
use Rattle.pm_plan.proofs.worked.refused_plans.Goals as goal

pub returns : goal.returns
returns c = record {
  numbering = λ is. let few = ap length is.numbered in omega arith;
  seek_elsewhere = λ is. let e = is.numbered in cc;
  label = λ is. let named = is.operators.1.2.0 in cc;
  column = λ is. absurd (false≢true is.operators.0.0);
  pair_kinds = λ is. absurd (false≢true is.operators.1.0.0.pairs.fit);
  scale = λ is. absurd (false≢true (sym (fold_compare (condition_layer (table_kinds plain 1)) comparison.Equal (operand.Column 1 1) (operand.Literal (Text (codes "Ann")) 0)) ∙ is.operators.1.1.0.0));
  heads = λ is. let e = is.heads in omega arith;
  kinds = λ is. let e = is.kinds in cc;
  nine_tables = λ is. let few = is.few in omega arith;
  block = λ is. absurd (false≢true is.operators.1.0.0.joinable);
  items = λ is. let none = is.operators.0.0.alone refl in cc;
  no_pairs = λ is. is.operators.1.0.0.pairs.some refl;
  no_source = λ is. absurd (false≢true is.operators.1.0.0.source);
  order = λ is. let e = is.operators.1.0.0.ordered.lefts in cc;
  left_flag = λ is. absurd (false≢true (ap (λ u. u.left) is.operators.1.0.0.flags));
  right_flag = λ is. absurd (false≢true (sym (ap (λ u. u.right) is.operators.1.0.0.flags)));
  total_flag = λ is. absurd (false≢true (sym (ap (λ u. u.total) is.operators.1.0.0.flags)));
  no_total_flag = λ is. absurd (false≢true (ap (λ u. u.total) is.operators.1.0.0.flags));
}
