use Rattle.pm_plan.specs.Outputs.{output}
use Rattle.pm_work.proofs.Uniqueness.{at_most_one, keys_differ}
use Rattle.pm_work.proofs.laws.unique_rows.Goals as goal

pub returns : goal.returns
returns c = record {
  differ = λ db tree columns sound u. keys_differ columns (output db tree) (at_most_one db sound tree columns u);
  at_most_one = λ db tree columns sound u. at_most_one db sound tree columns u;
}
