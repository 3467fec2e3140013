use Rattle.std.proofs.Common.{◌∙◌, rules, Some, None}
use Rattle.clap.specs.Matches.{found_of}
use Rattle.pm_words.proofs.Values.{not_one, one_of, only_found}
use Rattle.pm_words.proofs.reading.only_value.Goals as goal

pub returns-in_err-values : goal.returns-in_err-values
returns-in_err-values c = rw c.from_residual.ensures (only_found (found_of c.args.matches.now) c.args.id.now None c.in_err-values.ensures)

pub returns-then-values-eq1 : goal.returns-then-values-eq1
returns-then-values-eq1 c =
    one_of c.in_ok-values.values.now _ (search rules) ∙ only_found (found_of c.args.matches.now) c.args.id.now (Some _) c.in_ok-values.ensures

pub returns-else-values-eq1 : goal.returns-else-values-eq1
returns-else-values-eq1 c =
    not_one c.in_ok-values.values.now (search rules) ∙ only_found (found_of c.args.matches.now) c.args.id.now (Some _) c.in_ok-values.ensures
