use Rattle.std.proofs.Common.{◌++◌, List, ℕ, ap, arith}
use Rattle.std.specs.Prelude.{codes}
use Rattle.std.proofs.lemmas.Fmt.{decimal_digit}
use Rattle.pm_values.specs.ValueText.{last_digits}
use Rattle.pm_values.proofs.worked.text_worked.Goals as goal

pub returns-clause-decimals : goal.returns-clause-decimals
returns-clause-decimals c = ap (λ (whole : List ℕ). whole ++ codes "." ++ last_digits 2 750) (decimal_digit 7 (omega arith))

pub returns-clause-sign : goal.returns-clause-sign
returns-clause-sign c = ap (λ (whole : List ℕ). codes "-" ++ whole ++ codes "." ++ last_digits 2 5) (decimal_digit 0 (omega arith))

pub returns-clause-whole : goal.returns-clause-whole
returns-clause-whole c = ap (λ (whole : List ℕ). codes "-" ++ whole) (decimal_digit 9 (omega arith))
