use Rattle.std.proofs.Common.{arith}
use Rattle.pm_syntax.proofs.Digits.{number_is_short}
use Rattle.pm_syntax.proofs.numbers.number.Goals as goal

pub magnitude-value-requires : goal.magnitude-value-requires
magnitude-value-requires c = rw c.bytes-bytes.ensures.value (number_is_short c.args.token.now c.requires)

pub overflow_cast-decimals : goal.overflow_cast-decimals
overflow_cast-decimals c =
    let short = number_is_short c.args.token.now c.requires in
    let within = rw c.bytes-bytes.ensures.value at c.decimals_len-decimals.ensures.within in
    omega (arith, short, within)
