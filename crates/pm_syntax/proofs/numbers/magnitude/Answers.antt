use Rattle.std.proofs.Common.{arith, slice_index_or, rules}
use Rattle.pm_syntax.proofs.Digits.{digit_fits, power_below}
use Rattle.pm_syntax.proofs.numbers.magnitude.Goals as goal

pub overflow_mul-value : goal.overflow_mul-value
overflow_mul-value c =
    let fits = digit_fits c.loop-b.value c.loop-b.b-index (slice_index_or c.args.bytes.now c.loop-b.b-index 0) c.loop-b.invariant.small (omega arith) (search (rules, c.if-is_ascii_digit.ensures.value)) in omega (arith, fits)

pub overflow_add-value : goal.overflow_add-value
overflow_add-value c =
    let fits = digit_fits c.loop-b.value c.loop-b.b-index (slice_index_or c.args.bytes.now c.loop-b.b-index 0) c.loop-b.invariant.small (omega arith) (search (rules, c.if-is_ascii_digit.ensures.value)) in omega (arith, fits)

pub returns-clause-fits : goal.returns-clause-fits
returns-clause-fits c = let most = power_below c.loop-b.b-index (omega arith) in omega (arith, most)
