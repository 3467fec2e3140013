use Rattle.std.proofs.Common.{◌≡◌, ◌≤◌, ◌<◌, ◌*◌, ◌-◌, ◌^◌, refl, length, take, min, arith, rules}
use Rattle.std.specs.Str.Parse.{digits_value, digits_value_after}
use Rattle.pm_tables.specs.Field.{IsDecimal}
use Rattle.pm_tables.specs.declared.field.TheConstants.{LARGEST}
use Rattle.pm_tables.proofs.Digits.{after-le}
use Rattle.pm_tables.proofs.Decimals.{decimal_is, decimal_fits, decimal_front, decimal_zeros, number_le, within_most, zeros_denied, zeros_told}
use Rattle.pm_tables.proofs.field.decimal.Goals as goal

pub returns-then-not-are_zeros : goal.returns-then-not-are_zeros
returns-then-not-are_zeros c = λ m h.
    let kept : c.min-kept.result ≡ min (length c.args.decimals.now) c.args.scale = search rules in
    absurd (zeros_denied c.min-kept.result c.args.decimals.now c.are_zeros.result c.are_zeros.ensures c.if-not-are_zeros.true
    (decimal_zeros c.args.scale c.min-kept.result m c.args.whole.now c.args.decimals.now kept h))

pub returns-in_err-number : goal.returns-in_err-number
returns-in_err-number c = rw c.from_residual.ensures (λ m h.
    let low : c.min-kept.result ≤ c.args.scale = omega arith in
    let high : c.min-kept.result ≤ length c.args.decimals.now = omega arith in
    let zeros = zeros_told c.min-kept.result c.args.decimals.now c.are_zeros.result c.are_zeros.ensures c.if-not-are_zeros.false in
    let large = c.in_err-number.ensures h.0.1 in
    let up = after-le (digits_value 10 c.args.whole.now) (take c.min-kept.result c.args.decimals.now) in
    let le = number_le c.args.scale c.min-kept.result m c.args.whole.now c.args.decimals.now low high zeros h in
    omega arith)

pub returns-in_err-digits : goal.returns-in_err-digits
returns-in_err-digits c = rw c.from_residual-in_err-digits.ensures (λ m h.
    let low : c.min-kept.result ≤ c.args.scale = omega arith in
    let high : c.min-kept.result ≤ length c.args.decimals.now = omega arith in
    let zeros = zeros_told c.min-kept.result c.args.decimals.now c.are_zeros.result c.are_zeros.ensures c.if-not-are_zeros.false in
    let large = c.in_err-digits.ensures (decimal_front c.args.scale c.min-kept.result m c.args.whole.now c.args.decimals.now h) in
    let whole = c.in_ok-number.ensures in
    let le = number_le c.args.scale c.min-kept.result m c.args.whole.now c.args.decimals.now low high zeros h in
    let same : digits_value_after 10 (digits_value 10 c.args.whole.now) (take c.min-kept.result c.args.decimals.now)
    ≡ digits_value_after 10 c.in_ok-number.field-0 (take c.min-kept.result c.args.decimals.now) = rw whole.1 refl in
    omega arith)

pub returns : goal.returns
returns c =
    let low : c.min-kept.result ≤ c.args.scale = omega arith in
    let high : c.min-kept.result ≤ length c.args.decimals.now = omega arith in
    let zeros = zeros_told c.min-kept.result c.args.decimals.now c.are_zeros.result c.are_zeros.ensures c.if-not-are_zeros.false in
    let whole = c.in_ok-number.ensures in
    let all = c.in_ok-digits.ensures in
    let is : c.in_ok-digits.digits ≡ digits_value_after 10 (digits_value 10 c.args.whole.now) (take c.min-kept.result c.args.decimals.now)
    = rw (← whole.1) all.1 in
    let shift : c.pow.result ≡ 10 ^ (c.args.scale - c.min-kept.result) = rw (← c.from-2.ensures) c.pow.ensures in
    let whole_some : 0 < length c.args.whole.now = search rules in
    let decimals_some : 0 < length c.args.decimals.now = search rules in
    within_most (IsDecimal c.args.scale c.args.whole.now c.args.decimals.now) (c.in_ok-digits.digits * c.pow.result) LARGEST c.within.result
    c.within.ensures
    (λ m h. rw (is, shift) (decimal_is c.args.scale c.min-kept.result m c.args.whole.now c.args.decimals.now low high zeros h))
    (decimal_fits c.args.scale c.min-kept.result (c.in_ok-digits.digits * c.pow.result) c.in_ok-digits.digits c.args.whole.now c.args.decimals.now
    low high whole_some decimals_some whole.0 all.0 zeros is (rw shift refl))
