use Rattle.std.proofs.Common.{◌≡◌, ◌<◌, length, None, ◌*◌, ◌^◌, refl, rules}
use Rattle.pm_tables.specs.Field.{IsScaled}
use Rattle.pm_tables.specs.declared.field.TheConstants.{LARGEST}
use Rattle.pm_tables.proofs.Decimals.{whole_large, within_most}
use Rattle.pm_tables.proofs.field.whole.Goals as goal

pub returns-in_err-number : goal.returns-in_err-number
returns-in_err-number c = rw c.from_residual.ensures (λ m h. whole_large c.args.scale LARGEST c.args.digits.now m h (c.in_err-number.ensures h.0.1))

pub returns : goal.returns
returns c =
    let all = c.in_ok-number.ensures in
    let shift : c.pow.result ≡ 10 ^ c.args.scale = rw (← c.from.ensures) c.pow.ensures in
    let some : 0 < length c.args.digits.now = search rules in
    within_most (IsScaled c.args.scale c.args.digits.now None) (c.in_ok-number.field-0 * c.pow.result) LARGEST c.within.result c.within.ensures
    (λ m h. rw (all.1, shift) h.1)
    ((some, all.0), rw (all.1, shift) refl)
