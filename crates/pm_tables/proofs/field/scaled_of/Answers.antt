use Rattle.std.proofs.Common.{◌≡◌, false, arith}
use Rattle.std.specs.Str.Parse.{starts_with_minus, without_leading_sign}
use Rattle.pm_tables.specs.Field.{point_of}
use Rattle.pm_tables.proofs.Decimals.{scaled_once}
use Rattle.pm_tables.proofs.Values.{unsigned_fits}
use Rattle.pm_tables.proofs.field.scaled_of.Goals as goal

pub returns-else-magnitude-lt-LARGEST : goal.returns-else-magnitude-lt-LARGEST
returns-else-magnitude-lt-LARGEST c = λ n h.
    let digits = without_leading_sign c.args.field.now in
    let read = rw c.without_sign.ensures at c.in_ok-magnitude.ensures in
    let same = scaled_once c.args.scale digits (point_of digits) h.0 c.in_ok-magnitude.magnitude h.1 read.0 in
    let plain : starts_with_minus c.args.field.now ≡ false = cc in
    let fits = unsigned_fits c.args.field.now h.0 n plain h.2 h.3 in
    omega (arith, fits, same)
