use Rattle.std.proofs.Common.{◌<◌, [], arith}
use Rattle.std.proofs.lemmas.List.{get_or_default}
use Rattle.pm_tables.proofs.references.first_without_target.Goals as goal

pub returns : goal.returns
returns c = λ k d lt.
    let low : k < c.loop-number.number = omega arith in
    rw (get_or_default c.args.rows.now k d [] lt) (c.loop-number.invariant k low)
