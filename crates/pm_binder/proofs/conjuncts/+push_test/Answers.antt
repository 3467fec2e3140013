use Rattle.std.proofs.Common.{◌≡◌, [], ◌∷◌}
use Rattle.pm_names.specs.Conditions.{whole_row, cond_of}
use Rattle.pm_binder.specs.Conjuncts.{test_conjuncts}
use Rattle.pm_binder.proofs.Splits.{one_any, one_not}
use Rattle.pm_binder.proofs.conjuncts.+push_test.Goals as goal

pub push_test-returns-in-Any : goal.push_test-returns-in-Any
push_test-returns-in-Any t c =
    let one : test_conjuncts c.args.known.now c.args.on c.args.test.now ≡ record { on = c.args.on; cond = cond_of c.args.known.now whole_row c.args.test.now } ∷ [] =
    rw c.in-Any.is (one_any c.args.known.now c.args.on c.in-Any.field-0) in
    rw one c.push_one.ensures

pub push_test-returns-in-Not : goal.push_test-returns-in-Not
push_test-returns-in-Not t c =
    let one : test_conjuncts c.args.known.now c.args.on c.args.test.now ≡ record { on = c.args.on; cond = cond_of c.args.known.now whole_row c.args.test.now } ∷ [] =
    rw c.in-Not.is (one_not c.args.known.now c.args.on c.in-Not.field-0) in
    rw one c.push_one-in-Not.ensures
