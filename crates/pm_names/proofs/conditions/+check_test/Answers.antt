use Rattle.std.proofs.Common.{◌∙◌, ap, Err, arith}
use Rattle.std.proofs.lemmas.Result.{err_from_is_err_and}
use Rattle.pm_names.specs.Kinds.{test_breaches}
use Rattle.pm_names.proofs.Along.{told_within, none_more, none_within}
use Rattle.pm_names.proofs.conditions.+check_test.Goals as goal

pub check_members-returns-in_err-check_test : goal.check_members-returns-in_err-check_test
check_members-returns-in_err-check_test t c =
    let p = err_from_is_err_and c.from_residual.result c.from_residual.ensures.1 in
    told_within (test_breaches c.args.known.now) c.args.members.now c.members.member-index _ _ _ (omega arith) c.member-item.is c.members.invariant c.in_err-check_test.ensures (p.1 ∙ ap Err p.2)

pub check_members-members-preserved : goal.check_members-members-preserved
check_members-members-preserved t c =
    none_more (test_breaches c.args.known.now) c.args.members.now c.members.member-index _ (omega arith) c.member-item.is c.members.invariant c.in_ok-check_test.ensures

pub check_members-returns : goal.check_members-returns
check_members-returns t c = none_within (test_breaches c.args.known.now) c.args.members.now c.members.member-index (omega arith) c.members.invariant
