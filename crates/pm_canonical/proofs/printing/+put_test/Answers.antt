use Rattle.std.proofs.Common.{string_bytes, arith}
use Rattle.pm_canonical.specs.Canon.{separator, member_of, text_of}
use Rattle.pm_canonical.proofs.Joining.{member_put, members_put}
use Rattle.pm_canonical.proofs.printing.+put_test.Goals as goal

pub put_members-members-preserved : goal.put_members-members-preserved
put_members-members-preserved t c =
    member_put (separator c.args.in_or) (λ t. member_of c.args.in_or (text_of t)) c.args.list.now c.members.i c.index-list-i.result (string_bytes c.args.out.now) (string_bytes c.members.out) _ _ c.members-test.true c.index-list-i.is c.members.invariant
    c.in_ok-put_separator.ensures c.in_ok-put_member.ensures

pub put_members-returns : goal.put_members-returns
put_members-returns t c = members_put (separator c.args.in_or) (member_of c.args.in_or) text_of c.args.list.now c.members.i (string_bytes c.args.out.now) _ (omega arith) c.members.invariant
