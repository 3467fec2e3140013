use Rattle.std.proofs.Common.{◌≡◌, ◌++◌, List, ℕ, append_assoc, string_bytes}
use Rattle.pm_canonical.proofs.Points.{pointed_long}
use Rattle.pm_canonical.proofs.numerals.put_split.Goals as goal

regroup : (o a b c : List ℕ) → ((o ++ a) ++ b) ++ c ≡ o ++ ((a ++ b) ++ c)
regroup o a b c = simp append_assoc

pub returns : goal.returns
returns c =
    let long = pointed_long c.args.digits.now c.args.decimals c.if-decimals-eq0.false c.requires.more in
    rw (c.in_ok-push_str-4.ensures.bytes, c.in_ok-push_str-3.ensures.bytes, c.in_ok-push_str-2.ensures.bytes, c.split_at.ensures.front, c.split_at.ensures.back, long) (regroup (string_bytes c.args.out.now) _ _ _)
