use Rattle.std.proofs.Common.{string_bytes, codes}
use Rattle.pm_canonical.proofs.Joining.{joined_put}
use Rattle.pm_canonical.proofs.printing.put_list.Goals as goal

pub entries-preserved : goal.entries-preserved
entries-preserved g c =
    joined_put (codes ", ") g.T.Canon.canon c.args.list.now c.entries.i c.index-list-i.result (string_bytes c.args.out.now) (string_bytes c.entries.out) _ c.entries-test.true c.index-list-i.is c.entries.invariant c.in_ok-put_entry.ensures
