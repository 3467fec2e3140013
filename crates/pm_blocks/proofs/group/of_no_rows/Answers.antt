use Rattle.std.proofs.Common.{arith, rules}
use Rattle.std.proofs.lemmas.List.{nil_from_length}
use Rattle.pm_blocks.proofs.Groups.{grouped-one, grouped-none}
use Rattle.pm_blocks.proofs.group.of_no_rows.Goals as goal
use Rattle.pm_blocks.proofs.group.of_no_rows.Goals.{then-is_empty+in_ok-enter+in_ok-push_empty, else-is_empty}

pub returns-clause-groups : goal.returns-clause-groups
returns-clause-groups c =
    let keys = c.args.keys.now in
    let items = c.args.items.now in
    elim c.if-is_empty.branch [
      | then-is_empty+in_ok-enter+in_ok-push_empty w ↦ grouped-one keys items c.if-is_empty.table.keys c.if-is_empty.accumulators.items (nil_from_length keys (grind arith)) (search rules) (search rules)
      | else-is_empty w ↦ grouped-none keys items c.if-is_empty.table.keys c.if-is_empty.accumulators.items (grind arith) (search rules)
    ]
