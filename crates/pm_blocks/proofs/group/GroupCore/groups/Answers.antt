use Rattle.std.proofs.Common.{length, ap, sym, ◌∙◌}
use Rattle.pm_blocks.specs.GroupState.{GroupState}
use Rattle.pm_blocks.proofs.Groups.{length-groups}
use Rattle.pm_blocks.proofs.group.GroupCore.groups.Goals as goal

pub returns : goal.returns
returns c =
    let inside = c.self.inside in
    c.from.ensures ∙ c.len.ensures.value ∙ sym (length-groups (length inside.items) inside.table.keys inside.accumulators.items) ∙ ap (λ (s : GroupState). length s.groups) c.self.view_is
