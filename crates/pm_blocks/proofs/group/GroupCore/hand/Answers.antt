use Rattle.std.proofs.Common.{◌≡◌, ◌+◌, ℕ, length, min, ap, arith}
use Rattle.pm_blocks.specs.GroupState.{GroupState}
use Rattle.pm_blocks.proofs.Groups.{length-groups}
use Rattle.pm_blocks.proofs.group.GroupCore.hand.Goals as goal

pub invariant_of-self : goal.invariant_of-self
invariant_of-self c =
    let inside = c.self.inside in
    let kept = c.self.invariant in
    let few = length-groups (length inside.items) inside.table.keys inside.accumulators.items in
    record { width = kept.width; whole = kept.whole; few = kept.few; small = kept.small; within = omega (arith, few, c.groups.ensures, ap (λ (s : GroupState). length s.groups) c.self.view_is) }

pub returns-else-next-groups-clause-handed : goal.returns-else-next-groups-clause-handed
returns-else-next-groups-clause-handed c =
    let inside = c.self.inside in
    let state = c.args.self.now in
    let few = length-groups (length inside.items) inside.table.keys inside.accumulators.items in
    let same = ap (λ (s : GroupState). s.handed) c.self.view_is in
    let all : state.handed ≡ min (state.handed + 1) (length state.groups) =
    omega (arith, few, same, c.self.invariant.within, c.groups.ensures, c.if-next-groups.false, ap (λ (s : GroupState). length s.groups) c.self.view_is) in
    ap (λ (n : ℕ). record { keys = state.keys; items = state.items; groups = state.groups; closed = state.closed; handed = n }) all
