use Rattle.std.proofs.Common.{sym, ap, ◌∙◌}
use Rattle.pm_plan.specs.Preorder.{Rooted}
use Rattle.pm_plan.specs.Valid.{has_group}
use Rattle.pm_plan.proofs.Inversion.{OverOne, OverTwo, OverSeek, begins, none_stands, rooted_same, right_at, no_seek}
use Rattle.pm_plan.proofs.Tests.{or_true, or_false}
use Rattle.pm_plan.proofs.shape.+has_group.Goals as goal

pub returns-in_default : goal.returns-in_default
returns-in_default t c = λ t h. absurd (none_stands _ (Rooted t) _ c.in_default.ensures.node h)

pub returns-in-Scan : goal.returns-in-Scan
returns-in-Scan t c = λ t h. sym (ap has_group (rooted_same (begins _ (Rooted t) _ _ _ c.in-Scan.is c.in-Some.ensures.node h)))

pub returns-then-is_group : goal.returns-then-is_group
returns-then-is_group t c =
    λ t h. let i : OverOne _ _ _ _ _ = begins _ (Rooted t) _ _ _ c.in-Over.is c.in-Some.ensures.node h in
    or_true _ c.is_group.ensures c.if-is_group.true (ap has_group (rooted_same i.is))

pub returns-else-is_group : goal.returns-else-is_group
returns-else-is_group t c =
    λ t h. let i : OverOne _ _ _ _ _ = begins _ (Rooted t) _ _ _ c.in-Over.is c.in-Some.ensures.node h in
    or_false c.is_group.ensures c.if-is_group.false (c.has_group.ensures i.tree i.stands) (ap has_group (rooted_same i.is))

pub returns-then-has_group : goal.returns-then-has_group
returns-then-has_group t c =
    λ t h. let i : OverTwo _ _ _ _ _ _ _ = begins _ (Rooted t) _ _ _ c.in-Join.is c.in-Some.ensures.node h in
    or_true _ (c.has_group-in-Join.ensures i.left_tree i.left_stands) c.if-has_group.true (ap has_group (rooted_same i.is))

pub returns-else-has_group : goal.returns-else-has_group
returns-else-has_group t c =
    λ t h. let i : OverTwo _ _ _ _ _ _ _ = begins _ (Rooted t) _ _ _ c.in-Join.is c.in-Some.ensures.node h in
    let right = c.has_group-else-has_group.ensures i.right_tree (right_at _ _ _ _ _ _ _ _ i c.number_after.ensures) in
    or_false (c.has_group-in-Join.ensures i.left_tree i.left_stands) c.if-has_group.false right (ap has_group (rooted_same i.is))

pub returns-in-Index : goal.returns-in-Index
returns-in-Index t c =
    λ t h. let i : OverSeek _ _ _ _ _ _ = begins _ (Rooted t) _ _ _ c.in-Index.is c.in-Some.ensures.node h in
    c.has_group-in-Index.ensures i.left_tree i.left_stands ∙ sym (ap has_group (rooted_same i.is))

pub returns-in-Seek : goal.returns-in-Seek
returns-in-Seek t c = λ t h. absurd (no_seek t _ (begins _ (Rooted t) _ _ _ c.in-Seek.is c.in-Some.ensures.node h))
