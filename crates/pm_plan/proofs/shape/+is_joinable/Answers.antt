use Rattle.std.proofs.Common.{sym, ap, ◌∙◌}
use Rattle.pm_plan.specs.Preorder.{Rooted}
use Rattle.pm_plan.specs.Valid.{is_joinable}
use Rattle.pm_plan.proofs.Inversion.{OverOne, OverTwo, OverSeek, begins, none_stands, rooted_same, right_at, no_seek}
use Rattle.pm_plan.proofs.Tests.{and_false, and_true}
use Rattle.pm_plan.proofs.shape.+is_joinable.Goals as goal

pub returns-in_default : goal.returns-in_default
returns-in_default t c = λ t h. absurd (none_stands _ (Rooted t) _ c.in_default.ensures.node h)

pub returns-in-Scan : goal.returns-in-Scan
returns-in-Scan t c = λ t h. sym (ap is_joinable (rooted_same (begins _ (Rooted t) _ _ _ c.in-Scan.is c.in-Some.ensures.node h)))

pub returns-else-is_filter : goal.returns-else-is_filter
returns-else-is_filter t c =
    λ t h. let i : OverOne _ _ _ _ _ = begins _ (Rooted t) _ _ _ c.in-Over.is c.in-Some.ensures.node h in
    and_false _ c.is_filter.ensures c.if-is_filter.false (ap is_joinable (rooted_same i.is))

pub returns-then-is_filter : goal.returns-then-is_filter
returns-then-is_filter t c =
    λ t h. let i : OverOne _ _ _ _ _ = begins _ (Rooted t) _ _ _ c.in-Over.is c.in-Some.ensures.node h in
    and_true c.is_filter.ensures c.if-is_filter.true (c.is_joinable.ensures i.tree i.stands) (ap is_joinable (rooted_same i.is))

pub returns-else-is_joinable : goal.returns-else-is_joinable
returns-else-is_joinable t c =
    λ t h. let i : OverTwo _ _ _ _ _ _ _ = begins _ (Rooted t) _ _ _ c.in-Join.is c.in-Some.ensures.node h in
    and_false _ (c.is_joinable-in-Join.ensures i.left_tree i.left_stands) c.if-is_joinable.false (ap is_joinable (rooted_same i.is))

pub returns-then-is_joinable : goal.returns-then-is_joinable
returns-then-is_joinable t c =
    λ t h. let i : OverTwo _ _ _ _ _ _ _ = begins _ (Rooted t) _ _ _ c.in-Join.is c.in-Some.ensures.node h in
    let right = c.is_joinable-then-is_joinable.ensures i.right_tree (right_at _ _ _ _ _ _ _ _ i c.number_after.ensures) in
    and_true (c.is_joinable-in-Join.ensures i.left_tree i.left_stands) c.if-is_joinable.true right (ap is_joinable (rooted_same i.is))

pub returns-in-Index : goal.returns-in-Index
returns-in-Index t c =
    λ t h. let i : OverSeek _ _ _ _ _ _ = begins _ (Rooted t) _ _ _ c.in-Index.is c.in-Some.ensures.node h in
    c.is_joinable-in-Index.ensures i.left_tree i.left_stands ∙ sym (ap is_joinable (rooted_same i.is))

pub returns-in-Seek : goal.returns-in-Seek
returns-in-Seek t c = λ t h. absurd (no_seek t _ (begins _ (Rooted t) _ _ _ c.in-Seek.is c.in-Some.ensures.node h))
