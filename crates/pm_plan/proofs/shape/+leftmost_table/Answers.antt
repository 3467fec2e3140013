use Rattle.std.proofs.Common.{sym, ap, ◌∙◌}
use Rattle.pm_plan.specs.Preorder.{Rooted}
use Rattle.pm_plan.specs.Valid.{leftmost_table}
use Rattle.pm_plan.proofs.Inversion.{OverOne, OverTwo, OverSeek, begins, none_stands, rooted_same, no_seek}
use Rattle.pm_plan.proofs.shape.+leftmost_table.Goals as goal

pub returns-in_default : goal.returns-in_default
returns-in_default t c = λ t h. absurd (none_stands _ (Rooted t) _ c.in_default.ensures.node h)

pub returns-in-Scan : goal.returns-in-Scan
returns-in-Scan t c = λ t h. sym (ap leftmost_table (rooted_same (begins _ (Rooted t) _ _ _ c.in-Scan.is c.in-Some.ensures.node h)))

pub returns-in-Over : goal.returns-in-Over
returns-in-Over t c =
    λ t h. let i : OverOne _ _ _ _ _ = begins _ (Rooted t) _ _ _ c.in-Over.is c.in-Some.ensures.node h in
    c.leftmost_table.ensures i.tree i.stands ∙ sym (ap leftmost_table (rooted_same i.is))

pub returns-in-Join : goal.returns-in-Join
returns-in-Join t c =
    λ t h. let i : OverTwo _ _ _ _ _ _ _ = begins _ (Rooted t) _ _ _ c.in-Join.is c.in-Some.ensures.node h in
    c.leftmost_table-in-Join.ensures i.left_tree i.left_stands ∙ sym (ap leftmost_table (rooted_same i.is))

pub returns-in-Index : goal.returns-in-Index
returns-in-Index t c =
    λ t h. let i : OverSeek _ _ _ _ _ _ = begins _ (Rooted t) _ _ _ c.in-Index.is c.in-Some.ensures.node h in
    c.leftmost_table-in-Index.ensures i.left_tree i.left_stands ∙ sym (ap leftmost_table (rooted_same i.is))

pub returns-in-Seek : goal.returns-in-Seek
returns-in-Seek t c = λ t h. absurd (no_seek t _ (begins _ (Rooted t) _ _ _ c.in-Seek.is c.in-Some.ensures.node h))
