use Rattle.std.proofs.Common.{◌≡◌, ◌∙◌, ◌&&◌, refl, sym, ap}
use Rattle.pm_plan.specs.Preorder.{Rooted}
use Rattle.pm_plan.specs.Tree.{Unary, Filter, Project, Sort, Group, Tree, Scan, Over, Join, Index}
use Rattle.pm_plan.specs.Valid.{is_source, is_filter}
use Rattle.pm_plan.specs.Fitting.{is_scan}
use Rattle.pm_plan.proofs.Inversion.{OverOne, OverTwo, OverSeek, begins, none_stands, rooted_same, no_seek}
use Rattle.pm_plan.proofs.Tests.{and_true, and_false}
use Rattle.pm_plan.proofs.shape.is_source.Goals as goal

source-over : (op : Unary) (child : Tree) → is_source (Over op child) ≡ (is_filter op && is_scan child)
source-over (Filter cond) (Scan table label) = refl
source-over (Filter cond) (Over op child) = refl
source-over (Filter cond) (Join method on left right) = refl
source-over (Filter cond) (Index left seek how) = refl
source-over (Project columns) child = refl
source-over (Sort keys) child = refl
source-over (Group keys items) child = refl

pub returns-in_default : goal.returns-in_default
returns-in_default c = λ t h. absurd (none_stands _ (Rooted t) _ c.in_default.ensures.node h)

pub returns-in-Scan : goal.returns-in-Scan
returns-in-Scan c = λ t h. sym (ap is_source (rooted_same (begins _ (Rooted t) _ _ _ c.in-Scan.is c.in-Some.ensures.node h)))

pub returns-then-is_filter : goal.returns-then-is_filter
returns-then-is_filter c =
    λ t h. let i : OverOne _ _ _ _ _ = begins _ (Rooted t) _ _ _ c.in-Over.is c.in-Some.ensures.node h in
    and_true c.is_filter.ensures c.if-is_filter.true (c.is_scan.ensures i.tree i.stands) (ap is_source (rooted_same i.is) ∙ source-over _ i.tree)

pub returns-else-is_filter : goal.returns-else-is_filter
returns-else-is_filter c =
    λ t h. let i : OverOne _ _ _ _ _ = begins _ (Rooted t) _ _ _ c.in-Over.is c.in-Some.ensures.node h in
    and_false _ c.is_filter.ensures c.if-is_filter.false (ap is_source (rooted_same i.is) ∙ source-over _ i.tree)

pub returns-in-Join : goal.returns-in-Join
returns-in-Join c =
    λ t h. let i : OverTwo _ _ _ _ _ _ _ = begins _ (Rooted t) _ _ _ c.in-Join.is c.in-Some.ensures.node h in sym (ap is_source (rooted_same i.is))

pub returns-in-Index : goal.returns-in-Index
returns-in-Index c =
    λ t h. let i : OverSeek _ _ _ _ _ _ = begins _ (Rooted t) _ _ _ c.in-Index.is c.in-Some.ensures.node h in sym (ap is_source (rooted_same i.is))

pub returns-in-Seek : goal.returns-in-Seek
returns-in-Seek c = λ t h. absurd (no_seek t _ (begins _ (Rooted t) _ _ _ c.in-Seek.is c.in-Some.ensures.node h))
