use Rattle.std.proofs.Common.{sym, ap}
use Rattle.pm_plan.specs.Standing.{subplan_table}
use Rattle.pm_plan.proofs.Inversion.{OverOne, OverTwo, OverSeek, begins, none_stands}
use Rattle.pm_plan.proofs.shape.scanned_table.Goals as goal

pub returns-in_err-root : goal.returns-in_err-root
returns-in_err-root c = λ p h. absurd (none_stands _ p _ c.in_err-root.ensures.node h)

pub returns-in-Scan : goal.returns-in-Scan
returns-in-Scan c = λ p h. sym (ap subplan_table (begins _ p _ _ _ c.in-Scan.is c.in_ok-root.ensures.node h))

pub returns-in-Over : goal.returns-in-Over
returns-in-Over c =
    λ p h. let i : OverOne _ _ _ _ _ = begins _ p _ _ _ c.in-Over.is c.in_ok-root.ensures.node h in sym (ap subplan_table i.is)

pub returns-in-Join : goal.returns-in-Join
returns-in-Join c =
    λ p h. let i : OverTwo _ _ _ _ _ _ _ = begins _ p _ _ _ c.in-Join.is c.in_ok-root.ensures.node h in sym (ap subplan_table i.is)

pub returns-in-Index : goal.returns-in-Index
returns-in-Index c =
    λ p h. let i : OverSeek _ _ _ _ _ _ = begins _ p _ _ _ c.in-Index.is c.in_ok-root.ensures.node h in sym (ap subplan_table i.is)

pub returns-in-Seek : goal.returns-in-Seek
returns-in-Seek c = λ p h. sym (ap subplan_table (begins _ p _ _ _ c.in-Seek.is c.in_ok-root.ensures.node h))
