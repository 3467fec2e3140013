-- after all events: each bound is exact, and the work done is the whole work
use Rattle.std.proofs.Common.{◌≡◌, length, ◌∙◌}
use Rattle.pm_plan.specs.Rows.{Db}
use Rattle.pm_plan.specs.Tree.{Tree, right_number}
use Rattle.pm_plan.specs.Outputs.{output, sought}
use Rattle.pm_plan.proofs.Walks.{sum_at-same, sum_at-sum_in}
use Rattle.pm_work.specs.Events.{events, counts}
use Rattle.pm_work.specs.Moments.{Gauges, HasGauges}
use Rattle.pm_work.specs.Work.{whole_work}
use Rattle.pm_work.specs.Fits.{IsSound}
use Rattle.pm_work.proofs.Flags.{flags}
use Rattle.pm_bounds.specs.Bounds.{work_done}
use Rattle.pm_bounds.specs.Enclosure.{AllExact}
use Rattle.pm_bounds.proofs.Exact.{all_exact}
use Rattle.pm_bounds.proofs.Moments.{at_end, orderly_end}
use Rattle.pm_bounds.proofs.Wholes.{work_is}

pub ends : (db : Db) (tree : Tree) (G : Gauges) → IsSound db tree → HasGauges db tree 1 (counts (events db tree 1)) G → AllExact db tree 1 G
ends db tree G sound g = all_exact db (counts (events db tree 1)) G tree 1 (flags db tree sound) (orderly_end db tree sound) g (at_end db tree)

pub work_at_end : (db : Db) (tree : Tree) (G : Gauges) → HasGauges db tree 1 (counts (events db tree 1)) G → work_done tree G ≡ whole_work db tree
work_at_end db tree G g =
    work_is db tree (counts (events db tree 1)) G g
    ∙ sum_at-same (λ t m. counts (events db tree 1) m) (λ t m. length (output db t)) (λ left seek m. counts (events db tree 1) (right_number m left))
    (λ left seek m. length (sought db seek (output db left))) tree 1 (at_end db tree)
    ∙ sum_at-sum_in (λ t. length (output db t)) (λ left seek. length (sought db seek (output db left))) tree 1
