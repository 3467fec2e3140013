-- the numbers at every moment of a run are certified
use Rattle.std.proofs.Common.{◌≡◌, ℕ, ◌+◌, ◌*◌, ◌<◌, ◌≤◌, ◌^◌, Bool, true, false, Some, None, ap, subst, ◌∙◌, arith}
use Rattle.std.specs.Prelude.{if◌then◌else◌, nat_lt, unwrap_or}
use Rattle.pm_fraction.specs.Root.{root}
use Rattle.pm_plan.specs.Rows.{Db}
use Rattle.pm_plan.specs.Tree.{Tree}
use Rattle.pm_work.specs.First.{first_bound, most_work}
use Rattle.pm_work.specs.Moments.{HasGauges, counts_at}
use Rattle.pm_work.specs.Work.{whole_work, scanned_rows}
use Rattle.pm_work.specs.Fits.{IsSound, sizes_of}
use Rattle.pm_work.proofs.Counting.{counts-moment}
use Rattle.pm_work.proofs.Flags.{flags}
use Rattle.pm_bounds.specs.Bounds.{work_done, lo_whole, hi_whole, whole_bound}
use Rattle.pm_bounds.specs.Enclosure.{Encloses, AllExact}
use Rattle.pm_bounds.proofs.CapsHold.{whole_bounded}
use Rattle.pm_bounds.proofs.Ends.{ends}
use Rattle.pm_bounds.proofs.First.{all_within_first}
use Rattle.pm_bounds.proofs.Moments.{last_counts, moment, moment_gauges, moment_orderly, moment_enclosed, moment_narrow}
use Rattle.pm_bounds.proofs.Wholes.{whole_enclosed, whole_narrow, whole_exact, work_is, scanned_within}
use Rattle.pm_estim.specs.Estimates.{shown_at, SafeIsNear}
use Rattle.pm_estim.specs.Certified.{IsCertified, AreCertified}
use Rattle.pm_estim.proofs.Drivers.{drivers_handed, drivers_within, drivers_some}
use Rattle.pm_estim.proofs.Estimates.{safe_near, percent_encloses}

-- where the root is shown, it is the root
safe_is : (b : Bool) (r g : ℕ) → (if b then Some r else None) ≡ Some g → r ≡ g
safe_is true r g e = ap (λ o. unwrap_or o 0) e
safe_is false r g e = absurd (cc e)

module _ (db : Db) (tree : Tree) where
  moment_work : (t : ℕ) → t ≤ whole_work db tree → work_done tree (moment db tree t) ≡ t
  moment_work t within = work_is db tree (counts_at db tree t) (moment db tree t) (moment_gauges db tree t) ∙ counts-moment db tree t within

  module _ (sound : IsSound db tree) (bounded : first_bound (sizes_of db) tree ≤ most_work) where
    encloses : (t : ℕ) → Encloses (work_done tree (moment db tree t)) (whole_bound tree (moment db tree t)) (whole_work db tree)
    encloses t = whole_enclosed db tree (moment db tree t) (moment_enclosed db tree sound t)

    limited : (t : ℕ) → hi_whole tree (moment db tree t) ≤ most_work
    limited t =
        whole_bounded db tree bounded (moment db tree t)
        (all_within_first db (counts_at db tree t) (moment db tree t) tree 1 (flags db tree sound) (moment_orderly db tree sound t) (moment_gauges db tree t))

    last_exact : AllExact db tree 1 (moment db tree (whole_work db tree))
    last_exact =
        ends db tree (moment db tree (whole_work db tree)) sound
        (subst (λ K. HasGauges db tree 1 K (moment db tree (whole_work db tree))) (last_counts db tree) (moment_gauges db tree (whole_work db tree)))

    each : (t : ℕ) → 1 ≤ t → t ≤ whole_work db tree → IsCertified (whole_work db tree) (scanned_rows db tree) (shown_at db tree t)
    each t begun within =
        let e = encloses t in
        let near : SafeIsNear (lo_whole tree (moment db tree t)) (whole_work db tree) (hi_whole tree (moment db tree t)) = safe_near _ _ _ e.below e.above in
        let some : 1 ≤ work_done tree (moment db tree t) = omega (arith, moment_work t within, begun) in
        record {
          enclosed = e;
          limited = limited t;
          scans = scanned_within db (counts_at db tree t) (moment db tree t) tree (moment_gauges db tree t);
          driven = drivers_handed db tree (moment db tree t) (moment_enclosed db tree sound t);
          drivers = drivers_some db (counts_at db tree t) (moment db tree t) tree (flags db tree sound) (moment_orderly db tree sound t) (moment_gauges db tree t) some;
          drivers_within = drivers_within (moment db tree t) tree;
          safe_below = λ g shown.
              let r : root (lo_whole tree (moment db tree t) * hi_whole tree (moment db tree t)) ≡ g = safe_is (nat_lt (lo_whole tree (moment db tree t) * hi_whole tree (moment db tree t)) (2 ^ 128)) _ g shown in
              subst (λ x. x * x * lo_whole tree (moment db tree t) ≤ hi_whole tree (moment db tree t) * whole_work db tree * whole_work db tree) r near.least;
          safe_above = λ g shown.
              let r : root (lo_whole tree (moment db tree t) * hi_whole tree (moment db tree t)) ≡ g = safe_is (nat_lt (lo_whole tree (moment db tree t) * hi_whole tree (moment db tree t)) (2 ^ 128)) _ g shown in
              subst (λ x. whole_work db tree * whole_work db tree * lo_whole tree (moment db tree t) < hi_whole tree (moment db tree t) * (x + 1) * (x + 1)) r
              (near.most (omega (arith, e.counted, e.below, e.above, some)));
          percent = percent_encloses _ _ _ _ some e.counted e.below e.above;
        }

    pub certified : AreCertified db tree
    certified =
        record {
          each = each;
          work = moment_work;
          narrows = λ t u before within. whole_narrow tree (moment db tree t) (moment db tree u) (moment_narrow db tree sound t u before within);
          ends = whole_exact db tree (moment db tree (whole_work db tree)) last_exact;
          each_encloses = λ t within. moment_enclosed db tree sound t;
          each_narrows = λ t u before within. moment_narrow db tree sound t u before within;
          each_ends = last_exact;
        }
