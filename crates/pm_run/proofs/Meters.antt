-- what a meter knows after it looked at the bounds, and after the line of an event
use Rattle.std.proofs.Common.{◌≡◌, ◌∙◌, ℕ, ◌+◌, ◌≤◌, sym, ap, subst}
use Rattle.std.specs.Prelude.{Some, IfSome}
use Rattle.pm_plan.specs.declared.gauge.Shown.{Shown}
use Rattle.pm_plan.specs.declared.plan.Plan.{Plan}
use Rattle.pm_plan.specs.Rows.{Db}
use Rattle.pm_plan.specs.Preorder.{tree_of}
use Rattle.pm_work.specs.Moments.{gauges_at}
use Rattle.pm_work.specs.Work.{whole_work}
use Rattle.pm_run.specs.declared.meter.Meter.{Meter}
use Rattle.pm_run.specs.IsBounding.{IsBounding}
use Rattle.pm_run.specs.IsMeter.{IsMeter, IsMoment}
use Rattle.pm_run.specs.Pace.{IsQuiet}

module _ (plan : Plan) (db : Db) (taken : ℕ) (old new : Meter) (same : new ≡ record old { bounding = new.bounding })
    (bounding : IsBounding plan (gauges_at db (tree_of plan.nodes) taken) new.bounding) where
  abbrev whole : ℕ
  whole = whole_work db (tree_of plan.nodes)

  pub after-look : (from : ℕ) → IsMeter plan db taken from old → IsMeter plan db taken from new
  after-look from is =
      record {
        pipes = ap (λ (m : Meter). m.pipes) same ∙ is.pipes;
        bounding = bounding;
        every = subst (λ (m : Meter). IfSome m.every (λ n. 1 ≤ n)) (sym same) is.every;
        quiet = subst (λ (m : Meter). IsQuiet m.every whole from m.next) (sym same) is.quiet;
      }

  pub after-line : (every next : ℕ) (shown : Shown) → IsMeter plan db taken taken old → old.every ≡ Some every → IsMoment whole taken shown
      → ((all : ℕ) → shown.lo ≤ all → IsQuiet (Some every) all (shown.work + 1) next) → IsMeter plan db taken (taken + 1) (record new { next = next })
  after-line every next shown is each moment quiet =
      record {
        pipes = ap (λ (m : Meter). m.pipes) same ∙ is.pipes;
        bounding = bounding;
        every = subst (λ (m : Meter). IfSome m.every (λ n. 1 ≤ n)) (sym same) is.every;
        quiet =
            subst (λ o. IsQuiet o whole (taken + 1) next) (sym (ap (λ (m : Meter). m.every) same ∙ each))
            (subst (λ k. IsQuiet (Some every) whole (k + 1) next) moment.work (quiet whole moment.below));
      }
