use Rattle.std.proofs.Common.{◌≡◌, ◌≤◌, length, ℕ, ◌+◌, ◌-◌, List, sym, ap, subst, ◌∙◌, arith}
use Rattle.std.proofs.lemmas.List.{with_items_is}
use Rattle.pm_plan.specs.declared.gauge.Gauge.{Gauge}
use Rattle.pm_plan.specs.declared.gauge.Bound.{Bound}
use Rattle.pm_bounds.specs.Enclosure.{Narrows}
use Rattle.pm_bounds.specs.Moment.{plan_bounds}
use Rattle.pm_refine.specs.declared.refiner.Refiner.TheInside.{Inside}
use Rattle.pm_refine.specs.Refined.{Refined}
use Rattle.pm_refine.specs.Refining.{StandsFor, IsBefore, refined_of, bound_of_whole}
use Rattle.pm_refine.specs.Steps.{AreSums, AreRefreshed, IsStale}
use Rattle.pm_refine.proofs.Stale.{whole_stale, whole_sums, work_small, whole_stands, whole_narrows}
use Rattle.pm_refine.proofs.refiner.Refiner.after.Goals as goal

-- what is known of the refiner before the event, by its fields
before : (a : Inside) (r : Refined) (node : ℕ) (gauges : List Gauge) → refined_of a ≡ r → IsBefore r node gauges → IsBefore (refined_of a) node gauges
before a r node gauges e b = subst (λ x. IsBefore x node gauges) (sym e) b

within : (a : Inside) (r : Refined) (node : ℕ) → refined_of a ≡ r → node ≤ length r.plan.nodes → node ≤ length a.plan.now.nodes
within a r node e last = omega (arith, last, ap (λ x. length x.plan.nodes) e)

pub refresh-requires-clause-stale : goal.refresh-requires-clause-stale
refresh-requires-clause-stale c =
    subst (λ k. IsStale c.self.inside.plan.now 1 (k + 1) c.args.node c.args.gauges.now c.deref_mut.result.now) (sym c.len-upto.ensures)
    (subst (IsStale c.self.inside.plan.now 1 (length c.self.inside.plan.now.nodes + 1) c.args.node c.args.gauges.now) (sym c.deref_mut.ensures.value)
    (whole_stale (refined_of c.self.inside) c.args.node c.args.gauges.now (before c.self.inside c.args.self.now c.args.node c.args.gauges.now c.self.view_is c.requires.event)))

pub refresh-requires-clause-sums : goal.refresh-requires-clause-sums
refresh-requires-clause-sums c =
    subst (λ l. AreSums l c.self.inside.whole) (sym c.deref_mut.ensures.value)
    (whole_sums (refined_of c.self.inside) c.args.node c.args.gauges.now (before c.self.inside c.args.self.now c.args.node c.args.gauges.now c.self.view_is c.requires.event))

pub overflow_add-self : goal.overflow_add-self
overflow_add-self c =
    omega (
      arith,
      c.refresh.ensures.work,
      work_small (refined_of c.self.inside) c.args.node c.args.gauges.now (before c.self.inside c.args.self.now c.args.node c.args.gauges.now c.self.view_is c.requires.event) c.requires.first
          (within c.self.inside c.args.self.now c.args.node c.self.view_is c.requires.last),
    )

-- what the call has brought up to date, over the fields
fresh : (a : Inside) (upto : ℕ) (gauges : List Gauge) → upto ≡ length a.plan.now.nodes → (old new : List Bound) → old ≡ a.bounds.items
    → AreRefreshed 0 (upto + 1 - 1) old new (plan_bounds a.plan.now gauges) → AreRefreshed 0 (length a.plan.now.nodes) a.bounds.items new (plan_bounds a.plan.now gauges)
fresh a upto gauges long old new is h =
    subst (λ l. AreRefreshed 0 (length a.plan.now.nodes) l new (plan_bounds a.plan.now gauges)) is
    (let e : upto + 1 - 1 ≡ length a.plan.now.nodes = omega (arith, long) in subst (λ k. AreRefreshed 0 k old new (plan_bounds a.plan.now gauges)) e h)

pub returns-clause-stands : goal.returns-clause-stands
returns-clause-stands c =
    let b = before c.self.inside c.args.self.now c.args.node c.args.gauges.now c.self.view_is c.requires.event in
    subst (λ l. StandsFor (record { plan = c.self.inside.plan.now; bounds = l; whole = record c.refresh.new.whole { work = c.refresh.new.whole.work + 1 } }) c.args.gauges.now)
    (sym (with_items_is c.self.inside.bounds c.refresh.new.bounds (c.refresh.auto.bounds ∙ c.deref_mut.ensures.len)))
    (whole_stands (refined_of c.self.inside) c.args.node c.args.gauges.now b c.refresh.new.bounds c.refresh.new.whole
    (fresh c.self.inside c.len-upto.result c.args.gauges.now c.len-upto.ensures c.deref_mut.result.now c.refresh.new.bounds c.deref_mut.ensures.value c.refresh.ensures.refreshed) c.refresh.ensures.sums
    (c.refresh.auto.bounds ∙ ap length c.deref_mut.ensures.value ∙ (whole_stale (refined_of c.self.inside) c.args.node c.args.gauges.now b).room) c.refresh.ensures.work c.requires.first
    (within c.self.inside c.args.self.now c.args.node c.self.view_is c.requires.last))

pub returns-clause-narrows : goal.returns-clause-narrows
returns-clause-narrows c =
    let b = before c.self.inside c.args.self.now c.args.node c.args.gauges.now c.self.view_is c.requires.event in
    subst (λ x. Narrows (bound_of_whole x.whole) (record { lo = c.refresh.new.whole.lo; hi = c.refresh.new.whole.hi })) c.self.view_is
    (whole_narrows (refined_of c.self.inside) c.args.node c.args.gauges.now b c.refresh.new.bounds c.refresh.new.whole
    (fresh c.self.inside c.len-upto.result c.args.gauges.now c.len-upto.ensures c.deref_mut.result.now c.refresh.new.bounds c.deref_mut.ensures.value c.refresh.ensures.refreshed) c.refresh.ensures.sums
    (c.refresh.auto.bounds ∙ ap length c.deref_mut.ensures.value ∙ (whole_stale (refined_of c.self.inside) c.args.node c.args.gauges.now b).room) c.refresh.ensures.work c.requires.first
    (within c.self.inside c.args.self.now c.args.node c.self.view_is c.requires.last))
