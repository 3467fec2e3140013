-- lists of bounds that are rewritten entry by entry, and their sums
use Rattle.std.proofs.Common.{◌≡◌, ◌≢◌, ℕ, suc, ◌+◌, ◌-◌, ◌<◌, ◌≤◌, List, [], ◌∷◌, length, refl, sym, ap, ◌∙◌, ◌⊎◌, inl, inr, arith}
use Rattle.std.specs.Prelude.{sum_by}
use Rattle.std.proofs.Math.Nat.{le_refl}
use Rattle.std.proofs.Math.ListN.{set}
use Rattle.std.proofs.lemmas.Bool.{cases_lt}
use Rattle.std.proofs.lemmas.List.{ext_get_or, get_or-set_same, get_or-set_other, length-set}
use Rattle.std.proofs.lemmas.List.Sums.{sum_by-cons, sum_by-set, sum_by_more_le}
use Rattle.pm_plan.specs.declared.gauge.Gauge.{Gauge}
use Rattle.pm_plan.specs.declared.gauge.Bound.{Bound}
use Rattle.pm_plan.specs.declared.plan.Plan.{Plan}
use Rattle.pm_bounds.specs.Moment.{AreGauges, plan_bounds}
use Rattle.pm_bounds.proofs.Written.{plan_long, sums_are, SumsSmall, sums_small}
use Rattle.pm_refine.specs.Steps.{bound_at, sum_lo, sum_hi, SumsFit, AreBetween, AreRefreshed}

-- ---- sums

sum_le : (f : Bound → ℕ) (xs ys : List Bound) → length xs ≡ length ys → ((i : ℕ) → f (bound_at xs i) ≤ f (bound_at ys i)) → sum_by f xs ≤ sum_by f ys
sum_le f [] [] e h = le_refl (sum_by f [])
sum_le f [] (y ∷ ys) e h = absurd (omega (arith, e))
sum_le f (x ∷ xs) [] e h = absurd (omega (arith, e))
sum_le f (x ∷ xs) (y ∷ ys) e h =
    let first : f x ≤ f y = h 0 in
    let rest : sum_by f xs ≤ sum_by f ys = sum_le f xs ys (omega (arith, e)) (λ i. h (suc i)) in
    omega (arith, sum_by-cons f x xs, sum_by-cons f y ys, first, rest)

pub element_le : (f : Bound → ℕ) (xs : List Bound) (i : ℕ) → i < length xs → f (bound_at xs i) ≤ sum_by f xs
element_le f xs i less = omega (arith, sum_by_more_le f xs i (record { lo = 0; hi = 0 }) less)

pub sum_set : (f : Bound → ℕ) (xs : List Bound) (i : ℕ) (y : Bound) → i < length xs → sum_by f (set xs i y) + f (bound_at xs i) ≡ sum_by f xs + f y
sum_set f xs i y less = sum_by-set f xs i y (record { lo = 0; hi = 0 }) less

-- ---- entries before and after an event

from_either : (l0 l1 D0 D1 : List Bound) → ((i : ℕ) → (bound_at l1 i ≡ bound_at D1 i) ⊎ (bound_at l1 i ≡ bound_at l0 i)) → AreBetween l0 D0 D1 → AreBetween l1 D0 D1
from_either l0 l1 D0 D1 either b =
    record {
      lower = λ i. elim (either i) [
        | inl e ↦ omega (arith, ap (λ x. x.lo) e)
        | inr e ↦ omega (arith, ap (λ x. x.lo) e, b.lower i)
      ];
      upper = λ i. elim (either i) [
        | inl e ↦ omega (arith, ap (λ x. x.hi) e, b.falls i)
        | inr e ↦ omega (arith, ap (λ x. x.hi) e, b.upper i)
      ];
      falls = b.falls;
    }

at_set : (l D : List Bound) (k i : ℕ) → k < length l → (bound_at (set l k (bound_at D k)) i ≡ bound_at D i) ⊎ (bound_at (set l k (bound_at D k)) i ≡ bound_at l i)
at_set l D k i less =
    elim (cases_lt i k) [
      | inl before ↦ let ne : i ≢ k = λ e. absurd (omega (arith, e, before)) in inr (get_or-set_other l k i (bound_at D k) (record { lo = 0; hi = 0 }) ne)
      | inr upon ↦ elim (cases_lt k i) [
        | inl past ↦ let ne : i ≢ k = λ e. absurd (omega (arith, e, past)) in inr (get_or-set_other l k i (bound_at D k) (record { lo = 0; hi = 0 }) ne)
        | inr at ↦
            let e : i ≡ k = omega arith in
            inl (ap (bound_at (set l k (bound_at D k))) e ∙ get_or-set_same l k (bound_at D k) (record { lo = 0; hi = 0 }) less ∙ sym (ap (bound_at D) e))
      ]
    ]

pub set_between : (l D0 D1 : List Bound) (k : ℕ) → k < length l → AreBetween l D0 D1 → AreBetween (set l k (bound_at D1 k)) D0 D1
set_between l D0 D1 k less b = from_either l (set l k (bound_at D1 k)) D0 D1 (λ i. at_set l D1 k i less) b

pub refreshed_between : (from upto : ℕ) (l0 l1 D0 D1 : List Bound) → AreRefreshed from upto l0 l1 D1 → AreBetween l0 D0 D1 → AreBetween l1 D0 D1
refreshed_between from upto l0 l1 D0 D1 r b =
    from_either l0 l1 D0 D1 (λ i. elim (cases_lt i from) [
      | inl before ↦ inr (r.outside i (inl before))
      | inr upon ↦ elim (cases_lt i upto) [
        | inl in_range ↦ inl (r.inside i upon in_range)
        | inr past ↦ inr (r.outside i (inr past))
      ]
    ]) b

-- the sums of bounds between those before and after an event have a place in 128 bits
pub sums_fit : (plan : Plan) (earlier gauges : List Gauge) (l : List Bound) → AreGauges plan earlier → AreGauges plan gauges → length l ≡ length plan.nodes
    → AreBetween l (plan_bounds plan earlier) (plan_bounds plan gauges) → SumsFit l
sums_fit plan earlier gauges l a b long between =
    let small : SumsSmall plan gauges b = sums_small plan gauges b in
    let small_before : SumsSmall plan earlier a = sums_small plan earlier a in
    let below : sum_lo l ≤ sum_lo (plan_bounds plan gauges) = sum_le (λ x. x.lo) l (plan_bounds plan gauges) (long ∙ sym (plan_long plan gauges b)) between.lower in
    let above : sum_hi l ≤ sum_hi (plan_bounds plan earlier) = sum_le (λ x. x.hi) l (plan_bounds plan earlier) (long ∙ sym (plan_long plan earlier a)) between.upper in
    record {
      lower = omega (arith, below, ap (λ w. w.lo) (sums_are plan gauges b (plan_bounds plan gauges) refl), small.lo);
      upper = omega (arith, above, ap (λ w. w.hi) (sums_are plan earlier a (plan_bounds plan earlier) refl), small_before.hi);
    }

pub set_fit : (plan : Plan) (earlier gauges : List Gauge) (l : List Bound) (n : ℕ) → AreGauges plan earlier → AreGauges plan gauges → length l ≡ length plan.nodes
    → n - 1 < length l → AreBetween l (plan_bounds plan earlier) (plan_bounds plan gauges) → SumsFit (set l (n - 1) (bound_at (plan_bounds plan gauges) (n - 1)))
set_fit plan earlier gauges l n a b long less between =
    sums_fit plan earlier gauges (set l (n - 1) (bound_at (plan_bounds plan gauges) (n - 1))) a b (length-set l (n - 1) (bound_at (plan_bounds plan gauges) (n - 1)) ∙ long)
    (set_between l (plan_bounds plan earlier) (plan_bounds plan gauges) (n - 1) less between)

-- all entries are those of the list
pub all_refreshed : (size : ℕ) (l0 l1 D : List Bound) → length l1 ≡ size → length D ≡ size → AreRefreshed 0 size l0 l1 D → l1 ≡ D
all_refreshed size l0 l1 D long as_long r =
    ext_get_or (record { lo = 0; hi = 0 }) l1 D (long ∙ sym as_long) (λ i less. r.inside i (omega arith) (omega (arith, long, less)))
