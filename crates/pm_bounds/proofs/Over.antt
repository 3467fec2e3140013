-- the bounds of an operator over a child, from what is known of the child
use Rattle.std.proofs.Common.{◌≡◌, ℕ, suc, ◌+◌, ◌≤◌, List, [], ◌∷◌, length, take, ap, ◌∙◌, ◌⊎◌, inl, inr, arith, length-take}
use Rattle.std.proofs.lemmas.List.{length-map}
use Rattle.std.proofs.lemmas.Bool.{cases_lt}
use Rattle.std.proofs.Math.Seq.{take-length}
use Rattle.pm_values.specs.Row.{Row, pick}
use Rattle.pm_values.specs.Condition.{keeps}
use Rattle.pm_plan.specs.declared.gauge.Gauge.{Gauge}
use Rattle.pm_plan.specs.declared.gauge.Bound.{Bound}
use Rattle.pm_plan.specs.Outputs.{rows_over}
use Rattle.pm_plan.specs.Tree.{Unary, Filter, Project, Sort, Group}
use Rattle.pm_work.specs.Formulas.{exact, hi_over}
use Rattle.pm_work.specs.First.{unstarted, uncounted}
use Rattle.pm_work.specs.Moments.{settled_over}
use Rattle.pm_work.specs.Orderly.{OverIsOrderly}
use Rattle.pm_work.proofs.Sorts.{length-sorted}
use Rattle.pm_work.proofs.Joins.{length-filter_cut, length-filter_take, length-filter_step, length-filter_le}
use Rattle.pm_bounds.specs.Bounds.{lo_over}
use Rattle.pm_bounds.specs.Enclosure.{Encloses, Narrows}
use Rattle.pm_bounds.proofs.Groups.{groups_in, groups_cut, groups_step, groups_some, length-grouped}

-- of an operator that has so much settled, over a child with this count and these bounds
abbrev pub over_bound : Unary → Gauge → ℕ → ℕ → ℕ → Bound
over_bound op g count l h = record { lo = lo_over op g l; hi = hi_over exact op g (record { count = count; hi = h }) }

pub over_encloses : (op : Unary) (g : Gauge) (rows : List Row) (count k l h : ℕ) → g.settled ≡ settled_over op (take k rows)
    → count ≤ length (rows_over op rows) → OverIsOrderly op count (settled_over op (take k rows)) k (length rows)
    → k ≤ l → l ≤ length rows → length rows ≤ h → Encloses count (over_bound op g k l h) (length (rows_over op rows))
over_encloses (Filter c) g rows count k l h s a o b d e = record {
  counted = omega (arith, s, o);
  below = omega (arith, s, length-filter_take (keeps c) k rows);
  above = omega (arith, s, length-filter_cut (keeps c) k rows, e);
}
over_encloses (Project columns) g rows count k l h s a o b d e =
    let same = length-map rows (pick columns) in
    record { counted = omega (arith, o, b); below = omega (arith, same, d); above = omega (arith, same, e) }
over_encloses (Sort keys) g rows count k l h s a o b d e =
    let same = length-sorted keys rows in
    record { counted = omega (arith, o.within, b); below = omega (arith, same, d); above = omega (arith, same, e) }
over_encloses (Group [] items) g rows count k l h s a o b d e = record { counted = a; below = omega arith; above = omega arith }
over_encloses (Group (c ∷ cs) items) g rows count k l h s a o b d e =
    let all = length-grouped (c ∷ cs) items rows in
    let some = length-grouped (c ∷ cs) items (take k rows) in
    let cut = groups_cut (c ∷ cs) k rows in record {
      counted = elim (cases_lt 0 count) [
        | inl p ↦
            let full : groups_in (c ∷ cs) (take k rows) ≡ groups_in (c ∷ cs) rows = ap (λ i. groups_in (c ∷ cs) (take i rows)) (o p) ∙ ap (groups_in (c ∷ cs)) (take-length rows) in
            omega (arith, a, all, some, s, full)
        | inr z ↦ omega (arith, z)
      ];
      below = omega (arith, cut, d, groups_some c cs rows, all, some, s);
      above = omega (arith, cut, e, all, some, s);
    }

-- one row more of the child, or the same rows
abbrev pub Moves : ℕ → ℕ → Type 0
Moves k k' = (k' ≡ suc k) ⊎ (k' ≡ k)

-- what is settled grows, by no more than the rows that have come
settled_moves : (op : Unary) (k k' : ℕ) (rows : List Row) → Moves k k'
    → (settled_over op (take k rows) ≤ settled_over op (take k' rows)) × (settled_over op (take k' rows) + k ≤ settled_over op (take k rows) + k')
settled_moves op k k' rows (inr e) = let same : settled_over op (take k' rows) ≡ settled_over op (take k rows) = ap (λ i. settled_over op (take i rows)) e in (omega (arith, same), omega (arith, same, e))
settled_moves (Filter c) k k' rows (inl e) =
    let same : settled_over (Filter c) (take k' rows) ≡ settled_over (Filter c) (take (suc k) rows) = ap (λ i. settled_over (Filter c) (take i rows)) e in
    let step = length-filter_step (keeps c) k rows in
    (omega (arith, same, step), omega (arith, same, step, e))
settled_moves (Project columns) k k' rows (inl e) = (omega arith, omega (arith, e))
settled_moves (Sort keys) k k' rows (inl e) = (omega arith, omega (arith, e))
settled_moves (Group keys items) k k' rows (inl e) =
    let same : settled_over (Group keys items) (take k' rows) ≡ settled_over (Group keys items) (take (suc k) rows) = ap (λ i. settled_over (Group keys items) (take i rows)) e in
    let step = groups_step keys k rows in
    let now = length-grouped keys items (take k rows) in
    let then = length-grouped keys items (take (suc k) rows) in
    (omega (arith, same, step, now, then), omega (arith, same, step, now, then, e))

pub over_narrows : (op : Unary) (g g' : Gauge) (rows : List Row) (k k' l l' h h' : ℕ)
    → g.settled ≡ settled_over op (take k rows) → g'.settled ≡ settled_over op (take k' rows) → Moves k k'
    → l ≤ l' → h' ≤ h → k' ≤ h' → Narrows (over_bound op g k l h) (over_bound op g' k' l' h')
over_narrows (Filter c) g g' rows k k' l l' h h' s t m a b d =
    let step = settled_moves (Filter c) k k' rows m in
    record { lo_rises = omega (arith, step, s, t); hi_falls = omega (arith, step, s, t, b, d) }
over_narrows (Project columns) g g' rows k k' l l' h h' s t m a b d = record { lo_rises = a; hi_falls = b }
over_narrows (Sort keys) g g' rows k k' l l' h h' s t m a b d = record { lo_rises = a; hi_falls = b }
over_narrows (Group [] items) g g' rows k k' l l' h h' s t m a b d = record { lo_rises = omega arith; hi_falls = omega arith }
over_narrows (Group (c ∷ cs) items) g g' rows k k' l l' h h' s t m a b d =
    let step = settled_moves (Group (c ∷ cs) items) k k' rows m in
    record { lo_rises = omega (arith, step, s, t, a); hi_falls = omega (arith, step, s, t, b, d) }

-- no more than before any event, where the child's bound is within its first one
pub over_within : (op : Unary) (g : Gauge) (rows : List Row) (k h first : ℕ) → g.settled ≡ settled_over op (take k rows) → k ≤ h → h ≤ first
    → hi_over exact op g (record { count = k; hi = h }) ≤ hi_over exact op unstarted (uncounted first)
over_within (Filter c) g rows k h first s a b = omega (arith, s, a, b, length-filter_le (keeps c) (take k rows), length-take k rows)
over_within (Project columns) g rows k h first s a b = b
over_within (Sort keys) g rows k h first s a b = b
over_within (Group [] items) g rows k h first s a b = omega arith
over_within (Group (c ∷ cs) items) g rows k h first s a b =
    omega (arith, s, a, b, length-grouped (c ∷ cs) items (take k rows), groups_cut (c ∷ cs) 0 (take k rows), length-take k rows)

-- all rows of the child have come
pub over_ends : (op : Unary) (g : Gauge) (rows : List Row) (k h : ℕ) → g.settled ≡ settled_over op (take k rows) → h ≤ k → h ≤ length rows
    → hi_over exact op g (record { count = k; hi = h }) ≤ length (rows_over op rows)
over_ends (Filter c) g rows k h s a b = omega (arith, s, a, length-filter_take (keeps c) k rows)
over_ends (Project columns) g rows k h s a b = omega (arith, b, length-map rows (pick columns))
over_ends (Sort keys) g rows k h s a b = omega (arith, b, length-sorted keys rows)
over_ends (Group [] items) g rows k h s a b = omega arith
over_ends (Group (c ∷ cs) items) g rows k h s a b =
    omega (arith, s, a, length-grouped (c ∷ cs) items (take k rows), length-grouped (c ∷ cs) items rows, groups_cut (c ∷ cs) k rows)
