-- the bounds of a join of two sides, from what is known of the sides
use Rattle.std.proofs.Common.{◌≡◌, ℕ, suc, ◌+◌, ◌-◌, ◌*◌, ◌<◌, ◌≤◌, Bool, true, false, List, length, take, drop, min, max, refl, sym, ap, subst, ◌∙◌, ◌⊎◌, inl, inr, arith, length-drop, length-take}
use Rattle.std.specs.Prelude.{if◌then◌else◌}
use Rattle.std.proofs.lemmas.Bool.{cases_lt}
use Rattle.std.proofs.Math.Nat.{mul-le-mul, le_refl, le_trans}
use Rattle.pm_values.specs.Row.{Row}
use Rattle.pm_plan.specs.declared.gauge.Gauge.{Gauge}
use Rattle.pm_plan.specs.declared.gauge.Bound.{Bound}
use Rattle.pm_plan.specs.declared.plan.Unique.{Unique}
use Rattle.pm_plan.specs.Joins.{right_columns, join, joined_by, worst}
use Rattle.pm_plan.specs.Tree.{Method, Hash, Merge, On, pads}
use Rattle.pm_work.specs.Formulas.{exact, Side, pairs_hi, most_matches, hi_joined}
use Rattle.pm_work.specs.First.{unstarted, uncounted}
use Rattle.pm_work.specs.Moments.{worst_joined}
use Rattle.pm_work.specs.Orderly.{JoinIsOrderly}
use Rattle.pm_work.specs.Facts.{FlagsHold}
use Rattle.pm_work.proofs.Joins.{at_least_one_if, at_least_mono, worst_cut, worst_step, worst_one, worst_few, AtMostOne_take, joined_le_worst, joined_cut_left, joined_cut_right, joined_step_left, joined_step_worst, joined_settled, joined_take_le, joined_ge, joined_le_left, join_le_product, join_step_right, join_le_right, join_ge, padded_le, padded_each, padded_step, joined_row_le}
use Rattle.pm_bounds.specs.Bounds.{lo_joined}
use Rattle.pm_bounds.specs.Enclosure.{Encloses, Narrows}
use Rattle.pm_bounds.proofs.Pairs.{capped_above, capped_mono, capped_below, min_mono, pairs_sum, pairs_above, pairs_left, pairs_right, pairs_still, pairs_first, pairs_end, rated, rate_above, rate_left, rate_still, rate_first, nothing_left}

-- a side with this count and this upper bound
abbrev pub side : ℕ → ℕ → Side
side k h = record { count = k; hi = h }

-- of a join, over a left side with this count, lower and upper bound, and a right side with this count and upper bound
abbrev pub joined_bound : Method → Unique → Gauge → ℕ → ℕ → ℕ → ℕ → ℕ → Bound
joined_bound method unique g k l hl j hr = record { lo = lo_joined method unique g k l; hi = hi_joined exact method unique g (side k hl) (side j hr) }

-- ---- where a flag is set, the cap holds

below_min : (a b c : ℕ) → a ≤ b → a ≤ c → a ≤ min b c
below_min a b c p q = omega arith

module _ (on : On) (ls rs : List Row) (flags : FlagsHold on ls rs) where
  abbrev columns : List ℕ
  columns = right_columns on.pairs

  pairs_enclose : (g : Gauge) (k j hl hr : ℕ) → g.settled ≡ length (join on.pairs (take k ls) (take j rs)) → length ls ≤ hl → length rs ≤ hr
      → length (join on.pairs ls rs) ≤ pairs_hi exact on.unique g (side k hl) (side j hr)
  pairs_enclose g k j hl hr s l r =
      let all : ℕ = length (join on.pairs ls rs) in
      let first : length (join on.pairs (take k ls) rs) ≤ g.settled + k * (length rs - j) =
      le_trans (joined_cut_right Merge on.pairs 0 j rs (take k ls)).0
      (let few : length (take k ls) * (length rs - j) ≤ k * (length rs - j) = mul-le-mul (omega (arith, length-take k ls)) (le_refl (length rs - j)) in omega (arith, s)) in
      let rest : length (join on.pairs (drop k ls) rs) ≤ (length ls - k) * length rs =
      subst (λ m. length (join on.pairs (drop k ls) rs) ≤ m * length rs) (length-drop k ls) (join_le_product on.pairs (drop k ls) rs) in
      capped_above on.unique.right all hl _ (λ e. omega (arith, joined_le_left Merge on.pairs 0 ls rs (flags.right e), l))
      (capped_above on.unique.left all hr _ (λ e. omega (arith, join_le_right on.pairs ls rs (flags.left e), r))
      (pairs_above _ g.settled _ _ (length ls) hl (length rs) hr k j (joined_cut_left Merge on.pairs 0 k ls rs) first rest l r))

  -- a key has no more right rows than are said, once all are read
  most_above : (g : Gauge) (j hr : ℕ) → g.worst ≡ worst columns (take j rs) → length rs ≤ hr → worst columns rs ≤ most_matches exact on.unique g (side j hr)
  most_above g j hr w r =
      capped_above on.unique.right (worst columns rs) 1 _ (λ e. worst_one columns rs (flags.right e)) (omega (arith, worst_cut columns j rs, w, r))

  rate_encloses : (method : Method) (width : ℕ) (g : Gauge) (k j hl hr : ℕ) → g.settled ≡ length (joined_by method on.pairs width (take k ls) (take j rs))
      → g.worst ≡ worst columns (take j rs) → length ls ≤ hl → length rs ≤ hr → (0 < k → j ≡ length rs)
      → length (joined_by method on.pairs width ls rs) ≤ rated g.settled k hl (at_least_one_if (pads method) (most_matches exact on.unique g (side j hr)))
  rate_encloses method width g k j hl hr s w l r full =
      rate_above _ g.settled (length ls) k hl _ _ (omega (arith, joined_settled method on.pairs width k j ls rs full, s)) l
      (at_least_mono (pads method) _ _ (most_above g j hr w r))

-- ---- the lower bound where each left row may be known to have a match

abbrev pub matched : Bool → ℕ → ℕ → ℕ
matched flag s l = if flag then max s l else s

pub matched_counts : (flag : Bool) (s l : ℕ) → s ≤ matched flag s l
matched_counts true s l = omega arith
matched_counts false s l = omega arith

pub matched_below : (flag : Bool) (s l all : ℕ) → s ≤ all → (flag ≡ true → l ≤ all) → matched flag s l ≤ all
matched_below true s l all a b = omega (arith, a, b refl)
matched_below false s l all a b = a

pub matched_mono : (flag : Bool) (s l s' l' : ℕ) → s ≤ s' → l ≤ l' → matched flag s l ≤ matched flag s' l'
matched_mono true s l s' l' a b = omega (arith, a, b)
matched_mono false s l s' l' a b = a

-- ---- enclosure

pub joined_encloses : (method : Method) (on : On) (ls rs : List Row) (width : ℕ) (g : Gauge) (count k l j hl hr : ℕ) → FlagsHold on ls rs
    → g.settled ≡ length (joined_by method on.pairs width (take k ls) (take j rs)) → g.worst ≡ worst_joined method on.pairs (take j rs)
    → count ≤ length (joined_by method on.pairs width (take k ls) (take j rs)) → JoinIsOrderly method k j (length rs)
    → l ≤ length ls → length ls ≤ hl → length rs ≤ hr
    → Encloses count (joined_bound method on.unique g k l hl j hr) (length (joined_by method on.pairs width ls rs))
joined_encloses Merge on ls rs width g count k l j hl hr flags s w c o a b d =
    record {
      counted = omega (arith, matched_counts on.unique.total g.settled l, s, c);
      below =
          matched_below on.unique.total g.settled l (length (join on.pairs ls rs)) (omega (arith, s, joined_take_le Merge on.pairs 0 k j ls rs))
          (λ e. omega (arith, join_ge on.pairs ls rs (flags.total e), a));
      above = pairs_enclose on ls rs flags g k j hl hr s b d;
    }
joined_encloses (Hash false) on ls rs width g count k l j hl hr flags s w c o a b d =
    record {
      counted = omega (arith, matched_counts on.unique.total g.settled l, s, c);
      below =
          matched_below on.unique.total g.settled l (length (join on.pairs ls rs)) (omega (arith, s, joined_take_le Merge on.pairs 0 k j ls rs))
          (λ e. omega (arith, join_ge on.pairs ls rs (flags.total e), a));
      above = below_min _ _ _ (pairs_enclose on ls rs flags g k j hl hr s b d) (rate_encloses on ls rs flags (Hash false) width g k j hl hr s w b d o);
    }
joined_encloses (Hash true) on ls rs width g count k l j hl hr flags s w c o a b d =
    let all : ℕ = length (joined_by (Hash true) on.pairs width ls rs) in
    let rest : length ls - k ≤ length (joined_by (Hash true) on.pairs width (drop k ls) rs) =
    omega (arith, joined_ge (Hash true) on.pairs width rs (drop k ls) (padded_each on.pairs width rs (drop k ls)), length-drop k ls) in
    record {
      counted = omega (arith, s, c);
      below = omega (arith, s, rest, joined_cut_left (Hash true) on.pairs width k ls rs, joined_cut_right (Hash true) on.pairs width j rs (take k ls), a);
      above =
          capped_above on.unique.left all (hl + hr) _ (λ e. omega (arith, padded_le on.pairs width rs ls, join_le_right on.pairs ls rs (flags.left e), b, d))
          (rate_encloses on ls rs flags (Hash true) width g k j hl hr s w b d o);
    }

-- ---- from one moment to the next

-- one row more on the left, one more on the right, or none
pub data SidesMove (k k' j j' : ℕ) : Type 0 where
  Left : k' ≡ suc k → j' ≡ j → SidesMove k k' j j'
  Right : k' ≡ k → j' ≡ suc j → SidesMove k k' j j'
  Still : k' ≡ k → j' ≡ j → SidesMove k k' j j'

-- a key's rows and those to come are no more than before
most_falls : (unique : Unique) (columns : List ℕ) (rs : List Row) (g g' : Gauge) (j j' hr hr' : ℕ)
    → g.worst ≡ worst columns (take j rs) → g'.worst ≡ worst columns (take j' rs) → (j' ≡ suc j) ⊎ (j' ≡ j) → hr' ≤ hr → j' ≤ hr'
    → most_matches exact unique g' (side j' hr') ≤ most_matches exact unique g (side j hr)
most_falls unique columns rs g g' j j' hr hr' w v m a b =
    capped_mono unique.right 1 _ 1 _ (le_refl 1) (inner m)
  where
    inner : (j' ≡ suc j) ⊎ (j' ≡ j) → g'.worst + (hr' - j') ≤ g.worst + (hr - j)
    inner (inl e) = omega (arith, w, v, ap (λ i. worst columns (take i rs)) e, worst_step columns j rs, a, b, e)
    inner (inr e) = omega (arith, w, v, ap (λ i. worst columns (take i rs)) e, a, b, e)

module _ (method : Method) (on : On) (ls rs : List Row) (width : ℕ) (flags : FlagsHold on ls rs) (g g' : Gauge) (k k' j j' : ℕ) where
  abbrev settled_at : ℕ → ℕ → ℕ
  settled_at x y = length (joined_by method on.pairs width (take x ls) (take y rs))

  -- the rates of a hash join
  rate_falls : (hl hl' hr hr' : ℕ) → g.settled ≡ settled_at k j → g'.settled ≡ settled_at k' j'
      → g.worst ≡ worst (right_columns on.pairs) (take j rs) → g'.worst ≡ worst (right_columns on.pairs) (take j' rs)
      → SidesMove k k' j j' → hl' ≤ hl → hr' ≤ hr → k' ≤ hl' → j' ≤ hr' → (0 < k → j ≡ length rs) → j' ≤ length rs
      → rated g'.settled k' hl' (at_least_one_if (pads method) (most_matches exact on.unique g' (side j' hr')))
      ≤ rated g.settled k hl (at_least_one_if (pads method) (most_matches exact on.unique g (side j hr)))
  rate_falls hl hl' hr hr' s t w v (Left e f) a b c d full few =
      let most = at_least_mono (pads method) _ _ (most_falls on.unique (right_columns on.pairs) rs g g' j j' hr hr' w v (inr f) b d) in
      let own : worst (right_columns on.pairs) (take j rs) ≤ most_matches exact on.unique g' (side j' hr') =
      capped_above on.unique.right _ 1 _ (λ u. worst_one (right_columns on.pairs) (take j rs) (AtMostOne_take (right_columns on.pairs) j rs (flags.right u)))
      (omega (arith, v, ap (λ i. worst (right_columns on.pairs) (take i rs)) f)) in
      let step = joined_step_worst method on.pairs width k j ls rs in
      let same : settled_at k' j' ≡ settled_at (suc k) j = ap (λ x. settled_at x j') e ∙ ap (settled_at (suc k)) f in
      let more : g'.settled ≤ g.settled + at_least_one_if (pads method) (most_matches exact on.unique g' (side j' hr')) =
      omega (arith, s, t, same, step, at_least_mono (pads method) _ _ own) in
      subst (λ x. rated g'.settled x hl' (at_least_one_if (pads method) (most_matches exact on.unique g' (side j' hr'))) ≤ rated g.settled k hl (at_least_one_if (pads method) (most_matches exact on.unique g (side j hr)))) (sym e)
      (rate_left g.settled g'.settled k hl hl' _ _ more (omega (arith, c, e)) a most)
  rate_falls hl hl' hr hr' s t w v (Right e f) a b c d full few =
      let none : k ≡ 0 = elim (cases_lt 0 k) [ inl z ↦ absurd (omega (arith, full z, f, few)) | inr z ↦ omega (arith, z) ] in
      let most = at_least_mono (pads method) _ _ (most_falls on.unique (right_columns on.pairs) rs g g' j j' hr hr' w v (inl f) b d) in
      let zero_now : g.settled ≡ 0 = s ∙ ap (λ x. settled_at x j) none in
      let zero_then : g'.settled ≡ 0 = t ∙ ap (λ x. settled_at x j') (e ∙ none) in
      rw (zero_now, zero_then, e) (rate_still 0 k hl hl' _ _ a most)
  rate_falls hl hl' hr hr' s t w v (Still e f) a b c d full few =
      let most = at_least_mono (pads method) _ _ (most_falls on.unique (right_columns on.pairs) rs g g' j j' hr hr' w v (inr f) b d) in
      let same : g'.settled ≡ g.settled = t ∙ ap (λ x. settled_at x j') e ∙ ap (settled_at k) f ∙ sym s in
      rw (same, e) (rate_still g.settled k hl hl' _ _ a most)

-- the pairs of a join that does not pad
pairs_fall : (on : On) (ls rs : List Row) (g g' : Gauge) (k k' j j' hl hl' hr hr' : ℕ)
    → g.settled ≡ length (join on.pairs (take k ls) (take j rs)) → g'.settled ≡ length (join on.pairs (take k' ls) (take j' rs))
    → SidesMove k k' j j' → hl' ≤ hl → hr' ≤ hr → k' ≤ hl' → j' ≤ hr'
    → (g.settled ≤ g'.settled) × (pairs_hi exact on.unique g' (side k' hl') (side j' hr') ≤ pairs_hi exact on.unique g (side k hl) (side j hr))
pairs_fall on ls rs g g' k k' j j' hl hl' hr hr' s t m a b c d =
    let sum : (g.settled ≤ g'.settled) × (pairs_sum g'.settled k' hl' j' hr' ≤ pairs_sum g.settled k hl j hr) = inner m in
    (sum.0, capped_mono on.unique.right hl _ hl' _ a (capped_mono on.unique.left hr _ hr' _ b sum.1))
  where
    inner : SidesMove k k' j j' → (g.settled ≤ g'.settled) × (pairs_sum g'.settled k' hl' j' hr' ≤ pairs_sum g.settled k hl j hr)
    inner (Left e f) =
        let step = joined_step_left Merge on.pairs 0 j k (take j rs) ls (λ l. omega (arith, joined_row_le on.pairs (take j rs) l, length-take j rs)) in
        let same : g'.settled ≡ length (join on.pairs (take (suc k) ls) (take j rs)) =
        t ∙ ap (λ x. length (join on.pairs (take x ls) (take j' rs))) e ∙ ap (λ x. length (join on.pairs (take (suc k) ls) (take x rs))) f in
        (omega (arith, s, same, step), rw (e, f) (pairs_left g.settled g'.settled k j hl hr hl' hr' (omega (arith, s, same, step)) (omega (arith, c, e)) a b (omega (arith, d, f))))
    inner (Right e f) =
        let step = join_step_right on.pairs j rs (take k ls) in
        let same : g'.settled ≡ length (join on.pairs (take k ls) (take (suc j) rs)) =
        t ∙ ap (λ x. length (join on.pairs (take x ls) (take j' rs))) e ∙ ap (λ x. length (join on.pairs (take k ls) (take x rs))) f in
        (omega (arith, s, same, step), rw (e, f) (pairs_right g.settled g'.settled k j hl hr hl' hr' (omega (arith, s, same, step, length-take k ls)) (omega (arith, d, f)) a b))
    inner (Still e f) =
        let same : g'.settled ≡ g.settled =
        t ∙ ap (λ x. length (join on.pairs (take x ls) (take j' rs))) e ∙ ap (λ x. length (join on.pairs (take k ls) (take x rs))) f ∙ sym s in
        (omega (arith, same), rw (same, e, f) (pairs_still g.settled k j hl hr hl' hr' a b))

-- a padded join's rows for the left rows that have come, and one for each that is to come
padded_lo_rises : (on : On) (ls rs : List Row) (width : ℕ) (g g' : Gauge) (k k' j j' l l' : ℕ)
    → g.settled ≡ length (joined_by (Hash true) on.pairs width (take k ls) (take j rs)) → g'.settled ≡ length (joined_by (Hash true) on.pairs width (take k' ls) (take j' rs))
    → SidesMove k k' j j' → (0 < k → j ≡ length rs) → j' ≤ length rs → k' ≤ length ls → l ≤ l' → g.settled + (l - k) ≤ g'.settled + (l' - k')
padded_lo_rises on ls rs width g g' k k' j j' l l' s t (Left e f) full few within a =
    let step : length (joined_by (Hash true) on.pairs width (take k ls) (take j rs)) + 1 ≤ length (joined_by (Hash true) on.pairs width (take (suc k) ls) (take j rs)) =
    padded_step on.pairs width k (take j rs) ls (omega (arith, within, e)) in
    let same : g'.settled ≡ length (joined_by (Hash true) on.pairs width (take (suc k) ls) (take j rs)) =
    t ∙ ap (λ x. length (joined_by (Hash true) on.pairs width (take x ls) (take j' rs))) e ∙ ap (λ x. length (joined_by (Hash true) on.pairs width (take (suc k) ls) (take x rs))) f in
    omega (arith, s, same, step, e, a)
padded_lo_rises on ls rs width g g' k k' j j' l l' s t (Right e f) full few within a =
    let none : k ≡ 0 = elim (cases_lt 0 k) [ inl z ↦ absurd (omega (arith, full z, f, few)) | inr z ↦ omega (arith, z) ] in
    let zero_now : g.settled ≡ 0 = s ∙ ap (λ x. length (joined_by (Hash true) on.pairs width (take x ls) (take j rs))) none in
    omega (arith, zero_now, none, e, a)
padded_lo_rises on ls rs width g g' k k' j j' l l' s t (Still e f) full few within a =
    let same : g'.settled ≡ g.settled =
    t ∙ ap (λ x. length (joined_by (Hash true) on.pairs width (take x ls) (take j' rs))) e ∙ ap (λ x. length (joined_by (Hash true) on.pairs width (take k ls) (take x rs))) f ∙ sym s in
    omega (arith, same, e, a)

pub joined_narrows : (method : Method) (on : On) (ls rs : List Row) (width : ℕ) (g g' : Gauge) (k k' j j' l l' hl hl' hr hr' : ℕ) → FlagsHold on ls rs
    → g.settled ≡ length (joined_by method on.pairs width (take k ls) (take j rs)) → g'.settled ≡ length (joined_by method on.pairs width (take k' ls) (take j' rs))
    → g.worst ≡ worst_joined method on.pairs (take j rs) → g'.worst ≡ worst_joined method on.pairs (take j' rs)
    → SidesMove k k' j j' → JoinIsOrderly method k j (length rs) → k' ≤ length ls → j' ≤ length rs
    → l ≤ l' → hl' ≤ hl → hr' ≤ hr → k' ≤ hl' → j' ≤ hr'
    → Narrows (joined_bound method on.unique g k l hl j hr) (joined_bound method on.unique g' k' l' hl' j' hr')
joined_narrows Merge on ls rs width g g' k k' j j' l l' hl hl' hr hr' flags s t w v m full inl_ inr_ p a b c d =
    let e = pairs_fall on ls rs g g' k k' j j' hl hl' hr hr' s t m a b c d in
    record { lo_rises = matched_mono on.unique.total g.settled l g'.settled l' e.0 p; hi_falls = e.1 }
joined_narrows (Hash false) on ls rs width g g' k k' j j' l l' hl hl' hr hr' flags s t w v m full inl_ inr_ p a b c d =
    let e = pairs_fall on ls rs g g' k k' j j' hl hl' hr hr' s t m a b c d in
    let r = rate_falls (Hash false) on ls rs width flags g g' k k' j j' hl hl' hr hr' s t w v m a b c d full inr_ in
    record { lo_rises = matched_mono on.unique.total g.settled l g'.settled l' e.0 p; hi_falls = min_mono _ _ _ _ e.1 r }
joined_narrows (Hash true) on ls rs width g g' k k' j j' l l' hl hl' hr hr' flags s t w v m full inl_ inr_ p a b c d =
    let r = rate_falls (Hash true) on ls rs width flags g g' k k' j j' hl hl' hr hr' s t w v m a b c d full inr_ in record {
      lo_rises = padded_lo_rises on ls rs width g g' k k' j j' l l' s t m full inr_ inl_ p;
      hi_falls = capped_mono on.unique.left (hl + hr) _ (hl' + hr') _ (omega (arith, a, b)) r;
    }

-- ---- no more than before any event, where the bounds of the sides are within their first ones

most_within : (on : On) (ls rs : List Row) (g : Gauge) (j hr first : ℕ) → g.worst ≡ worst (right_columns on.pairs) (take j rs) → j ≤ hr → hr ≤ first
    → most_matches exact on.unique g (side j hr) ≤ most_matches exact on.unique unstarted (uncounted first)
most_within on ls rs g j hr first w a b =
    capped_mono on.unique.right 1 _ 1 _ (le_refl 1) (omega (arith, w, worst_few (right_columns on.pairs) (take j rs), length-take j rs, a, b))

rate_within : (method : Method) (on : On) (ls rs : List Row) (width : ℕ) (g : Gauge) (k j hl hr fl fr : ℕ) → FlagsHold on ls rs
    → g.settled ≡ length (joined_by method on.pairs width (take k ls) (take j rs)) → g.worst ≡ worst (right_columns on.pairs) (take j rs)
    → k ≤ hl → j ≤ hr → hl ≤ fl → hr ≤ fr
    → rated g.settled k hl (at_least_one_if (pads method) (most_matches exact on.unique g (side j hr)))
    ≤ rated 0 0 fl (at_least_one_if (pads method) (most_matches exact on.unique unstarted (uncounted fr)))
rate_within method on ls rs width g k j hl hr fl fr flags s w a b c d =
    let own : worst (right_columns on.pairs) (take j rs) ≤ most_matches exact on.unique g (side j hr) =
    capped_above on.unique.right _ 1 _ (λ u. worst_one (right_columns on.pairs) (take j rs) (AtMostOne_take (right_columns on.pairs) j rs (flags.right u))) (omega (arith, w)) in
    let rate : ℕ = at_least_one_if (pads method) (most_matches exact on.unique g (side j hr)) in
    let few : g.settled ≤ k * at_least_one_if (pads method) (most_matches exact on.unique g (side j hr)) =
    let p : length (take k ls) * at_least_one_if (pads method) (worst (right_columns on.pairs) (take j rs)) ≤ k * at_least_one_if (pads method) (most_matches exact on.unique g (side j hr)) =
    mul-le-mul (omega (arith, length-take k ls)) (at_least_mono (pads method) _ _ own) in
    omega (arith, s, joined_le_worst method on.pairs width (take k ls) (take j rs), p) in
    rate_first g.settled k hl fl _ _ few a c (at_least_mono (pads method) _ _ (most_within on ls rs g j hr fr w b d))

pairs_within : (on : On) (ls rs : List Row) (g : Gauge) (k j hl hr fl fr : ℕ) → g.settled ≡ length (join on.pairs (take k ls) (take j rs))
    → k ≤ hl → j ≤ hr → hl ≤ fl → hr ≤ fr → pairs_hi exact on.unique g (side k hl) (side j hr) ≤ pairs_hi exact on.unique unstarted (uncounted fl) (uncounted fr)
pairs_within on ls rs g k j hl hr fl fr s a b c d =
    let few : g.settled ≤ k * j =
    let p : length (take k ls) * length (take j rs) ≤ k * j = mul-le-mul (omega (arith, length-take k ls)) (omega (arith, length-take j rs)) in
    omega (arith, s, join_le_product on.pairs (take k ls) (take j rs), p) in
    capped_mono on.unique.right _ _ _ _ c (capped_mono on.unique.left _ _ _ _ d (pairs_first g.settled k hl j hr fl fr few a b c d))

pub joined_within : (method : Method) (on : On) (ls rs : List Row) (width : ℕ) (g : Gauge) (k j hl hr fl fr : ℕ) → FlagsHold on ls rs
    → g.settled ≡ length (joined_by method on.pairs width (take k ls) (take j rs)) → g.worst ≡ worst_joined method on.pairs (take j rs)
    → k ≤ hl → j ≤ hr → hl ≤ fl → hr ≤ fr
    → hi_joined exact method on.unique g (side k hl) (side j hr) ≤ hi_joined exact method on.unique unstarted (uncounted fl) (uncounted fr)
joined_within Merge on ls rs width g k j hl hr fl fr flags s w a b c d = pairs_within on ls rs g k j hl hr fl fr s a b c d
joined_within (Hash false) on ls rs width g k j hl hr fl fr flags s w a b c d =
    min_mono _ _ _ _ (pairs_within on ls rs g k j hl hr fl fr s a b c d) (rate_within (Hash false) on ls rs width g k j hl hr fl fr flags s w a b c d)
joined_within (Hash true) on ls rs width g k j hl hr fl fr flags s w a b c d =
    capped_mono on.unique.left _ _ _ _ (omega (arith, c, d)) (rate_within (Hash true) on ls rs width g k j hl hr fl fr flags s w a b c d)

-- ---- nothing is to come

pub joined_ends : (method : Method) (on : On) (ls rs : List Row) (width : ℕ) (g : Gauge) (k j hl hr : ℕ)
    → g.settled ≡ length (joined_by method on.pairs width (take k ls) (take j rs)) → hl ≤ k → hr ≤ j
    → hi_joined exact method on.unique g (side k hl) (side j hr) ≤ length (joined_by method on.pairs width ls rs)
joined_ends Merge on ls rs width g k j hl hr s a b =
    le_trans (pairs_settle on g k j hl hr a b) (omega (arith, s, joined_take_le Merge on.pairs 0 k j ls rs))
  where
    pairs_settle : (on : On) (g : Gauge) (k j hl hr : ℕ) → hl ≤ k → hr ≤ j → pairs_hi exact on.unique g (side k hl) (side j hr) ≤ g.settled
    pairs_settle on g k j hl hr a b = le_trans (capped_below on.unique.right hl _) (le_trans (capped_below on.unique.left hr _) (pairs_end g.settled k hl j hr a b))
joined_ends (Hash false) on ls rs width g k j hl hr s a b =
    let none : (hl - k) * most_matches exact on.unique g (side j hr) ≡ 0 = nothing_left hl k (most_matches exact on.unique g (side j hr)) a in
    le_trans (right_min _ _) (omega (arith, s, none, joined_take_le Merge on.pairs 0 k j ls rs))
  where
    right_min : (a b : ℕ) → min a b ≤ b
    right_min a b = omega arith
joined_ends (Hash true) on ls rs width g k j hl hr s a b =
    let most : ℕ = max 1 (most_matches exact on.unique g (side j hr)) in
    let none : (hl - k) * max 1 (most_matches exact on.unique g (side j hr)) ≡ 0 = nothing_left hl k (max 1 (most_matches exact on.unique g (side j hr))) a in
    le_trans (capped_below on.unique.left (hl + hr) _) (omega (arith, s, none, joined_take_le (Hash true) on.pairs width k j ls rs))
