-- the bounds of a Seek, from what is known of its left side, and of an Index, from what is known of its Seek
use Rattle.std.proofs.Common.{◌≡◌, ℕ, suc, ◌+◌, ◌-◌, ◌*◌, ◌≤◌, Bool, true, false, List, length, take, drop, refl, sym, ap, subst, ◌∙◌, inl, inr, arith, length-drop, length-take}
use Rattle.std.specs.List.{filter, flat_map}
use Rattle.std.proofs.Math.Nat.{mul-le-mul, le_refl, le_trans}
use Rattle.std.proofs.Math.Seq.{take-length}
use Rattle.pm_values.specs.Row.{Row}
use Rattle.pm_plan.specs.declared.gauge.Gauge.{Gauge}
use Rattle.pm_plan.specs.declared.gauge.Bound.{Bound}
use Rattle.pm_plan.specs.Joins.{right_columns, matches, join, worst}
use Rattle.pm_plan.specs.Tree.{Merge, On}
use Rattle.pm_work.specs.Formulas.{exact, seek_hi, index_hi}
use Rattle.pm_work.specs.First.{unstarted, uncounted, first_worst}
use Rattle.pm_work.specs.Facts.{AtMostOne, FlagsHold}
use Rattle.pm_work.proofs.Joins.{length-filter_le, length-filter_cut, length-filter_take, length-filter_step, worst_one, worst_few, joined_le_worst, joined_cut_left, joined_step_worst, join_le_right, join_ge, length-sought}
use Rattle.pm_bounds.specs.Bounds.{lo_matched}
use Rattle.pm_bounds.specs.Enclosure.{Encloses, Narrows}
use Rattle.pm_bounds.proofs.Over.{Moves}
use Rattle.pm_bounds.proofs.Pairs.{capped_above, capped_mono, capped_below, rated, rate_left, rate_still, rate_first, nothing_left}
use Rattle.pm_bounds.proofs.Joined.{side, matched_counts, matched_below, matched_mono}

-- the rows that are found for these left rows
abbrev pub found : On → List Row → List Row → List Row
found on rs ls = flat_map (λ l. matches on.pairs l rs) ls

-- from the count, the lower and the upper bound of the left side
abbrev pub seek_bound : On → Gauge → ℕ → ℕ → ℕ → Bound
seek_bound on g k l h = record { lo = lo_matched on.unique g.settled l; hi = seek_hi exact on.unique g (side k h) }

module _ (on : On) (ls rs : List Row) (g : Gauge) (worst_is : g.worst ≡ worst (right_columns on.pairs) rs) (size_is : g.size ≡ length rs) where
  pairs_of : (l : List Row) → length (join on.pairs l rs) ≡ length (found on rs l)
  pairs_of l = length-sought on.pairs rs l

  pub seek_encloses : (count k l h : ℕ) → FlagsHold on ls rs → g.settled ≡ length (found on rs (take k ls))
      → count ≤ length (found on rs (take k ls)) → l ≤ length ls → length ls ≤ h
      → Encloses count (seek_bound on g k l h) (length (found on rs ls))
  seek_encloses count k l h flags s c a b =
      let most : ℕ = worst (right_columns on.pairs) rs in
      let cut = joined_cut_left Merge on.pairs 0 k ls rs in
      let rest : length (join on.pairs (drop k ls) rs) ≤ (length ls - k) * worst (right_columns on.pairs) rs =
      subst (λ m. length (join on.pairs (drop k ls) rs) ≤ m * worst (right_columns on.pairs) rs) (length-drop k ls) (joined_le_worst Merge on.pairs 0 (drop k ls) rs) in
      let p : (length ls - k) * worst (right_columns on.pairs) rs ≤ (h - k) * worst (right_columns on.pairs) rs = mul-le-mul (omega (arith, b)) (le_refl (worst (right_columns on.pairs) rs)) in
      let rate : (h - k) * g.worst ≡ (h - k) * worst (right_columns on.pairs) rs = ap (λ x. (h - k) * x) worst_is in record {
        counted = omega (arith, matched_counts on.unique.total g.settled l, s, c);
        below =
            matched_below on.unique.total g.settled l (length (found on rs ls)) (omega (arith, s, cut, pairs_of ls, pairs_of (take k ls)))
            (λ e. omega (arith, join_ge on.pairs ls rs (flags.total e), pairs_of ls, a));
        above =
            capped_above on.unique.left (length (found on rs ls)) g.size _
            (λ e. omega (arith, size_is, pairs_of ls, join_le_right on.pairs ls rs (flags.left e)))
            (omega (arith, s, cut, rest, p, rate, pairs_of ls, pairs_of (take k ls)));
      }

  -- no more than before any event
  pub seek_within : (k h first size : ℕ) → FlagsHold on ls rs → size ≡ length rs → g.settled ≡ length (found on rs (take k ls)) → k ≤ h → h ≤ first
      → seek_hi exact on.unique g (side k h) ≤ seek_hi exact on.unique (record { handed = 0; settled = 0; worst = first_worst on.unique.right size; size = size }) (uncounted first)
  seek_within k h first size flags e s a b =
      let most : g.worst ≤ first_worst on.unique.right size = at_first on.unique.right (λ u. flags.right u) in
      let few : g.settled ≤ k * g.worst =
      let p : length (take k ls) * worst (right_columns on.pairs) rs ≤ k * g.worst = mul-le-mul (omega (arith, length-take k ls)) (omega (arith, worst_is)) in
      omega (arith, s, pairs_of (take k ls), joined_le_worst Merge on.pairs 0 (take k ls) rs, p) in
      capped_mono on.unique.left _ _ _ _ (omega (arith, size_is, e)) (rate_first g.settled k h first g.worst (first_worst on.unique.right size) few a b most)
    where
      at_first : (flag : Bool) → (flag ≡ true → AtMostOne (right_columns on.pairs) rs) → g.worst ≤ first_worst flag size
      at_first true one = omega (arith, worst_is, worst_one (right_columns on.pairs) rs (one refl))
      at_first false one = omega (arith, worst_is, worst_few (right_columns on.pairs) rs, e)

  -- nothing is to come
  pub seek_ends : (k h : ℕ) → g.settled ≡ length (found on rs (take k ls)) → h ≤ k → seek_hi exact on.unique g (side k h) ≤ length (found on rs ls)
  seek_ends k h s a =
      let none : (h - k) * g.worst ≡ 0 = nothing_left h k g.worst a in
      le_trans (capped_below on.unique.left g.size _) (omega (arith, s, none, joined_cut_left Merge on.pairs 0 k ls rs, pairs_of ls, pairs_of (take k ls)))

  -- from one moment to the next
  pub seek_narrows : (g' : Gauge) (k k' l l' h h' : ℕ) → g'.worst ≡ g.worst → g'.size ≡ g.size
      → g.settled ≡ length (found on rs (take k ls)) → g'.settled ≡ length (found on rs (take k' ls)) → Moves k k' → l ≤ l' → h' ≤ h → k' ≤ h'
      → Narrows (seek_bound on g k l h) (seek_bound on g' k' l' h')
  seek_narrows g' k k' l l' h h' w z s t m a b c = record {
    lo_rises = matched_mono on.unique.total g.settled l g'.settled l' (inner m).0 a;
    hi_falls = capped_mono on.unique.left _ _ _ _ (omega (arith, z)) (inner m).1;
  }
    where
      inner : Moves k k' → (g.settled ≤ g'.settled) × (rated g'.settled k' h' g'.worst ≤ rated g.settled k h g.worst)
      inner (inl e) =
          let step = joined_step_worst_all k in
          let same : g'.settled ≡ length (found on rs (take (suc k) ls)) = t ∙ ap (λ x. length (found on rs (take x ls))) e in
          let now = pairs_of (take k ls) in
          let then = pairs_of (take (suc k) ls) in
          (omega (arith, s, same, step.0, now, then), rw (e, w) (rate_left g.settled g'.settled k h h' g.worst g.worst (omega (arith, s, same, step.1, now, then, worst_is)) (omega (arith, c, e)) b (le_refl g.worst)))
        where
          joined_step_worst_all : (k : ℕ)
              → (length (join on.pairs (take k ls) rs) ≤ length (join on.pairs (take (suc k) ls) rs))
              × (length (join on.pairs (take (suc k) ls) rs) ≤ length (join on.pairs (take k ls) rs) + worst (right_columns on.pairs) rs)
          joined_step_worst_all k =
              let all : take (length rs) rs ≡ rs = take-length rs in
              subst (λ x. (length (join on.pairs (take k ls) x) ≤ length (join on.pairs (take (suc k) ls) x)) × (length (join on.pairs (take (suc k) ls) x) ≤ length (join on.pairs (take k ls) x) + worst (right_columns on.pairs) x)) all
              (joined_step_worst Merge on.pairs 0 k (length rs) ls rs)
      inner (inr e) =
          let same : g'.settled ≡ g.settled = t ∙ ap (λ x. length (found on rs (take x ls))) e ∙ sym s in
          (omega (arith, same), rw (same, e, w) (rate_still g.settled k h h' g.worst g.worst b (le_refl g.worst)))

-- ---- an Index, over the pairs of its Seek

-- from the count and the upper bound of the Seek
abbrev pub index_bound : Gauge → ℕ → ℕ → Bound
index_bound g k h = record { lo = g.settled; hi = index_hi exact g (side k h) }

module _ (p : Row → Bool) (pairs : List Row) (g : Gauge) (k : ℕ) (settled_is : g.settled ≡ length (filter p (take k pairs))) where
  pub index_encloses : (count h : ℕ) → count ≤ length (filter p (take k pairs)) → length pairs ≤ h → Encloses count (index_bound g k h) (length (filter p pairs))
  index_encloses count h c a = record {
    counted = omega (arith, settled_is, c);
    below = omega (arith, settled_is, length-filter_take p k pairs);
    above = omega (arith, settled_is, length-filter_cut p k pairs, a);
  }

  pub index_within : (h first : ℕ) → k ≤ h → h ≤ first → index_hi exact g (side k h) ≤ index_hi exact unstarted (uncounted first)
  index_within h first a b = omega (arith, settled_is, a, b, length-filter_le p (take k pairs), length-take k pairs)

  pub index_ends : (h : ℕ) → h ≤ k → index_hi exact g (side k h) ≤ length (filter p pairs)
  index_ends h a = omega (arith, settled_is, a, length-filter_take p k pairs)

  pub index_narrows : (g' : Gauge) (k' h h' : ℕ) → g'.settled ≡ length (filter p (take k' pairs)) → Moves k k' → h' ≤ h → k' ≤ h'
      → Narrows (index_bound g k h) (index_bound g' k' h')
  index_narrows g' k' h h' t m a b = record { lo_rises = (inner m).0; hi_falls = (inner m).1 }
    where
      inner : Moves k k' → (g.settled ≤ g'.settled) × (g'.settled + (h' - k') ≤ g.settled + (h - k))
      inner (inl e) =
          let same : g'.settled ≡ length (filter p (take (suc k) pairs)) = t ∙ ap (λ x. length (filter p (take x pairs))) e in
          let step = length-filter_step p k pairs in
          (omega (arith, settled_is, same, step), omega (arith, settled_is, same, step, a, b, e))
      inner (inr e) =
          let same : g'.settled ≡ g.settled = t ∙ ap (λ x. length (filter p (take x pairs))) e ∙ sym settled_is in
          (omega (arith, same), omega (arith, same, a, b, e))
