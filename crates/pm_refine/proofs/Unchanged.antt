-- an event changes no bound of a tree that its node does not stand in, and adds one to the work done
use Rattle.std.proofs.Common.{◌≡◌, ◌≢◌, ℕ, suc, ◌+◌, ◌-◌, ◌<◌, ◌≤◌, List, [], ◌∷◌, sym, ap, subst, ◌∙◌, ◌⊎◌, inl, inr, arith}
use Rattle.std.proofs.lemmas.Bool.{cases_lt}
use Rattle.std.proofs.lemmas.List.Elements.{All-nil, All-cons}
use Rattle.pm_plan.specs.declared.gauge.Gauge.{Gauge}
use Rattle.pm_plan.specs.declared.gauge.Bound.{Bound}
use Rattle.pm_plan.specs.declared.plan.Unique.{Unique}
use Rattle.pm_plan.specs.Rows.{Db}
use Rattle.pm_plan.specs.Tree.{Unary, Method, Tree, Scan, Over, Join, Index, size, right_number, EachAt, sum_at}
use Rattle.pm_plan.proofs.Walks.{EachAt-root}
use Rattle.pm_work.specs.Formulas.{exact, hi_over, hi_joined, seek_hi, index_hi}
use Rattle.pm_work.specs.Moments.{Counts, Gauges, HasGauges}
use Rattle.pm_work.proofs.Changes.{node_same, seek_same}
use Rattle.pm_bounds.specs.Bounds.{lo_over, lo_joined, lo_matched, bound_of, bound_of_seek}
use Rattle.pm_bounds.specs.Enclosure.{IsNext}
use Rattle.pm_bounds.specs.Moment.{bound_in}
use Rattle.pm_bounds.proofs.Narrow.{size_pos}
use Rattle.pm_refine.specs.Steps.{bound_at, HasBounds}

-- ---- a fact of each node's entries, by positions

module _ (P : Bound → Bound → Type 0) (l d : List Bound) where
  abbrev pub AllEntries : Tree → ℕ → Type 0
  AllEntries t n = EachAt (λ u m. P (bound_in l m) (bound_in d m)) (λ left seek m. P (bound_in l (right_number m left)) (bound_in d (right_number m left))) t n

  entry_at : (m i : ℕ) → i ≡ m - 1 → P (bound_in l m) (bound_in d m) → P (bound_at l i) (bound_at d i)
  entry_at m i e p = subst (λ j. P (bound_at l j) (bound_at d j)) (sym e) p

  pub at_positions : (t : Tree) (n : ℕ) → 1 ≤ n → AllEntries t n → (i : ℕ) → n - 1 ≤ i → i < n - 1 + size t → P (bound_at l i) (bound_at d i)
  at_positions (Scan table label) n some h i a b = entry_at n i (omega (arith, a, b)) h
  at_positions (Over op child) n some h i a b =
      elim (cases_lt (n - 1) i) [
        | inl past ↦ at_positions child (n + 1) (omega arith) h.1 i (omega (arith, past, some)) (omega (arith, b, some))
        | inr at ↦ entry_at n i (omega (arith, a, at)) h.0
      ]
  at_positions (Join method on left right) n some h i a b =
      elim (cases_lt (n - 1) i) [
        | inl past ↦ elim (cases_lt i (right_number n left - 1)) [
          | inl lefts ↦ at_positions left (n + 1) (omega arith) h.1 i (omega (arith, past, some)) (omega (arith, lefts, some))
          | inr rights ↦ at_positions right (right_number n left) (omega arith) h.2 i rights (omega (arith, b, some))
        ]
        | inr at ↦ entry_at n i (omega (arith, a, at)) h.0
      ]
  at_positions (Index left seek cond) n some h i a b =
      elim (cases_lt (n - 1) i) [
        | inl past ↦ elim (cases_lt i (right_number n left - 1)) [
          | inl lefts ↦ at_positions left (n + 1) (omega arith) h.2 i (omega (arith, past, some)) (omega (arith, lefts, some))
          | inr rights ↦ entry_at (right_number n left) i (omega (arith, b, rights, some)) h.1
        ]
        | inr at ↦ entry_at n i (omega (arith, a, at)) h.0
      ]

-- ---- equal gauges give equal bounds

abbrev over_bound : Unary → Gauge → ℕ → Bound → Bound
over_bound op g count child = record { lo = lo_over op g child.lo; hi = hi_over exact op g (record { count = count; hi = child.hi }) }

abbrev join_bound : Method → Unique → Gauge → ℕ → ℕ → Bound → Bound → Bound
join_bound method unique g left_count right_count left right =
    record {
      lo = lo_joined method unique g left_count left.lo;
      hi = hi_joined exact method unique g (record { count = left_count; hi = left.hi }) (record { count = right_count; hi = right.hi });
    }

abbrev sought_bound : Unique → Gauge → ℕ → Bound → Bound
sought_bound unique g count left = record { lo = lo_matched unique g.settled left.lo; hi = seek_hi exact unique g (record { count = count; hi = left.hi }) }

abbrev index_bound : Gauge → ℕ → Bound → Bound
index_bound g count seek = record { lo = g.settled; hi = index_hi exact g (record { count = count; hi = seek.hi }) }

module _ (G H : Gauges) where
  abbrev pub SameGauges : Tree → ℕ → Type 0
  SameGauges t n = EachAt (λ u m. G m ≡ H m) (λ left seek m. G (right_number m left) ≡ H (right_number m left)) t n

  abbrev pub SameBounds : Tree → ℕ → Type 0
  SameBounds t n = EachAt (λ u m. bound_of u m G ≡ bound_of u m H) (λ left seek m. bound_of_seek left seek m G ≡ bound_of_seek left seek m H) t n

  root_gauge : (t : Tree) (n : ℕ) → SameGauges t n → G n ≡ H n
  root_gauge t n h = EachAt-root (λ u m. G m ≡ H m) (λ left seek m. G (right_number m left) ≡ H (right_number m left)) t n h

  root_bound : (t : Tree) (n : ℕ) → SameBounds t n → bound_of t n G ≡ bound_of t n H
  root_bound t n h = EachAt-root (λ u m. bound_of u m G ≡ bound_of u m H) (λ left seek m. bound_of_seek left seek m G ≡ bound_of_seek left seek m H) t n h

  pub same_bounds : (t : Tree) (n : ℕ) → SameGauges t n → SameBounds t n
  same_bounds (Scan table label) n h = ap (λ (g : Gauge). let b : Bound = record { lo = g.size; hi = g.size } in b) h
  same_bounds (Over op child) n h =
      let below : SameBounds child (n + 1) = same_bounds child (n + 1) h.1 in (
        ap (λ g. over_bound op g (G (n + 1)).handed (bound_of child (n + 1) G)) h.0
            ∙ ap (λ g. over_bound op (H n) g.handed (bound_of child (n + 1) G)) (root_gauge child (n + 1) h.1)
            ∙ ap (over_bound op (H n) (H (n + 1)).handed) (root_bound child (n + 1) below),
        below,
      )
  same_bounds (Join method on left right) n h =
      let lefts : SameBounds left (n + 1) = same_bounds left (n + 1) h.1 in
      let rights : SameBounds right (right_number n left) = same_bounds right (right_number n left) h.2 in (
        ap (λ g. join_bound method on.unique g (G (n + 1)).handed (G (right_number n left)).handed (bound_of left (n + 1) G) (bound_of right (right_number n left) G)) h.0
            ∙ ap (λ g. join_bound method on.unique (H n) g.handed (G (right_number n left)).handed (bound_of left (n + 1) G) (bound_of right (right_number n left) G)) (root_gauge left (n + 1) h.1)
            ∙ ap (λ g. join_bound method on.unique (H n) (H (n + 1)).handed g.handed (bound_of left (n + 1) G) (bound_of right (right_number n left) G)) (root_gauge right (right_number n left) h.2)
            ∙ ap (λ b. join_bound method on.unique (H n) (H (n + 1)).handed (H (right_number n left)).handed b (bound_of right (right_number n left) G)) (root_bound left (n + 1) lefts)
            ∙ ap (join_bound method on.unique (H n) (H (n + 1)).handed (H (right_number n left)).handed (bound_of left (n + 1) H)) (root_bound right (right_number n left) rights),
        lefts,
        rights,
      )
  same_bounds (Index left seek cond) n h =
      let lefts : SameBounds left (n + 1) = same_bounds left (n + 1) h.2 in
      let found : bound_of_seek left seek n G ≡ bound_of_seek left seek n H =
      ap (λ g. sought_bound seek.on.unique g (G (n + 1)).handed (bound_of left (n + 1) G)) h.1
      ∙ ap (λ g. sought_bound seek.on.unique (H (right_number n left)) g.handed (bound_of left (n + 1) G)) (root_gauge left (n + 1) h.2)
      ∙ ap (sought_bound seek.on.unique (H (right_number n left)) (H (n + 1)).handed) (root_bound left (n + 1) lefts) in (
        ap (λ g. index_bound g (G (right_number n left)).handed (bound_of_seek left seek n G)) h.0
            ∙ ap (λ g. index_bound (H n) g.handed (bound_of_seek left seek n G)) h.1
            ∙ ap (index_bound (H n) (H (right_number n left)).handed) found,
        found,
        lefts,
      )

  -- lists of these bounds have the same entries
  pub same_entries : (l d : List Bound) (t : Tree) (n : ℕ) → HasBounds t n G (bound_in l) → SameBounds t n → HasBounds t n H (bound_in d)
      → AllEntries (λ x y. x ≡ y) l d t n
  same_entries l d (Scan table label) n p q r = p ∙ q ∙ sym r
  same_entries l d (Over op child) n p q r = (p.0 ∙ q.0 ∙ sym r.0, same_entries l d child (n + 1) p.1 q.1 r.1)
  same_entries l d (Join method on left right) n p q r =
      (p.0 ∙ q.0 ∙ sym r.0, same_entries l d left (n + 1) p.1 q.1 r.1, same_entries l d right (right_number n left) p.2 q.2 r.2)
  same_entries l d (Index left seek cond) n p q r = (p.0 ∙ q.0 ∙ sym r.0, p.1 ∙ q.1 ∙ sym r.1, same_entries l d left (n + 1) p.2 q.2 r.2)

-- ---- the node stands elsewhere

abbrev pub IsOut : ℕ → ℕ → ℕ → Type 0
IsOut node n upto = (node < n) ⊎ (upto ≤ node)

apart : (node n upto m : ℕ) → IsOut node n upto → n ≤ m → m < upto → m ≢ node
apart node n upto m out a b e = absurd (elim out [ inl before ↦ omega (arith, e, before, a) | inr past ↦ omega (arith, e, past, b) ])

out_of : (node n upto m to : ℕ) → IsOut node n upto → n ≤ m → to ≤ upto → IsOut node m to
out_of node n upto m to out a b = elim out [ inl before ↦ inl (omega (arith, before, a)) | inr past ↦ inr (omega (arith, past, b)) ]

module _ (db : Db) (node : ℕ) (K L : Counts) (next : IsNext node K L) where
  same_count : (n upto m : ℕ) → IsOut node n upto → n ≤ m → m < upto → K m ≡ L m
  same_count n upto m out a b = sym (next.others m (apart node n upto m out a b))

  abbrev Agree : ℕ → Type 0
  Agree k = K k ≡ L k

  pub same_gauges : (G H : Gauges) (t : Tree) (n : ℕ) → IsOut node n (n + size t) → HasGauges db t n K G → HasGauges db t n L H → SameGauges G H t n
  same_gauges G H (Scan table label) n out g h =
      g ∙ node_same db K L (Scan table label) n (All-cons Agree n [] (same_count n (n + 1) n out (omega arith) (omega arith)) (All-nil Agree)) ∙ sym h
  same_gauges G H (Over op child) n out g h = (
    g.0
        ∙ node_same db K L (Over op child) n
        (All-cons Agree n ((n + 1) ∷ []) (same_count n (n + (1 + size child)) n out (omega arith) (omega arith))
        (All-cons Agree (n + 1) [] (same_count n (n + (1 + size child)) (n + 1) out (omega arith) (omega (arith, size_pos child))) (All-nil Agree)))
        ∙ sym h.0,
    same_gauges G H child (n + 1) (out_of node n (n + (1 + size child)) (n + 1) (n + 1 + size child) out (omega arith) (omega arith)) g.1 h.1,
  )
  same_gauges G H (Join method on left right) n out g h = (
    g.0
        ∙ node_same db K L (Join method on left right) n
        (All-cons Agree n ((n + 1) ∷ right_number n left ∷ []) (same_count n (n + (1 + (size left + size right))) n out (omega arith) (omega arith))
        (All-cons Agree (n + 1) (right_number n left ∷ []) (same_count n (n + (1 + (size left + size right))) (n + 1) out (omega arith) (omega (arith, size_pos left)))
        (All-cons Agree (right_number n left) [] (same_count n (n + (1 + (size left + size right))) (right_number n left) out (omega arith) (omega (arith, size_pos right))) (All-nil Agree))))
        ∙ sym h.0,
    same_gauges G H left (n + 1) (out_of node n (n + (1 + (size left + size right))) (n + 1) (n + 1 + size left) out (omega arith) (omega arith)) g.1 h.1,
    same_gauges G H right (right_number n left) (out_of node n (n + (1 + (size left + size right))) (right_number n left) (right_number n left + size right) out (omega arith) (omega arith)) g.2 h.2,
  )
  same_gauges G H (Index left seek cond) n out g h =
      let own : K n ≡ L n = same_count n (n + (2 + size left)) n out (omega arith) (omega arith) in
      let lefts : K (n + 1) ≡ L (n + 1) = same_count n (n + (2 + size left)) (n + 1) out (omega arith) (omega arith) in
      let sought : K (right_number n left) ≡ L (right_number n left) = same_count n (n + (2 + size left)) (right_number n left) out (omega arith) (omega arith) in (
        g.0 ∙ node_same db K L (Index left seek cond) n (All-cons Agree n (right_number n left ∷ []) own (All-cons Agree (right_number n left) [] sought (All-nil Agree))) ∙ sym h.0,
        g.1 ∙ seek_same db K L left seek n (All-cons Agree (right_number n left) ((n + 1) ∷ []) sought (All-cons Agree (n + 1) [] lefts (All-nil Agree))) ∙ sym h.1,
        same_gauges G H left (n + 1) (out_of node n (n + (2 + size left)) (n + 1) (n + 1 + size left) out (omega arith) (omega arith)) g.2 h.2,
      )

  -- ---- the work done

  abbrev pub counted : Counts → Tree → ℕ → ℕ
  counted C t n = sum_at (λ u m. C m) (λ left seek m. C (right_number m left)) t n

  counted_out : (t : Tree) (n : ℕ) → IsOut node n (n + size t) → counted L t n ≡ counted K t n
  counted_out (Scan table label) n out = sym (same_count n (n + 1) n out (omega arith) (omega arith))
  counted_out (Over op child) n out =
      omega (
        arith,
        same_count n (n + (1 + size child)) n out (omega arith) (omega arith),
        counted_out child (n + 1) (out_of node n (n + (1 + size child)) (n + 1) (n + 1 + size child) out (omega arith) (omega arith)),
      )
  counted_out (Join method on left right) n out =
      omega (
        arith,
        same_count n (n + (1 + (size left + size right))) n out (omega arith) (omega arith),
        counted_out left (n + 1) (out_of node n (n + (1 + (size left + size right))) (n + 1) (n + 1 + size left) out (omega arith) (omega arith)),
        counted_out right (right_number n left) (out_of node n (n + (1 + (size left + size right))) (right_number n left) (right_number n left + size right) out (omega arith) (omega arith)),
      )
  counted_out (Index left seek cond) n out =
      omega (
        arith,
        same_count n (n + (2 + size left)) n out (omega arith) (omega arith),
        same_count n (n + (2 + size left)) (right_number n left) out (omega arith) (omega arith),
        counted_out left (n + 1) (out_of node n (n + (2 + size left)) (n + 1) (n + 1 + size left) out (omega arith) (omega arith)),
      )

  at_node : (m : ℕ) → m ≡ node → L m ≡ suc (K m)
  at_node m e = subst (λ k. L k ≡ suc (K k)) (sym e) next.more

  same_off : (m : ℕ) → m ≢ node → L m ≡ K m
  same_off m ne = next.others m ne

  pub counted_in : (t : Tree) (n : ℕ) → n ≤ node → node < n + size t → counted L t n ≡ suc (counted K t n)
  counted_in (Scan table label) n a b = at_node n (omega (arith, a, b))
  counted_in (Over op child) n a b =
      elim (cases_lt n node) [
        | inl past ↦
            let ne : n ≢ node = λ e. absurd (omega (arith, e, past)) in
            omega (arith, same_off n ne, counted_in child (n + 1) (omega (arith, past)) (omega (arith, b)))
        | inr at ↦ omega (arith, at_node n (omega (arith, a, at)), counted_out child (n + 1) (inl (omega (arith, a, at))))
      ]
  counted_in (Join method on left right) n a b =
      elim (cases_lt n node) [
        | inl past ↦
            let ne : n ≢ node = λ e. absurd (omega (arith, e, past)) in
            elim (cases_lt node (right_number n left)) [
              | inl lefts ↦ omega (arith, same_off n ne, counted_in left (n + 1) (omega (arith, past)) (omega (arith, lefts)), counted_out right (right_number n left) (inl lefts))
              | inr rights ↦ omega (arith, same_off n ne, counted_out left (n + 1) (inr (omega (arith, rights))), counted_in right (right_number n left) rights (omega (arith, b)))
            ]
        | inr at ↦
            omega (
              arith,
              at_node n (omega (arith, a, at)),
              counted_out left (n + 1) (inl (omega (arith, a, at))),
              counted_out right (right_number n left) (inl (omega (arith, a, at))),
            )
      ]
  counted_in (Index left seek cond) n a b =
      elim (cases_lt n node) [
        | inl past ↦
            let ne : n ≢ node = λ e. absurd (omega (arith, e, past)) in
            elim (cases_lt node (right_number n left)) [
              | inl lefts ↦
                  let off : right_number n left ≢ node = λ e. absurd (omega (arith, e, lefts)) in
                  omega (arith, same_off n ne, same_off (right_number n left) off, counted_in left (n + 1) (omega (arith, past)) (omega (arith, lefts)))
              | inr rights ↦ omega (arith, same_off n ne, at_node (right_number n left) (omega (arith, rights, b)), counted_out left (n + 1) (inr (omega (arith, rights))))
            ]
        | inr at ↦
            let off : right_number n left ≢ node = λ e. absurd (omega (arith, e, at)) in
            omega (arith, at_node n (omega (arith, a, at)), same_off (right_number n left) off, counted_out left (n + 1) (inl (omega (arith, a, at))))
      ]
