-- how an event changes the gauges of a tree's nodes
use Rattle.std.proofs.Common.{◌≡◌, ℕ, ◌+◌, ◌<◌, ◌≤◌, Bool, true, false, cond, eqb, List, [], ◌∷◌, ◌++◌, length, map, take, refl, sym, ap, subst, ◌∙◌, inl, inr, arith, append_assoc, length-append}
use Rattle.std.specs.Prelude.{Option, All}
use Rattle.std.specs.List.{flat_map, filter, list_any}
use Rattle.std.proofs.lemmas.Grind.{flat_map-append}
use Rattle.std.proofs.lemmas.Bool.{cases_Bool, cases_lt, eqb-true, eq-eqb, ne_eqb}
use Rattle.std.proofs.lemmas.Bool.Decides.{nat_tests}
use Rattle.std.proofs.lemmas.List.{append-nil, length-map, map-append}
use Rattle.std.proofs.lemmas.List.Elements.{filter-append, All-head, All-tail}
use Rattle.pm_values.specs.declared.condition.Cond.{Cond}
use Rattle.pm_values.specs.Row.{Row, pick}
use Rattle.pm_values.specs.Keys.{different_keys}
use Rattle.pm_values.specs.Equality.{same_key, same_values}
use Rattle.pm_values.specs.Condition.{keeps}
use Rattle.pm_values.proofs.KeysAppended.{worst-append_key, worst-append_null, once-append_new, once-append_seen}
use Rattle.pm_plan.specs.declared.plan.Pair.{Pair}
use Rattle.pm_plan.specs.Rows.{Db, table_rows, decls_of}
use Rattle.pm_plan.specs.Joins.{left_columns, right_columns, keys_of, matches, joined_rows, rows_for, join, joined_by, worst}
use Rattle.pm_values.specs.Keys.{worst as worst_key}
use Rattle.pm_plan.specs.Kinds.{width}
use Rattle.pm_plan.specs.Grouping.{group_row}
use Rattle.pm_plan.specs.Tree.{Unary, Filter, Project, Sort, Group, Method, Hash, Merge, On, Tree, Scan, Over, Join, Index, Seek, size, right_number, EachAt}
use Rattle.pm_plan.specs.Outputs.{output, sought, keeps_if}
use Rattle.pm_plan.proofs.Walks.{EachAt-map, EachAt-both, EachAt-root}
use Rattle.pm_work.specs.Events.{Event, events, rows_at, counts}
use Rattle.pm_work.specs.Moments.{Counts, settled_over, settled, seek_settled, worst_joined, worst_at, gauge_of, seek_gauge}
use Rattle.pm_work.specs.Changes.{settled_by_row, settled_by_left, settled_by_right, last_row, settled_by_sought, settled_by, seek_settled_by, worst_with, worst_joined_with, worst_after, gauge_after, seek_gauge_after, numbers_read, numbers_sought, AgreeAt}
use Rattle.pm_work.specs.Orderly.{JoinIsOrderly, IsOrderly, SeekIsOrderly}
use Rattle.pm_work.specs.Facts.{MergesAscend}
use Rattle.pm_work.proofs.EventLists.{rows_at-append, rows_at-part, is_within}
use Rattle.pm_work.proofs.EventLaws.{size_pos, apart, Within-events, rows_at-events, part_at}
use Rattle.pm_work.proofs.Counting.{RowsAtEach, events_each}
use Rattle.pm_work.proofs.Cuts.{front_of, next_pair}
use Rattle.pm_work.proofs.Orders.{IsCutAt, cuts, Orderly-events}

-- ---- one row more

settled_over-append : (op : Unary) (rows : List Row) (row : Row) → settled_over op (rows ++ row ∷ []) ≡ settled_over op rows + settled_by_row op rows row
settled_over-append (Filter c) rows row = ap length (filter-append (keeps c) rows (row ∷ [])) ∙ length-append (filter (keeps c) rows) (filter (keeps c) (row ∷ []))
settled_over-append (Project columns) rows row = refl
settled_over-append (Sort keys) rows row = refl
settled_over-append (Group [] items) rows row = refl
settled_over-append (Group (k ∷ ks) items) rows row =
    let keys : List ℕ = k ∷ ks in
    let more : keys_of keys (rows ++ row ∷ []) ≡ keys_of keys rows ++ pick keys row ∷ [] = map-append (pick keys) rows (row ∷ []) in
    let number : (rows : List Row) → length (map (group_row keys items rows) (different_keys (keys_of keys rows))) ≡ length (different_keys (keys_of keys rows)) =
    λ rows. length-map (different_keys (keys_of keys rows)) (group_row keys items rows) in
    let shown : length (different_keys (keys_of keys (rows ++ row ∷ []))) ≡ length (different_keys (keys_of keys rows ++ pick keys row ∷ [])) = ap (λ ks. length (different_keys ks)) more in
    elim (cases_Bool (list_any (λ other. same_values other (pick keys row)) (keys_of keys rows))) [
      | inl h ↦ rw h (omega (arith, number rows, number (rows ++ row ∷ []), shown, ap length (once-append_seen same_values (keys_of keys rows) (pick keys row) h)))
      | inr h ↦ rw h (omega (arith, number rows, number (rows ++ row ∷ []), shown, ap length (once-append_new same_values (keys_of keys rows) (pick keys row) h), length-append (different_keys (keys_of keys rows)) (pick keys row ∷ [])))
    ]

join-append_right : (pairs : List Pair) (ls rs : List Row) (row : Row) → length (join pairs ls (rs ++ row ∷ [])) ≡ length (join pairs ls rs) + settled_by_right pairs ls row
join-append_right pairs [] rs row = refl
join-append_right pairs (l ∷ ls) rs row =
    omega (
      arith,
      join-append_right pairs ls rs row,
      ap length (filter-append (λ r. same_key (pick (left_columns pairs) l) (pick (right_columns pairs) r)) rs (row ∷ [])),
      length-append (matches pairs l rs) (matches pairs l (row ∷ [])),
      length-map (matches pairs l (rs ++ row ∷ [])) (λ r. l ++ r),
      length-map (matches pairs l rs) (λ r. l ++ r),
      length-map (matches pairs l (row ∷ [])) (λ r. l ++ r),
      length-append (joined_rows pairs (rs ++ row ∷ []) l) (join pairs ls (rs ++ row ∷ [])),
      length-append (joined_rows pairs rs l) (join pairs ls rs),
      length-append (joined_rows pairs (row ∷ []) l) (join pairs ls (row ∷ [])),
    )

joined-append_left : (method : Method) (pairs : List Pair) (w : ℕ) (ls rs : List Row) (row : Row)
    → length (joined_by method pairs w (ls ++ row ∷ []) rs) ≡ length (joined_by method pairs w ls rs) + settled_by_left method pairs w rs row
joined-append_left method pairs w ls rs row =
    omega (
      arith,
      ap length (flat_map-append (rows_for method pairs w rs) ls (row ∷ [])),
      length-append (joined_by method pairs w ls rs) (joined_by method pairs w (row ∷ []) rs),
      ap length (append-nil (rows_for method pairs w rs row)),
    )

worst-append : (columns : List ℕ) (rows : List Row) (row : Row) → worst columns (rows ++ row ∷ []) ≡ worst_with columns rows row
worst-append columns rows row =
    let more : keys_of columns (rows ++ row ∷ []) ≡ keys_of columns rows ++ pick columns row ∷ [] = map-append (pick columns) rows (row ∷ []) in
    ap worst_key more ∙ (elim (cases_Bool (same_key (pick columns row) (pick columns row))) [
      | inl h ↦ rw h (worst-append_key (keys_of columns rows) (pick columns row) h)
      | inr h ↦ rw h (worst-append_null (keys_of columns rows) (pick columns row) h)
    ])

-- ---- what each node reads

-- a fact of the nodes that a node reads
abbrev Below : (Tree → ℕ → Type 0) → (Tree → Seek → ℕ → Type 0) → Tree → ℕ → Type 0
Below P S (Scan table label) n = Unit {0}
Below P S (Over op child) n = P child (n + 1)
Below P S (Join method on left right) n = P left (n + 1) × P right (right_number n left)
Below P S (Index left seek c) n = P left (n + 1) × S left seek n

module _ (P : Tree → ℕ → Type 0) (S : Tree → Seek → ℕ → Type 0) where
  EachAt-below : (t : Tree) (n : ℕ) → EachAt P S t n → EachAt (λ u m. P u m × Below P S u m) (λ left seek m. S left seek m × P left (m + 1)) t n
  EachAt-below (Scan table label) n g = (g, tt)
  EachAt-below (Over op child) n g = ((g.0, EachAt-root P S child (n + 1) g.1), EachAt-below child (n + 1) g.1)
  EachAt-below (Join method on left right) n g = (
    (g.0, (EachAt-root P S left (n + 1) g.1, EachAt-root P S right (right_number n left) g.2)),
    EachAt-below left (n + 1) g.1,
    EachAt-below right (right_number n left) g.2,
  )
  EachAt-below (Index left seek c) n g =
      let l : P left (n + 1) = EachAt-root P S left (n + 1) g.2 in ((g.0, (l, g.1)), (g.1, l), EachAt-below left (n + 1) g.2)

-- ---- an event e after some others

module _ (db : Db) (done : List Event) (e : Event) (left : List Event) where
  abbrev K : Counts
  K = counts done

  abbrev L : Counts
  L = counts (done ++ e ∷ [])

  -- a row of it, where it is of node k
  abbrev row_at : ℕ → List Row
  row_at k = cond (eqb e.node k) (e.row ∷ []) []

  rows_at-next : (k : ℕ) → rows_at k (done ++ e ∷ []) ≡ rows_at k done ++ row_at k
  rows_at-next k =
      rows_at-append k done (e ∷ [])
      ∙ ap (λ rows. rows_at k done ++ rows) (elim (eqb e.node k) as (λ t. map (λ x. x.row) (cond t (e ∷ []) []) ≡ cond t (e.row ∷ []) []) [ true ↦ refl | false ↦ refl ])

  count-next : (k : ℕ) → L k ≡ K k + cond (eqb e.node k) 1 0
  count-next k =
      ap length (rows_at-next k) ∙ length-append (rows_at k done) (row_at k)
      ∙ ap (λ i. K k + i) (elim (eqb e.node k) as (λ t. length (cond t (e.row ∷ []) []) ≡ cond t 1 0) [ true ↦ refl | false ↦ refl ])

  -- the rows of the node are read in order
  abbrev RowsAre : ℕ → List Row → Type 0
  RowsAre k out = rows_at k (done ++ e ∷ left) ≡ out

  handed : (k : ℕ) (out : List Row) → RowsAre k out → take (K k) out ≡ rows_at k done
  handed k out is = front_of (rows_at k done) (rows_at k (e ∷ left)) out (sym (rows_at-append k done (e ∷ left)) ∙ is)

  handed-next : (k : ℕ) (out : List Row) → RowsAre k out → take (L k) out ≡ take (K k) out ++ row_at k
  handed-next k out is =
      front_of (rows_at k (done ++ e ∷ [])) (rows_at k left) out (sym (rows_at-append k (done ++ e ∷ []) left) ∙ ap (rows_at k) (append_assoc done (e ∷ []) left) ∙ is)
      ∙ rows_at-next k ∙ ap (λ rows. rows ++ row_at k) (sym (handed k out is))

  -- a function of a node's rows grows by what the event adds where it is of that node
  grows : (k : ℕ) (out : List Row) (f : List Row → ℕ) (more : ℕ) → RowsAre k out → (e.node ≡ k → f (take (K k) out ++ e.row ∷ []) ≡ f (take (K k) out) + more)
      → f (take (L k) out) ≡ f (take (K k) out) + cond (eqb e.node k) more 0
  grows k out f more is step =
      ap f (handed-next k out is)
      ∙ (elim (cases_Bool (eqb e.node k)) [
        | inl h ↦ rw h (step (eqb-true e.node k h))
        | inr h ↦ rw h (ap f (append-nil (take (K k) out)) ∙ plus_zero (f (take (K k) out)))
      ])
    where
      plus_zero : (n : ℕ) → n ≡ n + 0
      plus_zero n = omega arith

  within-next : (k : ℕ) (out : List Row) → RowsAre k out → L k ≤ length out
  within-next k out is =
      omega (
        arith,
        ap length (sym (rows_at-append k (done ++ e ∷ []) left) ∙ ap (rows_at k) (append_assoc done (e ∷ []) left) ∙ is),
        length-append (rows_at k (done ++ e ∷ [])) (rows_at k left),
      )

  -- ---- a join n of these sides, the right one having number r

  module _ (method : Method) (on : On) (left_tree right_tree : Tree) (n : ℕ)
      (lefts : RowsAre (n + 1) (output db left_tree)) (rights : RowsAre (right_number n left_tree) (output db right_tree))
      (reads : JoinIsOrderly method (K (n + 1)) (K (right_number n left_tree)) (length (output db right_tree))) where
    abbrev r : ℕ
    r = right_number n left_tree

    abbrev w : ℕ
    w = width (decls_of db) right_tree

    abbrev lo : List Row
    lo = output db left_tree

    abbrev ro : List Row
    ro = output db right_tree

    -- an event of the right side leaves the left rows, and a hash join has none then
    lefts_stay : e.node ≡ r → take (L (n + 1)) lo ≡ take (K (n + 1)) lo
    lefts_stay own = ap (λ k. take k lo) (count-next (n + 1) ∙ (rw (ne_eqb e.node (n + 1) (λ z. absurd (omega (arith, z, own, size_pos left_tree)))) (plus_zero (K (n + 1)))))
      where
        plus_zero : (n : ℕ) → n + 0 ≡ n
        plus_zero n = omega arith

    by_right : (m : Method) → JoinIsOrderly m (K (n + 1)) (K r) (length ro) → e.node ≡ r
        → length (joined_by m on.pairs w (take (L (n + 1)) lo) (take (K r) ro ++ e.row ∷ []))
        ≡ length (joined_by m on.pairs w (take (L (n + 1)) lo) (take (K r) ro)) + settled_by_right on.pairs (take (K (n + 1)) lo) e.row
    by_right (Hash pad) reads own =
        let more : L r ≡ K r + 1 = count-next r ∙ (rw (eq-eqb e.node r own) refl) in
        let none : K (n + 1) ≡ 0 = elim (cases_lt 0 (K (n + 1))) [ inl p ↦ absurd (omega (arith, reads p, more, within-next r ro rights)) | inr z ↦ omega (arith, z) ] in
        let empty : take (K (n + 1)) lo ≡ [] = ap (λ k. take k lo) none in
        let empty_next : take (L (n + 1)) lo ≡ [] = lefts_stay own ∙ empty in
        rw (empty_next, empty) refl
    by_right Merge reads own =
        join-append_right on.pairs (take (L (n + 1)) lo) (take (K r) ro) e.row
        ∙ ap (λ ls. length (join on.pairs (take (L (n + 1)) lo) (take (K r) ro)) + settled_by_right on.pairs ls e.row) (lefts_stay own)

    join_settled : settled db (Join method on left_tree right_tree) n L ≡ settled db (Join method on left_tree right_tree) n K + settled_by db (Join method on left_tree right_tree) n K e
    join_settled =
        omega (
          arith,
          grows (n + 1) lo (λ ls. length (joined_by method on.pairs w ls (take (K r) ro))) (settled_by_left method on.pairs w (take (K r) ro) e.row) lefts
              (λ own. joined-append_left method on.pairs w (take (K (n + 1)) lo) (take (K r) ro) e.row),
          grows r ro (λ rs. length (joined_by method on.pairs w (take (L (n + 1)) lo) rs)) (settled_by_right on.pairs (take (K (n + 1)) lo) e.row) rights (by_right method reads),
        )

    join_worst : worst_at db (Join method on left_tree right_tree) n L
        ≡ worst_after db (Join method on left_tree right_tree) n K e (worst_at db (Join method on left_tree right_tree) n K)
    join_worst = by_method method
      where
        by_method : (m : Method) → worst_joined m on.pairs (take (L r) ro) ≡ cond (eqb e.node r) (worst_joined_with m on.pairs (take (K r) ro) e.row) (worst_joined m on.pairs (take (K r) ro))
        by_method (Hash pad) =
            ap (worst (right_columns on.pairs)) (handed-next r ro rights)
            ∙ (elim (eqb e.node r) as (λ t. worst (right_columns on.pairs) (take (K r) ro ++ cond t (e.row ∷ []) []) ≡ cond t (worst_with (right_columns on.pairs) (take (K r) ro) e.row) (worst (right_columns on.pairs) (take (K r) ro)))
            [ true ↦ worst-append (right_columns on.pairs) (take (K r) ro) e.row | false ↦ ap (worst (right_columns on.pairs)) (append-nil (take (K r) ro)) ])
        by_method Merge = either (eqb e.node r) 0
          where
            either : (t : Bool) (k : ℕ) → k ≡ cond t k k
            either true k = refl
            either false k = refl

  -- ---- an Index n and its Seek

  index_settled : (u : Tree) (seek : Seek) (c : Option Cond) (n : ℕ) → IsCutAt db done (e ∷ left) (Index u seek c) n → RowsAre (n + 1) (output db u)
      → settled db (Index u seek c) n L ≡ settled db (Index u seek c) n K + settled_by db (Index u seek c) n K e
  index_settled u seek c n cut lefts =
      let s : ℕ = right_number n u in
      let J : List Row = join seek.on.pairs (output db u) (table_rows db seek.table) in
      let kept : ℕ → ℕ = λ k. length (filter (keeps_if c) (take k J)) in
      ap kept (count-next s)
      ∙ (elim (cases_Bool (eqb e.node s)) [
        | inl h ↦ rw h (next (eqb-true e.node s h))
        | inr h ↦ rw h (same (K s))
      ])
    where
      s : ℕ
      s = right_number n u

      J : List Row
      J = join seek.on.pairs (output db u) (table_rows db seek.table)

      same : (k : ℕ) → length (filter (keeps_if c) (take (k + 0) J)) ≡ length (filter (keeps_if c) (take k J)) + 0
      same k = let z : k + 0 ≡ k = omega arith in omega (arith, ap (λ i. length (filter (keeps_if c) (take i J))) z)

      next : e.node ≡ s → length (filter (keeps_if c) (take (K s + 1) J)) ≡ length (filter (keeps_if c) (take (K s) J)) + settled_by_sought c (take (K (n + 1)) (output db u)) e.row
      next own =
          let d : List Event = part_at db (Index u seek c) n done in
          let rest : List Event = part_at db (Index u seek c) n left in
          let here : part_at db (Index u seek c) n (e ∷ left) ≡ e ∷ rest = own_first n (n + (2 + size u)) e left (omega (arith, own)) (omega (arith, own)) in
          let split : d ++ e ∷ rest ≡ events db (Index u seek c) n = ap (λ es. d ++ es) (sym here) ∙ cut in
          let of_left : rows_at (n + 1) d ≡ take (K (n + 1)) (output db u) = rows_at-part (n + 1) n (n + (2 + size u)) done (omega arith) (omega arith) ∙ sym (handed (n + 1) (output db u) lefts) in
          let of_seek : length (rows_at s d) ≡ K s = ap length (rows_at-part s n (n + (2 + size u)) done (omega arith) (omega arith)) in
          let pair : take (K s + 1) J ≡ take (K s) J ++ (last_row (take (K (n + 1)) (output db u)) ++ e.row) ∷ [] =
          subst (λ k. take (k + 1) J ≡ take k J ++ (last_row (take (K (n + 1)) (output db u)) ++ e.row) ∷ []) of_seek
          (subst (λ ls. take (length (rows_at s d) + 1) J ≡ take (length (rows_at s d)) J ++ (last_row ls ++ e.row) ∷ []) of_left
          (subst (λ ls. take (length (rows_at s d) + 1) (join seek.on.pairs ls (table_rows db seek.table)) ≡ take (length (rows_at s d)) (join seek.on.pairs ls (table_rows db seek.table)) ++ (last_row (rows_at (n + 1) d) ++ e.row) ∷ []) (rows_at-events db u (n + 1))
          (next_pair c n s (apart db n u) seek.on.pairs (table_rows db seek.table) (events db u (n + 1)) d e rest (Within-events db u (n + 1)) split own))) in
          ap (λ rows. length (filter (keeps_if c) rows)) pair
          ∙ ap length (filter-append (keeps_if c) (take (K s) J) ((last_row (take (K (n + 1)) (output db u)) ++ e.row) ∷ []))
          ∙ length-append (filter (keeps_if c) (take (K s) J)) (filter (keeps_if c) ((last_row (take (K (n + 1)) (output db u)) ++ e.row) ∷ []))
        where
          own_first : (a b : ℕ) (e : Event) (es : List Event) → a ≤ e.node → e.node < b → filter (is_within a b) (e ∷ es) ≡ e ∷ filter (is_within a b) es
          own_first a b e es l h = grind (arith, nat_tests)

  seek_after : (u : Tree) (seek : Seek) (n : ℕ) → RowsAre (n + 1) (output db u) → seek_gauge db u seek n L ≡ seek_gauge_after db u seek n K e
  seek_after u seek n lefts =
      let handed : L (right_number n u) ≡ K (right_number n u) + cond (eqb e.node (right_number n u)) 1 0 = count-next (right_number n u) in
      let settled : seek_settled db u seek n L ≡ seek_settled db u seek n K + seek_settled_by db seek n e =
      grows (n + 1) (output db u) (λ ls. length (sought db seek ls)) (length (matches seek.on.pairs e.row (table_rows db seek.table))) lefts
      (λ own. sought-append (take (K (n + 1)) (output db u))) in
      cc
    where
      sought-append : (ls : List Row) → length (sought db seek (ls ++ e.row ∷ [])) ≡ length (sought db seek ls) + length (matches seek.on.pairs e.row (table_rows db seek.table))
      sought-append ls =
          let f : Row → List Row = λ l. matches seek.on.pairs l (table_rows db seek.table) in
          omega (arith, ap length (flat_map-append f ls (e.row ∷ [])), length-append (flat_map f ls) (flat_map f (e.row ∷ [])), ap length (append-nil (f e.row)))

  -- ---- each node

  abbrev Rows : Tree → ℕ → Type 0
  Rows t n = RowsAre n (output db t)

  abbrev SeekRows : Tree → Seek → ℕ → Type 0
  SeekRows u seek n = RowsAre (right_number n u) (sought db seek (output db u))

  node_settled : (t : Tree) (n : ℕ) → IsCutAt db done (e ∷ left) t n → Below Rows SeekRows t n → IsOrderly db t n K → settled db t n L ≡ settled db t n K + settled_by db t n K e
  node_settled (Scan table label) n cut below o = omega arith
  node_settled (Over op child) n cut below o =
      grows (n + 1) (output db child) (settled_over op) (settled_by_row op (take (K (n + 1)) (output db child)) e.row) below (λ own. settled_over-append op (take (K (n + 1)) (output db child)) e.row)
  node_settled (Join method on a b) n cut below o = join_settled method on a b n below.0 below.1 o.root.1
  node_settled (Index u seek c) n cut below o = index_settled u seek c n cut below.0

  node_worst : (t : Tree) (n : ℕ) → Below Rows SeekRows t n → IsOrderly db t n K → worst_at db t n L ≡ worst_after db t n K e (worst_at db t n K)
  node_worst (Scan table label) n below o = refl
  node_worst (Over op child) n below o = refl
  node_worst (Join method on a b) n below o = join_worst method on a b n below.0 below.1 o.root.1
  node_worst (Index u seek c) n below o = refl

  node_after : (t : Tree) (n : ℕ) → IsCutAt db done (e ∷ left) t n → Below Rows SeekRows t n → IsOrderly db t n K → gauge_of db t n L ≡ gauge_after db t n K e
  node_after t n cut below o =
      let handed : L n ≡ K n + cond (eqb e.node n) 1 0 = count-next n in
      let settled : settled db t n L ≡ settled db t n K + settled_by db t n K e = node_settled t n cut below o in
      let worst : worst_at db t n L ≡ worst_after db t n K e (worst_at db t n K) = node_worst t n below o in
      cc

  pub gauges_step : (t : Tree) (n : ℕ) → MergesAscend db t → done ++ e ∷ left ≡ events db t n
      → EachAt (λ u m. gauge_of db u m L ≡ gauge_after db u m K e) (λ u seek m. seek_gauge db u seek m L ≡ seek_gauge_after db u seek m K e) t n
  gauges_step t n up is =
      let rows : EachAt Rows SeekRows t n = subst (λ es. RowsAtEach db es t n) (sym is) (events_each db t n) in
      let S : Tree → Seek → ℕ → Type 0 = λ u seek m. SeekRows u seek m × Rows u (m + 1) in
      let C : Tree → Seek → ℕ → Type 0 = λ u seek m. rows_at (right_number m u) (events db t n) ≡ sought db seek (output db u) in
      EachAt-map (λ u m. ((Rows u m × Below Rows SeekRows u m) × IsCutAt db done (e ∷ left) u m) × IsOrderly db u m K) (λ u m. gauge_of db u m L ≡ gauge_after db u m K e)
      (λ u seek m. (S u seek m × C u seek m) × SeekIsOrderly db u seek m K) (λ u seek m. seek_gauge db u seek m L ≡ seek_gauge_after db u seek m K e)
      (λ u m h. node_after u m h.0.1 h.0.0.1 h.1) (λ u seek m h. seek_after u seek m h.0.0.1) t n
      (EachAt-both (λ u m. (Rows u m × Below Rows SeekRows u m) × IsCutAt db done (e ∷ left) u m) (λ u m. IsOrderly db u m K) (λ u seek m. S u seek m × C u seek m) (λ u seek m. SeekIsOrderly db u seek m K) t n
      (EachAt-both (λ u m. Rows u m × Below Rows SeekRows u m) (IsCutAt db done (e ∷ left)) S C t n (EachAt-below Rows SeekRows t n rows) (cuts db done (e ∷ left) t n is))
      (Orderly-events db done (e ∷ left) t n up is))

-- ---- counts that agree where a gauge is read

module _ (db : Db) (K L : Counts) where
  pub node_same : (t : Tree) (n : ℕ) → AgreeAt (numbers_read t n) K L → gauge_of db t n K ≡ gauge_of db t n L
  node_same (Scan table label) n same =
      let here : K n ≡ L n = All-head (λ k. K k ≡ L k) n [] same in cc
  node_same (Over op child) n same =
      let here : K n ≡ L n = All-head (λ k. K k ≡ L k) n ((n + 1) ∷ []) same in
      let below : K (n + 1) ≡ L (n + 1) = All-head (λ k. K k ≡ L k) (n + 1) [] (All-tail (λ k. K k ≡ L k) n ((n + 1) ∷ []) same) in
      cc
  node_same (Join method on left right) n same =
      let r : ℕ = right_number n left in
      let rest : All (λ k. K k ≡ L k) ((n + 1) ∷ r ∷ []) = All-tail (λ k. K k ≡ L k) n ((n + 1) ∷ r ∷ []) same in
      let here : K n ≡ L n = All-head (λ k. K k ≡ L k) n ((n + 1) ∷ r ∷ []) same in
      let lefts : K (n + 1) ≡ L (n + 1) = All-head (λ k. K k ≡ L k) (n + 1) (r ∷ []) rest in
      let rights : K r ≡ L r = All-head (λ k. K k ≡ L k) r [] (All-tail (λ k. K k ≡ L k) (n + 1) (r ∷ []) rest) in
      cc
  node_same (Index left seek c) n same =
      let s : ℕ = right_number n left in
      let here : K n ≡ L n = All-head (λ k. K k ≡ L k) n (s ∷ []) same in
      let found : K s ≡ L s = All-head (λ k. K k ≡ L k) s [] (All-tail (λ k. K k ≡ L k) n (s ∷ []) same) in
      cc

  pub seek_same : (left : Tree) (seek : Seek) (n : ℕ) → AgreeAt (numbers_sought left n) K L → seek_gauge db left seek n K ≡ seek_gauge db left seek n L
  seek_same left seek n same =
      let s : ℕ = right_number n left in
      let found : K s ≡ L s = All-head (λ k. K k ≡ L k) s ((n + 1) ∷ []) same in
      let lefts : K (n + 1) ≡ L (n + 1) = All-head (λ k. K k ≡ L k) (n + 1) [] (All-tail (λ k. K k ≡ L k) s ((n + 1) ∷ []) same) in
      cc
