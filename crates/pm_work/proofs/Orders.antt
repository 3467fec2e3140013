-- the counts of each moment of a tree's events are orderly
use Rattle.std.proofs.Common.{◌≡◌, ℕ, ◌+◌, ◌<◌, ◌≤◌, true, false, List, [], ◌∷◌, ◌++◌, length, take, sym, ap, subst, ◌∙◌, inl, inr, arith, length-append}
use Rattle.std.specs.Prelude.{Option}
use Rattle.std.specs.List.{filter}
use Rattle.std.proofs.lemmas.Bool.{cases_Bool, cases_lt}
use Rattle.std.proofs.lemmas.List.{length-map}
use Rattle.std.proofs.lemmas.List.Elements.{filter-append}
use Rattle.pm_values.specs.declared.condition.Cond.{Cond}
use Rattle.pm_values.specs.Row.{Row, pick}
use Rattle.pm_plan.specs.Rows.{Db, table_rows, decls_of}
use Rattle.pm_plan.specs.Joins.{right_columns, join, joined_by}
use Rattle.pm_plan.specs.Kinds.{width}
use Rattle.pm_plan.specs.Tree.{Unary, Filter, Project, Sort, Group, Method, Hash, Merge, On, Tree, Scan, Over, Join, Index, Seek, size, right_number, EachAt, streams}
use Rattle.pm_plan.specs.Outputs.{output, rows_over, sought, keeps_if}
use Rattle.pm_plan.proofs.Walks.{Each-EachAt, EachAt-map, EachAt-both, EachAt-root}
use Rattle.pm_work.specs.Events.{Event, events_of, after, events, events_joined, rows_at, counts}
use Rattle.pm_work.specs.Moments.{Counts, settled, settled_over}
use Rattle.pm_work.specs.Orderly.{OverIsOrderly, JoinIsOrderly, RootIsOrderly, IsOrderly, SeekIsOrderly, Orderly}
use Rattle.pm_work.specs.Facts.{method_ascends, merge_ascends, MergesAscend}
use Rattle.pm_work.proofs.Joins.{length-sought}
use Rattle.pm_work.proofs.Sorts.{length-sorted}
use Rattle.pm_work.proofs.EventLists.{rows_at-append, rows_at-part, is_within}
use Rattle.pm_work.proofs.Operators.{rows_over-each}
use Rattle.pm_work.proofs.EventLaws.{size_pos, apart, Within-events, rows_at-events, part_at, events_parts}
use Rattle.pm_work.proofs.Counting.{RowsAtEach, events_each}
use Rattle.pm_work.proofs.Ascending.{none_falls}
use Rattle.pm_work.proofs.Cuts.{front_of, streamed_few, waits_for_all, HashIsCut, hash_cut, merged_few, IndexIsCut, index_cut}

-- ---- walks

-- a fact of each node that says enough of an Index to give one of its Seek
module _ (P Q : Tree → ℕ → Type 0) (S R : Tree → Seek → ℕ → Type 0) (on_tree : (t : Tree) (n : ℕ) → P t n → Q t n)
    (on_seek : (left : Tree) (seek : Seek) (c : Option Cond) (n : ℕ) → P (Index left seek c) n → R left seek n) where
  pub EachAt-seeks : (t : Tree) (n : ℕ) → EachAt P S t n → EachAt Q R t n
  EachAt-seeks (Scan table label) n g = on_tree (Scan table label) n g
  EachAt-seeks (Over op child) n g = (on_tree (Over op child) n g.0, EachAt-seeks child (n + 1) g.1)
  EachAt-seeks (Join method on left right) n g = (on_tree (Join method on left right) n g.0, EachAt-seeks left (n + 1) g.1, EachAt-seeks right (right_number n left) g.2)
  EachAt-seeks (Index left seek c) n g = (on_tree (Index left seek c) n g.0, on_seek left seek c n g.0, EachAt-seeks left (n + 1) g.2)

-- ---- a first part of the events of one node

-- the rows of node m in it, where these are the first ones of its output
read : (m : ℕ) (done left all : List Event) (out : List Row) (k : ℕ) → done ++ left ≡ all → rows_at m all ≡ out → k ≡ counts done m → take k out ≡ rows_at m done
read m done left all out k e o h =
    ap (λ i. take i out) h ∙ front_of (rows_at m done) (rows_at m left) out (sym (rows_at-append m done left) ∙ ap (rows_at m) e ∙ o)

within : (m : ℕ) (done left all : List Event) (out : List Row) (k : ℕ) → done ++ left ≡ all → rows_at m all ≡ out → k ≡ counts done m → k ≤ length out
within m done left all out k e o h =
    omega (arith, h, length-append (rows_at m done) (rows_at m left), ap length (sym (rows_at-append m done left) ∙ ap (rows_at m) e ∙ o))

-- an operator over a child
stream_orderly : (op : Unary) (count : ℕ) (rows : List Row) (out : ℕ) → streams op ≡ true → count ≤ length (rows_over op rows) → OverIsOrderly op count (settled_over op rows) (length rows) out
stream_orderly (Filter c) count rows out s few = few
stream_orderly (Project columns) count rows out s few = omega (arith, few, length-map rows (pick columns))
stream_orderly (Sort keys) count rows out s few = absurd cc
stream_orderly (Group keys items) count rows out s few = absurd cc

block_orderly : (op : Unary) (count settled read : ℕ) (out : List Row) → streams op ≡ false → count ≤ length (rows_over op out) → (0 < count → read ≡ length out) → OverIsOrderly op count settled read (length out)
block_orderly (Filter c) count settled read out s few waits = absurd cc
block_orderly (Project columns) count settled read out s few waits = absurd cc
block_orderly (Sort keys) count settled read out s few waits = record {
  within = elim (cases_lt 0 count) [ inl p ↦ omega (arith, few, length-sorted keys out, waits p) | inr z ↦ omega (arith, z) ];
  waits = waits;
}
block_orderly (Group keys items) count settled read out s few waits = waits

-- the root's rows are among those of each node
root_rows : (db : Db) (es : List Event) (u : Tree) (m : ℕ) → RowsAtEach db es u m → rows_at m es ≡ output db u
root_rows db es u m g =
    EachAt-root (λ u m. rows_at m es ≡ output db u) (λ left seek m. rows_at (right_number m left) es ≡ sought db seek (output db left)) u m g

-- a tree whose events are cut there, with counts that are those of the first part at the tree's numbers
module _ (db : Db) (K : Counts) (d l : List Event) where
  abbrev CountsOf : Tree → ℕ → Type 0
  CountsOf t n = (k : ℕ) → n ≤ k → k < n + size t → K k ≡ counts d k

  over_orderly : (op : Unary) (child : Tree) (n : ℕ) → d ++ l ≡ events db (Over op child) n → CountsOf (Over op child) n → RootIsOrderly db (Over op child) n K
  over_orderly op child n e same =
      let all : List Event = events db (Over op child) n in
      let below : List Event = events db child (n + 1) in
      let out : List Row = output db child in
      let here : K n ≡ counts d n = same n (omega arith) (omega arith) in
      let count : K (n + 1) ≡ counts d (n + 1) = same (n + 1) (omega arith) (omega (arith, size_pos child)) in
      let rows : take (K (n + 1)) out ≡ rows_at (n + 1) d = read (n + 1) d l all out (K (n + 1)) e (root_rows db all child (n + 1) (events_each db (Over op child) n).1) count in
      let few : K n ≤ length (rows_over op out) = within n d l all (rows_over op out) (K n) e (rows_at-events db (Over op child) n) here in
      elim (cases_Bool (streams op)) [
        | inl s ↦
            let cut : d ++ l ≡ after (n + 1) (λ row. events_of n (rows_over op (row ∷ []))) below = rw s at e in
            let now : K n ≤ length (rows_over op (take (K (n + 1)) out)) =
            omega (
              arith,
              here,
              streamed_few n (n + 1) (n + 1) (n + 1 + size child) (λ z. absurd (omega (arith, z))) (inl (omega arith)) (λ row. rows_over op (row ∷ [])) below d l (Within-events db child (n + 1)) cut,
              ap length (rows_over-each op (rows_at (n + 1) d) s),
              ap (λ r. length (rows_over op r)) rows,
            ) in
            let read : length (take (K (n + 1)) out) ≡ K (n + 1) = ap length rows ∙ sym count in
            subst (λ k. OverIsOrderly op (K n) (settled_over op (take (K (n + 1)) out)) k (length out)) read (stream_orderly op (K n) (take (K (n + 1)) out) (length out) s now)
        | inr s ↦
            let cut : d ++ l ≡ below ++ events_of n (rows_over op out) = rw s at e in
            block_orderly op (K n) (settled_over op (take (K (n + 1)) out)) (K (n + 1)) out s few
            (λ p. count ∙ ap length (waits_for_all n (n + 1 + size child) below (rows_over op out) d l (Within-events db child (n + 1)) cut (omega (arith, p, here)) ∙ rows_at-events db child (n + 1)))
      ]

  join_orderly : (method : Method) (on : On) (left right : Tree) (n : ℕ) → merge_ascends db (Join method on left right) → d ++ l ≡ events db (Join method on left right) n
      → CountsOf (Join method on left right) n → RootIsOrderly db (Join method on left right) n K
  join_orderly method on left right n up e same =
      let all : List Event = events db (Join method on left right) n in
      let r : ℕ = right_number n left in
      let w : ℕ = width (decls_of db) right in
      let here : K n ≡ counts d n = same n (omega arith) (omega arith) in
      let count_l : K (n + 1) ≡ counts d (n + 1) = same (n + 1) (omega arith) (omega (arith, size_pos left)) in
      let count_r : K r ≡ counts d r = same r (omega arith) (omega (arith, size_pos right)) in
      let each : RowsAtEach db all (Join method on left right) n = events_each db (Join method on left right) n in
      let lefts : take (K (n + 1)) (output db left) ≡ rows_at (n + 1) d = read (n + 1) d l all (output db left) (K (n + 1)) e (root_rows db all left (n + 1) each.1) count_l in
      let rights : take (K r) (output db right) ≡ rows_at r d = read r d l all (output db right) (K r) e (root_rows db all right r each.2) count_r in
      let settled : length (joined_by method on.pairs w (take (K (n + 1)) (output db left)) (take (K r) (output db right))) ≡ length (joined_by method on.pairs w (rows_at (n + 1) d) (rows_at r d)) =
      ap (λ s. length (joined_by method on.pairs w s (take (K r) (output db right)))) lefts ∙ ap (λ s. length (joined_by method on.pairs w (rows_at (n + 1) d) s)) rights in
      by_method method up e here count_l count_r settled
    where
      r : ℕ
      r = right_number n left

      w : ℕ
      w = width (decls_of db) right

      by_method : (m : Method) → method_ascends m on.pairs (output db left) (output db right)
          → d ++ l ≡ events_joined m on.pairs n r w (output db right) (events db left (n + 1)) (events db right r)
          → K n ≡ counts d n → K (n + 1) ≡ counts d (n + 1) → K r ≡ counts d r
          → length (joined_by m on.pairs w (take (K (n + 1)) (output db left)) (take (K r) (output db right))) ≡ length (joined_by m on.pairs w (rows_at (n + 1) d) (rows_at r d))
          → (K n ≤ length (joined_by m on.pairs w (take (K (n + 1)) (output db left)) (take (K r) (output db right)))) × JoinIsOrderly m (K (n + 1)) (K r) (length (output db right))
      by_method (Hash pad) up e here count_l count_r settled =
          let cut : HashIsCut n r pad on.pairs w (output db right) d =
          hash_cut n r (r + size right) pad on.pairs w (output db right) (events db left (n + 1)) (events db right r) d l (apart db n left) (Within-events db left (n + 1)) (Within-events db right r) (rows_at-events db right r) e in
          (omega (arith, here, settled, cut.few), (λ p. count_r ∙ ap length (cut.waits (omega (arith, p, count_l)))))
      by_method Merge up e here count_l count_r settled = (
        omega (
          arith,
          here,
          settled,
          merged_few on.pairs n r (r + size right) (apart db n left) (output db right) (none_falls (right_columns on.pairs) (output db right) up.right)
              [] (events db left (n + 1)) (events db right r) d l (Within-events db left (n + 1)) (Within-events db right r) (rows_at-events db right r) e,
        ),
        tt,
      )

  -- an Index, with its Seek
  index_is_cut : (left : Tree) (seek : Seek) (c : Option Cond) (n : ℕ) → d ++ l ≡ events db (Index left seek c) n
      → IndexIsCut c n (right_number n left) (apart db n left) seek.on.pairs (table_rows db seek.table) (events db left (n + 1)) d
  index_is_cut left seek c n e =
      index_cut c n (right_number n left) (apart db n left) seek.on.pairs (table_rows db seek.table) (events db left (n + 1)) d l (Within-events db left (n + 1)) e

  index_orderly : (left : Tree) (seek : Seek) (c : Option Cond) (n : ℕ) → d ++ l ≡ events db (Index left seek c) n → CountsOf (Index left seek c) n → RootIsOrderly db (Index left seek c) n K
  index_orderly left seek c n e same =
      let s : ℕ = right_number n left in
      let rows : List Row = table_rows db seek.table in
      omega (
        arith,
        (index_is_cut left seek c n e).few,
        same n (omega arith) (omega arith),
        ap (λ k. length (filter (keeps_if c) (take k (join seek.on.pairs (output db left) rows)))) (same s (omega arith) (omega arith)),
        ap (λ ls. length (filter (keeps_if c) (take (counts d s) (join seek.on.pairs ls rows)))) (rows_at-events db left (n + 1)),
      )

  seek_orderly : (left : Tree) (seek : Seek) (c : Option Cond) (n : ℕ) → d ++ l ≡ events db (Index left seek c) n → CountsOf (Index left seek c) n → SeekIsOrderly db left seek n K
  seek_orderly left seek c n e same =
      let s : ℕ = right_number n left in
      let all : List Event = events db (Index left seek c) n in
      let count : K s ≡ counts d s = same s (omega arith) (omega arith) in
      let each : RowsAtEach db all (Index left seek c) n = events_each db (Index left seek c) n in
      let lefts : take (K (n + 1)) (output db left) ≡ rows_at (n + 1) d =
      read (n + 1) d l all (output db left) (K (n + 1)) e (root_rows db all left (n + 1) each.2) (same (n + 1) (omega arith) (omega (arith, size_pos left))) in
      record {
        within = within s d l all (sought db seek (output db left)) (K s) e each.1 count;
        settled = omega (
          arith,
          count,
          (index_is_cut left seek c n e).found,
          length-sought seek.on.pairs (table_rows db seek.table) (rows_at (n + 1) d),
          ap (λ ls. length (sought db seek ls)) lefts,
        );
      }

  root_orderly : (t : Tree) (n : ℕ) → merge_ascends db t → d ++ l ≡ events db t n → CountsOf t n → RootIsOrderly db t n K
  root_orderly (Scan table label) n up e same = tt
  root_orderly (Over op child) n up e same = over_orderly op child n e same
  root_orderly (Join method on left right) n up e same = join_orderly method on left right n up e same
  root_orderly (Index left seek c) n up e same = index_orderly left seek c n e same

-- ---- a first part of the events of a tree

module _ (db : Db) (done left : List Event) where
  -- it is a first part of the events of each node
  abbrev pub IsCutAt : Tree → ℕ → Type 0
  IsCutAt t n = part_at db t n done ++ part_at db t n left ≡ events db t n

  same_counts : (t : Tree) (n : ℕ) → CountsOf db (counts done) (part_at db t n done) (part_at db t n left) t n
  same_counts t n k p q = ap length (sym (rows_at-part k n (n + size t) done p q))

  pub cuts : (t : Tree) (n : ℕ) → done ++ left ≡ events db t n → EachAt IsCutAt (λ u seek m. rows_at (right_number m u) (events db t n) ≡ sought db seek (output db u)) t n
  cuts t n e =
      EachAt-map (λ u m. part_at db u m (events db t n) ≡ events db u m) IsCutAt
      (λ u seek m. rows_at (right_number m u) (events db t n) ≡ sought db seek (output db u)) (λ u seek m. rows_at (right_number m u) (events db t n) ≡ sought db seek (output db u))
      (λ u m own. sym (filter-append (is_within m (m + size u)) done left) ∙ ap (part_at db u m) e ∙ own) (λ u seek m own. own) t n (events_parts db t n)

  pub Orderly-events : (t : Tree) (n : ℕ) → MergesAscend db t → done ++ left ≡ events db t n → Orderly db t n (counts done)
  Orderly-events t n up e =
      let K : Counts = counts done in
      let S : Tree → Seek → ℕ → Type 0 = λ u seek m. rows_at (right_number m u) (events db t n) ≡ sought db seek (output db u) in
      EachAt-seeks (λ u m. IsCutAt u m × merge_ascends db u) (λ u m. IsOrderly db u m K) (λ u seek m. S u seek m × Unit {0}) (λ u seek m. SeekIsOrderly db u seek m K)
      (λ u m h. record {
        within = within m (part_at db u m done) (part_at db u m left) (events db u m) (output db u) (K m) h.0 (rows_at-events db u m) (same_counts u m m (omega arith) (omega (arith, size_pos u)));
        root = root_orderly db K (part_at db u m done) (part_at db u m left) u m h.1 h.0 (same_counts u m);
      })
      (λ u seek c m h. seek_orderly db K (part_at db (Index u seek c) m done) (part_at db (Index u seek c) m left) u seek c m h.0 (same_counts (Index u seek c) m))
      t n (EachAt-both IsCutAt (λ u m. merge_ascends db u) S (λ u seek m. Unit {0}) t n (cuts t n e) (Each-EachAt (merge_ascends db) (λ u seek. Unit {0}) t n up))
