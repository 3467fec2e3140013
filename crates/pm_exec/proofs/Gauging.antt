-- the gauges that a run keeps are those of its moment
use Rattle.std.proofs.Common.{◌≡◌, ℕ, zero, suc, ◌+◌, ◌<◌, ◌≤◌, ◌^◌, cond, eqb, true, false, List, [], ◌∷◌, ◌++◌, map, length, take, drop, refl, ap, sym, subst, ◌∙◌, arith, inl, inr, add-one, length-append}
use Rattle.std.specs.Prelude.{All}
use Rattle.std.specs.List.{filter, flat_map}
use Rattle.std.proofs.lemmas.List.{length-map, length-take, map-append, take-append-drop}
use Rattle.pm_values.specs.Table.{IsRelation}
use Rattle.pm_values.specs.Row.{Row, pick}
use Rattle.pm_values.specs.Equality.{same_values}
use Rattle.pm_values.specs.Keys.{different_keys}
use Rattle.pm_values.specs.Condition.{keeps}
use Rattle.pm_values.proofs.KeyCounts.{length-once_le}
use Rattle.pm_plan.specs.declared.gauge.Gauge.{Gauge}
use Rattle.pm_plan.specs.declared.plan.Plan.{Plan}
use Rattle.pm_plan.specs.Rows.{Db, table_rows, decls_of}
use Rattle.pm_plan.specs.Joins.{keys_of, matches, join}
use Rattle.pm_plan.specs.Grouping.{group_row}
use Rattle.pm_plan.specs.Kinds.{width}
use Rattle.pm_plan.specs.Tree.{Unary, Filter, Project, Sort, Group, Hash, Merge, Tree, Scan, Over, Join, Index, size, right_number, EachAt}
use Rattle.pm_plan.specs.Preorder.{node_of, seek_node, tree_of}
use Rattle.pm_plan.specs.Outputs.{output, rows_over, sought, keeps_if}
use Rattle.pm_plan.proofs.Walks.{EachAt-map, EachAt-root, length-list_at}
use Rattle.pm_work.specs.Events.{Event, events, rows_at, counts}
use Rattle.pm_work.specs.Orderly.{Orderly}
use Rattle.pm_work.proofs.Flags.{merges_ascend}
use Rattle.pm_work.proofs.Orders.{Orderly-events}
use Rattle.pm_work.specs.Moments.{Counts, counts_at, gauge_of, seek_gauge, gauges_of, gauges_at, settled, seek_settled, settled_over}
use Rattle.pm_work.specs.Fits.{Fits, IsSound}
use Rattle.pm_work.proofs.Counting.{events_each}
use Rattle.pm_work.proofs.Joins.{length-filter_take, joined_take_le}
use Rattle.pm_flows.specs.declared.taken.Taken.{Taken}
use Rattle.pm_flows.specs.Coming.{Coming, event_of}
use Rattle.pm_flows.specs.Flow.{Flow, TakesOne}
use Rattle.pm_flows.specs.Plan.{coming}
use Rattle.pm_exec.specs.Noted.{gauges_with}
use Rattle.pm_exec.specs.Gauged.{IsAmong, IsCounted, first_gauge}
use Rattle.pm_exec.specs.Ran.{Ran}
use Rattle.pm_exec.specs.Running.{IsRootOf}
use Rattle.pm_flows.proofs.Comings.{event-coming}
use Rattle.pm_exec.proofs.Noting.{Noted}
use Rattle.pm_exec.proofs.TreeNoting.{coming_noted}
use Rattle.pm_exec.proofs.GaugeLists.{gauges_next}
use Rattle.pm_flows.proofs.NodeLists.{All-list_at, list_at-same, map-list_at}
use Rattle.pm_exec.proofs.Works.{events_few}

-- ---- before the first event

module _ (db : Db) where
  first_of : (u : Tree) (m : ℕ) → first_gauge db (node_of u m) ≡ gauge_of db u m (counts [])
  first_of (Scan table label) m = refl
  first_of (Over (Filter c) child) m = refl
  first_of (Over (Project columns) child) m = refl
  first_of (Over (Sort keys) child) m = refl
  first_of (Over (Group keys items) child) m = refl
  first_of (Join (Hash pad) on left right) m = refl
  first_of (Join Merge on left right) m = refl
  first_of (Index left seek c) m = refl

  pub firsts_are : (plan : Plan) → Fits plan db → map (first_gauge db) plan.nodes ≡ gauges_at db (tree_of plan.nodes) 0
  firsts_are plan fits =
      let tree : Tree = tree_of plan.nodes in
      ap (map (first_gauge db)) fits.valid.numbered
      ∙ map-list_at (first_gauge db) node_of (λ left seek m. seek_node seek (m + 1)) tree 1
      ∙ list_at-same (λ u m. first_gauge db (node_of u m)) (λ u m. gauge_of db u m (counts [])) (λ left seek m. first_gauge db (seek_node seek (m + 1)))
      (λ left seek m. seek_gauge db left seek m (counts [])) first_of (λ left seek m. refl) tree 1

-- ---- one event more

pub gauges_noted : (db : Db) (tree : Tree) (done left : List Coming) (e : Coming) → IsSound db tree → done ++ e ∷ left ≡ coming db tree 1
    → gauges_of db tree 1 (counts (map event_of (done ++ e ∷ []))) ≡ gauges_with 1 e.taken (gauges_of db tree 1 (counts (map event_of done)))
gauges_noted db tree done left e sound is =
    let all : map event_of done ++ event_of e ∷ map event_of left ≡ events db tree 1 = sym (map-append event_of done (e ∷ left)) ∙ ap (map event_of) is ∙ event-coming db tree 1 in
    subst (λ es. gauges_of db tree 1 (counts es) ≡ gauges_with 1 e.taken (gauges_of db tree 1 (counts (map event_of done)))) (sym (map-append event_of done (e ∷ [])))
    (gauges_next db (map event_of done) (map event_of left) e.taken e.row tree sound all
    (coming_noted db (counts (map event_of done)) tree 1 (merges_ascend db sound.tables tree sound.operators) (omega arith) done left e is (λ m l h. refl)).all)

module _ {X : Type 0} where
  take-more : (k : ℕ) (xs ys : List X) (y : X) → drop k xs ≡ y ∷ ys → take (k + 1) xs ≡ take k xs ++ y ∷ []
  take-more k xs ys y e = rw add-one (by k xs e)
    where
      by : (j : ℕ) (zs : List X) → drop j zs ≡ y ∷ ys → take (suc j) zs ≡ take j zs ++ y ∷ []
      by zero [] h = absurd cc
      by (suc j) [] h = absurd cc
      by zero (z ∷ zs) h = let same : z ≡ y = cc in ap (λ w. w ∷ []) same
      by (suc j) (z ∷ zs) h = ap (λ ws. z ∷ ws) (by j zs h)

  take-cut : (k : ℕ) (xs ys : List X) (y : X) → drop k xs ≡ y ∷ ys → take k xs ++ y ∷ ys ≡ xs
  take-cut k xs ys y e = ap (λ s. take k xs ++ s) (sym e) ∙ take-append-drop k xs

map-take : {X Y : Type 0} (f : X → Y) (k : ℕ) (xs : List X) → map f (take k xs) ≡ take k (map f xs)
map-take f zero xs = refl
map-take f (suc k) [] = refl
map-take f (suc k) (x ∷ xs) = ap (λ ys. f x ∷ ys) (map-take f k xs)

module _ (ran : Ran) (root : Flow) (is : IsRootOf ran root) (taken : Taken) (new : Flow) (t : TakesOne root taken new) where
  abbrev tree : Tree
  tree = tree_of ran.plan.nodes

  abbrev es : List Coming
  es = coming ran.db tree 1

  abbrev e : Coming
  e = record { taken = taken; row = t.row; free = t.free }

  at : drop ran.taken es ≡ e ∷ new.rest
  at = sym is.rest ∙ t.next

  so_far : (k : ℕ) → map event_of (take k es) ≡ take k (events ran.db tree 1)
  so_far k = map-take event_of k es ∙ ap (take k) (event-coming ran.db tree 1)

  pub gauges_after : IsSound ran.db tree → gauges_at ran.db tree (ran.taken + 1) ≡ gauges_with 1 taken (gauges_at ran.db tree ran.taken)
  gauges_after sound =
      let G : List Event → List Gauge = λ xs. gauges_of ran.db tree 1 (counts xs) in
      ap G (sym (so_far (ran.taken + 1)) ∙ ap (map event_of) (take-more ran.taken es new.rest e at))
      ∙ gauges_noted ran.db tree (take ran.taken es) new.rest e sound (take-cut ran.taken es new.rest e at)
      ∙ ap (λ xs. gauges_with 1 taken (G xs)) (so_far ran.taken)

  pub event_among : IsSound ran.db tree → IsAmong (length (gauges_at ran.db tree ran.taken)) taken
  event_among sound =
      let K : Counts = counts (map event_of (take ran.taken es)) in
      let noted : Noted ran.db K tree 1 e =
      coming_noted ran.db K tree 1 (merges_ascend ran.db sound.tables tree sound.operators) (omega arith) (take ran.taken es) new.rest e (take-cut ran.taken es new.rest e at) (λ m l h. refl) in
      let many : length (gauges_at ran.db tree ran.taken) ≡ size tree =
      length-list_at (λ u m. gauge_of ran.db u m (counts (take ran.taken (events ran.db tree 1)))) (λ left seek m. seek_gauge ran.db left seek m (counts (take ran.taken (events ran.db tree 1)))) tree 1 in
      record {
        some = omega (arith, noted.low);
        node = omega (arith, noted.high, many);
        reader = elim noted.reader [ inl p ↦ omega (arith, p) | inr q ↦ omega (arith, q.1, many) ];
      }

-- ---- their numbers have 128 bits

rows_at-le : (m : ℕ) (xs : List Event) → length (rows_at m xs) ≤ length xs
rows_at-le m [] = omega arith
rows_at-le m (x ∷ xs) =
    elim (eqb x.node m) as (λ b. length (map (λ y. y.row) (cond b (x ∷ filter (λ y. eqb y.node m) xs) (filter (λ y. eqb y.node m) xs))) ≤ suc (length xs))
    [ true ↦ omega (arith, rows_at-le m xs) | false ↦ omega (arith, rows_at-le m xs) ]

flat_map-take : (f : Row → List Row) (k : ℕ) (xs : List Row) → length (flat_map f (take k xs)) ≤ length (flat_map f xs)
flat_map-take f zero xs = omega arith
flat_map-take f (suc k) [] = omega arith
flat_map-take f (suc k) (x ∷ xs) = omega (arith, flat_map-take f k xs, length-append (f x) (flat_map f (take k xs)), length-append (f x) (flat_map f xs))

module _ (db : Db) (K : Counts) (top : ℕ) where
  abbrev RowsFew : Tree → ℕ → Type 0
  RowsFew u m = EachAt (λ v k. length (output db v) ≤ top) (λ left seek k. length (sought db seek (output db left)) ≤ top) u m

  root_few : (u : Tree) (m : ℕ) → RowsFew u m → length (output db u) ≤ top
  root_few u m h = EachAt-root (λ v k. length (output db v) ≤ top) (λ left seek k. length (sought db seek (output db left)) ≤ top) u m h

  over_few : (op : Unary) (k : ℕ) (rows : List Row) → length rows ≤ top → length (rows_over op rows) ≤ top → settled_over op (take k rows) ≤ top
  over_few (Filter c) k rows few out = omega (arith, out, length-filter_take (keeps c) k rows)
  over_few (Project columns) k rows few out = omega arith
  over_few (Sort keys) k rows few out = omega arith
  over_few (Group [] items) k rows few out = out
  over_few (Group (key ∷ keys) items) k rows few out =
      omega (
        arith,
        few,
        length-map (different_keys (keys_of (key ∷ keys) (take k rows))) (group_row (key ∷ keys) items (take k rows)),
        length-once_le same_values (keys_of (key ∷ keys) (take k rows)),
        length-map (take k rows) (pick (key ∷ keys)),
        length-take k rows,
      )

  settled_few : (u : Tree) (m : ℕ) → RowsFew u m → EachAt (λ v k. settled db v k K ≤ top) (λ left seek k. seek_settled db left seek k K ≤ top) u m
  settled_few (Scan table label) m h = h
  settled_few (Over op child) m h = (over_few op (K (m + 1)) (output db child) (root_few child (m + 1) h.1) h.0, settled_few child (m + 1) h.1)
  settled_few (Join method on left right) m h = (
    omega (arith, h.0, joined_take_le method on.pairs (width (decls_of db) right) (K (m + 1)) (K (right_number m left)) (output db left) (output db right)),
    settled_few left (m + 1) h.1,
    settled_few right (right_number m left) h.2,
  )
  settled_few (Index left seek c) m h = (
    omega (arith, h.0, length-filter_take (keeps_if c) (K (right_number m left)) (join seek.on.pairs (output db left) (table_rows db seek.table))),
    omega (arith, h.1, flat_map-take (λ l. matches seek.on.pairs l (table_rows db seek.table)) (K (m + 1)) (output db left)),
    settled_few left (m + 1) h.2,
  )

pub all_counted : (plan : Plan) (db : Db) (t : ℕ) → Fits plan db → All IsRelation db → All IsCounted (gauges_at db (tree_of plan.nodes) t)
all_counted plan db t fits tables =
    let tree : Tree = tree_of plan.nodes in
    let es : List Event = events db tree 1 in
    let K : Counts = counts (take t es) in
    let top : ℕ = length es in
    let few : top < 2 ^ 128 = events_few plan db fits tables in
    let handed : (m : ℕ) → K m ≤ top = (λ m. omega (arith, rows_at-le m (take t es), length-take t es)) in
    let rows : EachAt (λ u m. length (output db u) ≤ top) (λ left seek m. length (sought db seek (output db left)) ≤ top) tree 1 =
    EachAt-map (λ u m. rows_at m es ≡ output db u) (λ u m. length (output db u) ≤ top)
    (λ left seek m. rows_at (right_number m left) es ≡ sought db seek (output db left)) (λ left seek m. length (sought db seek (output db left)) ≤ top)
    (λ u m is. omega (arith, rows_at-le m es, ap length is)) (λ left seek m is. omega (arith, rows_at-le (right_number m left) es, ap length is)) tree 1 (events_each db tree 1) in
    All-list_at IsCounted (λ u m. gauge_of db u m K) (λ left seek m. seek_gauge db left seek m K) tree 1
    (EachAt-map (λ u m. settled db u m K ≤ top) (λ u m. IsCounted (gauge_of db u m K)) (λ left seek m. seek_settled db left seek m K ≤ top) (λ left seek m. IsCounted (seek_gauge db left seek m K))
    (λ u m s. record { handed = omega (arith, handed m, few); settled = omega (arith, s, few) })
    (λ left seek m s. record { handed = omega (arith, handed (right_number m left), few); settled = omega (arith, s, few) }) tree 1 (settled_few db K top tree 1 rows))

-- ---- what a caller needs of them

pub nodes_many : (plan : Plan) (db : Db) → Fits plan db → size (tree_of plan.nodes) ≡ length plan.nodes
nodes_many plan db fits = sym (ap length fits.valid.numbered ∙ length-list_at node_of (λ left seek m. seek_node seek (m + 1)) (tree_of plan.nodes) 1)

pub moment_orderly : (plan : Plan) (db : Db) (t : ℕ) → Fits plan db → All IsRelation db → Orderly db (tree_of plan.nodes) 1 (counts_at db (tree_of plan.nodes) t)
moment_orderly plan db t fits tables =
    let tree : Tree = tree_of plan.nodes in
    Orderly-events db (take t (events db tree 1)) (drop t (events db tree 1)) tree 1 (merges_ascend db tables tree fits.valid.operators) (take-append-drop t (events db tree 1))
