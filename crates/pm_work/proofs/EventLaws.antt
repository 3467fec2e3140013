-- the events of a tree: their nodes, and for each node its own events and its rows
use Rattle.std.proofs.Common.{◌≡◌, ℕ, ◌+◌, ◌<◌, ◌≤◌, List, sym, ap, subst, ◌∙◌, arith}
use Rattle.std.specs.List.{filter}
use Rattle.pm_plan.specs.Rows.{Db, table_rows, decls_of}
use Rattle.pm_plan.specs.Joins.{join, joined_by}
use Rattle.pm_plan.specs.Kinds.{width}
use Rattle.pm_plan.specs.Tree.{Tree, Scan, Over, Join, Index, Seek, size, right_number, EachAt}
use Rattle.pm_plan.specs.Outputs.{output, sought, keeps_if}
use Rattle.pm_work.specs.Events.{Event, events, rows_at}
use Rattle.pm_work.proofs.EventLists.{Within, Within-events_of, rows_at-events_of, part, part-all, part-part, rows_at-part}
use Rattle.pm_work.proofs.Operators.{Within-over, rows_at-over, part-over, Within-joined, rows_at-joined, part-joined_left, part-joined_right, Within-sought, rows_at-index, rows_at-seek, part-sought}

pub size_pos : (t : Tree) → 0 < size t
size_pos (Scan table label) = omega arith
size_pos (Over op child) = omega arith
size_pos (Join method on left right) = omega arith
size_pos (Index left seek cond) = omega arith

module _ (db : Db) where
  -- a left side stands before its right side
  pub apart : (n : ℕ) (left : Tree) → n + 1 < right_number n left
  apart n left = omega (arith, size_pos left)

  -- each event is of a node of the tree
  pub Within-events : (t : Tree) (n : ℕ) → Within n (n + size t) (events db t n)
  Within-events (Scan table label) n = Within-events_of n (n + 1) (table_rows db table) (omega arith)
  Within-events (Over op child) n = Within-over op n (n + 1 + size child) (events db child (n + 1)) (output db child) (Within-events child (n + 1)) (n + (1 + size child)) (omega arith) (omega arith)
  Within-events (Join method on left right) n =
      let r : ℕ = right_number n left in
      subst (λ b. Within n b (events db (Join method on left right) n)) (to n left right)
      (Within-joined on.pairs n r (r + size right) (width (decls_of db) right) (output db right) (events db left (n + 1)) (events db right r) (apart n left) (Within-events left (n + 1)) (Within-events right r) method (omega (arith, apart n left)) (omega arith))
    where
      to : (n : ℕ) (left right : Tree) → right_number n left + size right ≡ n + (1 + (size left + size right))
      to n left right = omega arith
  Within-events (Index left seek c) n =
      subst (λ b. Within n b (events db (Index left seek c) n)) (to n left)
      (Within-sought c seek.on.pairs n (right_number n left) (table_rows db seek.table) (events db left (n + 1)) (apart n left) (Within-events left (n + 1)))
    where
      to : (n : ℕ) (left : Tree) → right_number n left + 1 ≡ n + (2 + size left)
      to n left = omega arith

  -- the root's rows are its output
  pub rows_at-events : (t : Tree) (n : ℕ) → rows_at n (events db t n) ≡ output db t
  rows_at-events (Scan table label) n = rows_at-events_of n (table_rows db table)
  rows_at-events (Over op child) n = rows_at-over op n (n + 1 + size child) (events db child (n + 1)) (output db child) (Within-events child (n + 1)) (rows_at-events child (n + 1))
  rows_at-events (Join method on left right) n =
      let r : ℕ = right_number n left in
      rows_at-joined on.pairs n r (r + size right) (width (decls_of db) right) (output db right) (events db left (n + 1)) (events db right r) (apart n left) (Within-events left (n + 1)) (Within-events right r) method
      ∙ ap (λ ls. joined_by method on.pairs (width (decls_of db) right) ls (output db right)) (rows_at-events left (n + 1))
  rows_at-events (Index left seek c) n =
      rows_at-index c seek.on.pairs n (right_number n left) (table_rows db seek.table) (events db left (n + 1)) (apart n left) (Within-events left (n + 1))
      ∙ ap (λ ls. filter (keeps_if c) (join seek.on.pairs ls (table_rows db seek.table))) (rows_at-events left (n + 1))

  -- so are the Seek's
  pub rows_at-sought : (left : Tree) (seek : Seek) (c : _) (n : ℕ) → rows_at (right_number n left) (events db (Index left seek c) n) ≡ sought db seek (output db left)
  rows_at-sought left seek c n =
      rows_at-seek c seek.on.pairs n (right_number n left) (table_rows db seek.table) (events db left (n + 1)) (apart n left) (Within-events left (n + 1))
      ∙ ap (sought db seek) (rows_at-events left (n + 1))

  -- the tree's part of these events
  abbrev pub part_at : Tree → ℕ → List Event → List Event
  part_at t n es = part n (n + size t) es

  -- it is the tree's own events, at each node; and a Seek's rows are those that it looks up
  abbrev pub HasParts : List Event → Tree → ℕ → Type 0
  HasParts es t n = EachAt (λ u m. part_at u m es ≡ events db u m) (λ left seek m. rows_at (right_number m left) es ≡ sought db seek (output db left)) t n

  -- a part of a part
  inner : (t u : Tree) (n m : ℕ) (es : List Event) → n ≤ m → m + size u ≤ n + size t → part_at t n es ≡ events db t n → part_at u m (events db t n) ≡ events db u m
      → part_at u m es ≡ events db u m
  inner t u n m es l h e d = sym (part-part m (m + size u) n (n + size t) es l h) ∙ ap (part m (m + size u)) e ∙ d

  pub parts : (es : List Event) (t : Tree) (n : ℕ) → part_at t n es ≡ events db t n → HasParts es t n
  parts es (Scan table label) n e = e
  parts es (Over op child) n e = (
    e,
    parts es child (n + 1) (inner (Over op child) child n (n + 1) es (omega arith) (omega arith) e
        (part-over op n (n + 1 + size child) (events db child (n + 1)) (output db child) (Within-events child (n + 1)))),
  )
  parts es (Join method on left right) n e =
      let r : ℕ = right_number n left in
      let w : ℕ = width (decls_of db) right in (
        e,
        parts es left (n + 1) (inner (Join method on left right) left n (n + 1) es (omega arith) (omega arith) e
            (part-joined_left on.pairs n r (r + size right) w (output db right) (events db left (n + 1)) (events db right r) (apart n left) (Within-events left (n + 1)) (Within-events right r) method)),
        parts es right r (inner (Join method on left right) right n r es (omega arith) (omega arith) e
            (part-joined_right on.pairs n r (r + size right) w (output db right) (events db left (n + 1)) (events db right r) (apart n left) (Within-events left (n + 1)) (Within-events right r) method)),
      )
  parts es (Index left seek c) n e = (
    e,
    sym (rows_at-part (right_number n left) n (n + (2 + size left)) es (omega arith) (omega arith)) ∙ ap (rows_at (right_number n left)) e ∙ rows_at-sought left seek c n,
    parts es left (n + 1) (inner (Index left seek c) left n (n + 1) es (omega arith) (omega arith) e
        (part-sought c seek.on.pairs n (right_number n left) (table_rows db seek.table) (events db left (n + 1)) (apart n left) (Within-events left (n + 1)))),
  )

  pub events_parts : (t : Tree) (n : ℕ) → HasParts (events db t n) t n
  events_parts t n = parts (events db t n) t n (part-all n (n + size t) (events db t n) (Within-events t n))
