-- of any tree
use Rattle.std.proofs.Common.{◌≡◌, ℕ, ◌+◌, ◌≤◌, true, false, List, [], ◌∷◌, ◌++◌, map, length, refl, ap, sym, subst, ◌∙◌, inl, inr, arith}
use Rattle.pm_values.specs.Row.{Row}
use Rattle.pm_plan.specs.Rows.{Db, table_rows, decls_of}
use Rattle.pm_plan.specs.Joins.{right_columns, rows_for, worst}
use Rattle.pm_plan.specs.Kinds.{width}
use Rattle.pm_plan.specs.Tree.{Unary, Filter, Project, Sort, Group, Hash, Merge, Tree, Scan, Over, Join, Index, size, right_number}
use Rattle.pm_plan.specs.Outputs.{output, rows_over, sought}
use Rattle.pm_plan.proofs.Walks.{EachAt-root}
use Rattle.pm_work.proofs.Counting.{events_each}
use Rattle.pm_work.specs.Events.{events, rows_at}
use Rattle.pm_work.specs.Moments.{Counts}
use Rattle.pm_work.specs.Changes.{settled_by_row}
use Rattle.pm_work.proofs.EventLists.{Within}
use Rattle.pm_work.proofs.EventLaws.{Within-events, rows_at-events}
use Rattle.pm_flows.specs.Coming.{Coming, event_of, taken_read, rows_by, read, rows_in, after}
use Rattle.pm_flows.specs.Hashed.{entered}
use Rattle.pm_flows.specs.Plan.{coming, taken_in}
use Rattle.pm_flows.proofs.Comings.{event-coming}
use Rattle.pm_exec.proofs.Notes.{cut-append, rows_of, rows_of-append, history}
use Rattle.pm_work.specs.Facts.{MergesAscend}
use Rattle.pm_exec.proofs.Noting.{Noted, Agree, row_taken, own_noted, streamed_noted, taken_in_noted, right_noted, left_noted, sought_noted}
use Rattle.pm_flows.proofs.MergeSides.{ascend_rows}
use Rattle.pm_exec.proofs.MergeNoting.{merge_noted}

taken_in-history : (op : Unary) (n : ℕ) (rows : List Row) (es : List Coming) → taken_in n (settled_by_row op) rows es
    ≡ history (n + 1) (λ rows e. record { taken = taken_read n (settled_by_row op rows e.row) 0 e.taken; row = e.row; free = false }) (λ e. record { taken = e.taken; row = e.row; free = false }) rows es
taken_in-history op n rows [] = refl
taken_in-history op n rows (e ∷ es) = rw (taken_in-history op n (rows ++ e.row ∷ []) es, taken_in-history op n rows es) refl

entered-history : (n r : ℕ) (columns : List ℕ) (rows : List Row) (es : List Coming) → entered n r columns rows es
    ≡ history r (λ rows e. record { taken = taken_read n 0 (worst columns (rows ++ e.row ∷ [])) e.taken; row = e.row; free = false }) (λ e. record { taken = e.taken; row = e.row; free = false }) rows es
entered-history n r columns rows [] = refl
entered-history n r columns rows (e ∷ es) = rw (entered-history n r columns (rows ++ e.row ∷ []) es, entered-history n r columns rows es) refl

module _ (db : Db) (K : Counts) where
  -- a child that is read in first, and then the rows of its own
  module _ (op : Unary) (child : Tree) (n : ℕ) (some : 1 ≤ n)
      (deeper : (done left : List Coming) (e : Coming) → done ++ e ∷ left ≡ coming db child (n + 1) → Agree K done (n + 1) (n + 1 + size child) → Noted db K child (n + 1) e) where
    read_in_noted : (done left : List Coming) (e : Coming)
        → done ++ e ∷ left ≡ taken_in n (settled_by_row op) [] (coming db child (n + 1)) ++ rows_by n false (rows_over op (rows_in (n + 1) (coming db child (n + 1))))
        → Agree K done n (n + (1 + size child)) → Noted db K (Over op child) n e
    read_in_noted done left e is agree =
        let below : List Coming = coming db child (n + 1) in
        let out : List Row = rows_over op (rows_in (n + 1) below) in
        elim (cut-append done left (taken_in n (settled_by_row op) [] below) (rows_by n false out) e is) [
          | inl p ↦
              taken_in_noted db K op child n some below (output db child) (ap (rows_at (n + 1)) (event-coming db child (n + 1)) ∙ rows_at-events db child (n + 1)) refl deeper
              done p.0 e (p.1 ∙ taken_in-history op n [] below) agree
          | inr p ↦ own_noted db K (Over op child) n e some (row_taken n false out p.0 left e p.2)
        ]

  pub coming_noted : (t : Tree) (n : ℕ) → MergesAscend db t → 1 ≤ n → (done left : List Coming) (e : Coming) → done ++ e ∷ left ≡ coming db t n
      → Agree K done n (n + size t) → Noted db K t n e
  coming_noted (Scan table label) n up some done left e is agree = own_noted db K (Scan table label) n e some (row_taken n true (table_rows db table) done left e is)
  coming_noted (Over (Filter c) child) n up some done left e is agree =
      streamed_noted db K (Filter c) child n some (settled_by_row (Filter c) []) (λ rows row. refl) (λ row. rows_over (Filter c) (row ∷ [])) (coming db child (n + 1))
      (coming_noted child (n + 1) up.1 (omega arith)) done left e is agree
  coming_noted (Over (Project columns) child) n up some done left e is agree =
      streamed_noted db K (Project columns) child n some (settled_by_row (Project columns) []) (λ rows row. refl) (λ row. rows_over (Project columns) (row ∷ [])) (coming db child (n + 1))
      (coming_noted child (n + 1) up.1 (omega arith)) done left e is agree
  coming_noted (Over (Sort keys) child) n up some done left e is agree =
      read_in_noted (Sort keys) child n some (coming_noted child (n + 1) up.1 (omega arith)) done left e is agree
  coming_noted (Over (Group keys items) child) n up some done left e is agree =
      read_in_noted (Group keys items) child n some (coming_noted child (n + 1) up.1 (omega arith)) done left e is agree
  coming_noted (Join (Hash pad) on lt rt) n up some done left e is agree =
      let r : ℕ = right_number n lt in
      let lefts : List Coming = coming db lt (n + 1) in
      let rights : List Coming = coming db rt r in
      let right_events : map event_of rights ≡ events db rt r = event-coming db rt r in
      let ran : rows_of r rights ≡ output db rt = ap (rows_at r) right_events ∙ rows_at-events db rt r in
      let lw : Within (n + 1) r (map event_of lefts) = subst (Within (n + 1) r) (sym (event-coming db lt (n + 1))) (Within-events db lt (n + 1)) in
      let rwi : Within r (r + size rt) (map event_of rights) = subst (Within r (r + size rt)) (sym right_events) (Within-events db rt r) in
      let of_left = coming_noted lt (n + 1) up.1 (omega arith) in
      let of_right = coming_noted rt r up.2 (omega arith) in
      let first : List Coming = entered n r (right_columns on.pairs) [] rights in
      let behind : List Coming = after (n + 1) (read n (λ l. length (rows_for (Hash pad) on.pairs (width (decls_of db) rt) (rows_in r rights) l))) (λ l. rows_by n true (rows_for (Hash pad) on.pairs (width (decls_of db) rt) (rows_in r rights) l)) lefts in
      elim (cut-append done left first behind e is) [
        | inl p ↦ right_noted db K pad on lt rt n some lefts rights ran lw rwi of_left of_right done p.0 e (p.1 ∙ entered-history n r (right_columns on.pairs) [] rights) agree
        | inr p ↦ left_noted db K pad on lt rt n some lefts rights ran lw rwi of_left of_right done p.0 left e (p.1 ∙ ap (λ s. s ++ p.0) (entered-history n r (right_columns on.pairs) [] rights)) p.2 agree
      ]
  coming_noted (Join Merge on lt rt) n up some done left e is agree =
      let r : ℕ = right_number n lt in
      let lefts : List Coming = coming db lt (n + 1) in
      let rights : List Coming = coming db rt r in
      let left_events : map event_of lefts ≡ events db lt (n + 1) = event-coming db lt (n + 1) in
      let right_events : map event_of rights ≡ events db rt r = event-coming db rt r in
      merge_noted db K on lt rt n some lefts rights (ap (rows_at (n + 1)) left_events ∙ rows_at-events db lt (n + 1)) (ap (rows_at r) right_events ∙ rows_at-events db rt r)
      (subst (Within (n + 1) r) (sym left_events) (Within-events db lt (n + 1))) (subst (Within r (r + size rt)) (sym right_events) (Within-events db rt r))
      (ascend_rows (right_columns on.pairs) (output db rt) up.0.right)
      (coming_noted lt (n + 1) up.1 (omega arith)) (coming_noted rt r up.2 (omega arith)) done left e is agree
  coming_noted (Index lt seek c) n up some done left e is agree =
      let r : ℕ = right_number n lt in
      let t : Tree = Index lt seek c in
      let all : map event_of (coming db t n) ≡ events db t n = event-coming db t n in
      let lefts : rows_of (n + 1) (coming db t n) ≡ output db lt =
      ap (rows_at (n + 1)) all ∙ EachAt-root (λ u m. rows_at m (events db t n) ≡ output db u) (λ u k m. rows_at (right_number m u) (events db t n) ≡ sought db k (output db u)) lt (n + 1) (events_each db t n).2 in
      sought_noted db K lt seek c n some (coming db lt (n + 1)) (coming_noted lt (n + 1) up.2 (omega arith)) done left e is
      (sym (rows_of-append (n + 1) done (e ∷ left)) ∙ ap (rows_of (n + 1)) is ∙ lefts) agree
