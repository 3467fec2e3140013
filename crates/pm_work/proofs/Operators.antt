-- the events of one operator from those below it: their nodes, its own rows, and the events of each side
use Rattle.std.proofs.Common.{◌≡◌, ℕ, ◌+◌, ◌<◌, ◌≤◌, true, false, cond, List, [], ◌∷◌, ◌++◌, map, refl, sym, ap, ◌∙◌, inl, inr, arith}
use Rattle.std.specs.Prelude.{Option}
use Rattle.std.specs.List.{flat_map, filter}
use Rattle.std.proofs.lemmas.Bool.{cases_Bool}
use Rattle.std.proofs.lemmas.List.{append-nil}
use Rattle.std.proofs.lemmas.List.Elements.{filter-append}
use Rattle.pm_values.specs.declared.condition.Cond.{Cond}
use Rattle.pm_values.specs.Row.{Row, pick}
use Rattle.pm_values.specs.Condition.{keeps}
use Rattle.pm_plan.specs.declared.plan.Pair.{Pair}
use Rattle.pm_plan.specs.Joins.{matches, joined_rows, rows_for, join, joined_by}
use Rattle.pm_plan.specs.Tree.{Unary, Filter, Project, Sort, Group, Method, Hash, Merge, streams}
use Rattle.pm_plan.specs.Outputs.{rows_over, keeps_if}
use Rattle.pm_work.specs.Events.{Event, events_of, after, rows_at, events_over, events_joined, events_sought}
use Rattle.pm_work.proofs.EventLists.{Within, Within-append, Within-wider, Within-events_of, Within-after, filter-after, rows_at-append, rows_at-events_of, rows_at-outside, rows_at-after, is_within, part, part-all, part-none}
use Rattle.pm_work.proofs.Merges.{Within-merged, rows_at-merged, filter-merged_left, filter-merged_right}
use Rattle.pm_work.proofs.Indexes.{looked_up, Within-looked_up, at_seek, at_index, below_index}

pub flat_map-filter : (p : Row → _) (rows : List Row) → flat_map (λ row. filter p (row ∷ [])) rows ≡ filter p rows
flat_map-filter p [] = refl
flat_map-filter p (r ∷ rows) =
    elim (p r) as (λ t. cond t (r ∷ []) [] ++ flat_map (λ row. filter p (row ∷ [])) rows ≡ cond t (r ∷ filter p rows) (filter p rows))
    [ true ↦ ap (λ s. r ∷ s) (flat_map-filter p rows) | false ↦ flat_map-filter p rows ]

flat_map-map : (f : Row → Row) (rows : List Row) → flat_map (λ row. map f (row ∷ [])) rows ≡ map f rows
flat_map-map f [] = refl
flat_map-map f (r ∷ rows) = ap (λ s. f r ∷ s) (flat_map-map f rows)

-- what an operator that streams makes of rows is what it makes of each
pub rows_over-each : (op : Unary) (rows : List Row) → streams op ≡ true → flat_map (λ row. rows_over op (row ∷ [])) rows ≡ rows_over op rows
rows_over-each (Filter c) rows s = flat_map-filter (keeps c) rows
rows_over-each (Project columns) rows s = flat_map-map (pick columns) rows
rows_over-each (Sort keys) rows s = absurd cc
rows_over-each (Group keys items) rows s = absurd cc

-- the events of node n itself are not among those of higher numbers
part-events_of : (n a b : ℕ) (rows : List Row) → n < a → part a b (events_of n rows) ≡ []
part-events_of n a b rows l = part-none a b n (n + 1) (events_of n rows) (Within-events_of n (n + 1) rows (omega arith)) (inl (omega arith))

-- ---- over one child, whose numbers are from n + 1 up to below b

module _ (op : Unary) (n b : ℕ) (below : List Event) (rows : List Row) (in_child : Within (n + 1) b below) where
  pub Within-over : (top : ℕ) → n < top → b ≤ top → Within n top (events_over op n below rows)
  Within-over top t h =
      let wider : Within n top below = Within-wider (n + 1) b n top below (omega arith) h in_child in
      elim (cases_Bool (streams op)) [
        | inl s ↦ rw s (Within-after n top (n + 1) (λ row. events_of n (rows_over op (row ∷ []))) below (λ row. Within-events_of n top (rows_over op (row ∷ [])) t) wider)
        | inr s ↦ rw s (Within-append n top below (events_of n (rows_over op rows)) wider (Within-events_of n top (rows_over op rows) t))
      ]

  pub rows_at-over : rows_at (n + 1) below ≡ rows → rows_at n (events_over op n below rows) ≡ rows_over op rows
  rows_at-over e =
      elim (cases_Bool (streams op)) [
        | inl s ↦ rw s (
            rows_at-after n (n + 1) (n + 1) b (λ row. events_of n (rows_over op (row ∷ []))) (λ row. rows_over op (row ∷ [])) below (λ row. rows_at-events_of n (rows_over op (row ∷ []))) in_child (inl (omega arith))
            ∙ rows_over-each op (rows_at (n + 1) below) s
            ∙ ap (rows_over op) e)
        | inr s ↦ rw s (
            rows_at-append n below (events_of n (rows_over op rows))
            ∙ ap (λ z. z ++ rows_at n (events_of n (rows_over op rows))) (rows_at-outside n (n + 1) b below in_child (inl (omega arith)))
            ∙ rows_at-events_of n (rows_over op rows))
      ]

  pub part-over : part (n + 1) b (events_over op n below rows) ≡ below
  part-over =
      elim (cases_Bool (streams op)) [
        | inl s ↦ rw s (
            filter-after (is_within (n + 1) b) (n + 1) (λ row. events_of n (rows_over op (row ∷ []))) below (λ row. part-events_of n (n + 1) b (rows_over op (row ∷ [])) (omega arith))
            ∙ part-all (n + 1) b below in_child)
        | inr s ↦ rw s (
            filter-append (is_within (n + 1) b) below (events_of n (rows_over op rows))
            ∙ ap (λ z. part (n + 1) b below ++ z) (part-events_of n (n + 1) b (rows_over op rows) (omega arith))
            ∙ append-nil (part (n + 1) b below)
            ∙ part-all (n + 1) b below in_child)
      ]

-- ---- of two sides, whose numbers are from n + 1 and from r up to below b

module _ (pairs : List Pair) (n r b width : ℕ) (rows : List Row) (lefts rights : List Event) (apart : n + 1 < r) (in_left : Within (n + 1) r lefts) (in_right : Within r b rights) where
  pub Within-joined : (method : Method) → n < b → r ≤ b → Within n b (events_joined method pairs n r width rows lefts rights)
  Within-joined method t h =
      let ls : Within n b lefts = Within-wider (n + 1) r n b lefts (omega arith) h in_left in
      let rs : Within n b rights = Within-wider r b n b rights (omega (arith, apart)) (omega arith) in_right in
      go method ls rs
    where
      go : (method : Method) → Within n b lefts → Within n b rights → Within n b (events_joined method pairs n r width rows lefts rights)
      go (Hash pad) ls rs =
          Within-append n b rights _ rs
          (Within-after n b (n + 1) (λ l. events_of n (rows_for (Hash pad) pairs width rows l)) lefts (λ l. Within-events_of n b (rows_for (Hash pad) pairs width rows l) t) ls)
      go Merge ls rs = Within-merged pairs n r rows b [] lefts rights t ls rs

  pub rows_at-joined : (method : Method) → rows_at n (events_joined method pairs n r width rows lefts rights) ≡ joined_by method pairs width (rows_at (n + 1) lefts) rows
  rows_at-joined (Hash pad) =
      let called : Row → List Event = λ l. events_of n (rows_for (Hash pad) pairs width rows l) in
      rows_at-append n rights (after (n + 1) called lefts)
      ∙ ap (λ z. z ++ rows_at n (after (n + 1) called lefts)) (rows_at-outside n r b rights in_right (inl (omega (arith, apart))))
      ∙ rows_at-after n (n + 1) (n + 1) r called (rows_for (Hash pad) pairs width rows) lefts (λ l. rows_at-events_of n (rows_for (Hash pad) pairs width rows l)) in_left (inl (omega arith))
  rows_at-joined Merge = rows_at-merged pairs n r rows b apart [] lefts rights in_left in_right

  pub part-joined_left : (method : Method) → part (n + 1) r (events_joined method pairs n r width rows lefts rights) ≡ lefts
  part-joined_left method =
      let none : part (n + 1) r rights ≡ [] = part-none (n + 1) r r b rights in_right (inr (omega arith)) in
      go method none ∙ part-all (n + 1) r lefts in_left
    where
      go : (method : Method) → part (n + 1) r rights ≡ [] → part (n + 1) r (events_joined method pairs n r width rows lefts rights) ≡ part (n + 1) r lefts
      go (Hash pad) none =
          let called : Row → List Event = λ l. events_of n (rows_for (Hash pad) pairs width rows l) in
          filter-append (is_within (n + 1) r) rights (after (n + 1) called lefts)
          ∙ ap (λ z. z ++ part (n + 1) r (after (n + 1) called lefts)) none
          ∙ filter-after (is_within (n + 1) r) (n + 1) called lefts (λ l. part-events_of n (n + 1) r (rows_for (Hash pad) pairs width rows l) (omega arith))
      go Merge none = filter-merged_left pairs n r rows (is_within (n + 1) r) (λ own. part-events_of n (n + 1) r own (omega arith)) [] lefts rights none

  pub part-joined_right : (method : Method) → part r b (events_joined method pairs n r width rows lefts rights) ≡ rights
  part-joined_right method =
      let none : part r b lefts ≡ [] = part-none r b (n + 1) r lefts in_left (inl (omega arith)) in
      go method none ∙ part-all r b rights in_right
    where
      go : (method : Method) → part r b lefts ≡ [] → part r b (events_joined method pairs n r width rows lefts rights) ≡ part r b rights
      go (Hash pad) none =
          let called : Row → List Event = λ l. events_of n (rows_for (Hash pad) pairs width rows l) in
          filter-append (is_within r b) rights (after (n + 1) called lefts)
          ∙ ap (λ z. part r b rights ++ z) (filter-after (is_within r b) (n + 1) called lefts (λ l. part-events_of n r b (rows_for (Hash pad) pairs width rows l) (omega (arith, apart))) ∙ none)
          ∙ append-nil (part r b rights)
      go Merge none = filter-merged_right pairs n r rows (is_within r b) (λ own. part-events_of n r b own (omega (arith, apart))) [] lefts rights none

-- ---- of an Index with its Seek

filter-flat_map : (p : Row → _) (f : Row → List Row) (xs : List Row) → filter p (flat_map f xs) ≡ flat_map (λ x. filter p (f x)) xs
filter-flat_map p f [] = refl
filter-flat_map p f (x ∷ xs) = filter-append p (f x) (flat_map f xs) ∙ ap (λ s. filter p (f x) ++ s) (filter-flat_map p f xs)

module _ (c : Option Cond) (pairs : List Pair) (n s : ℕ) (rows : List Row) (lefts : List Event) (apart : n + 1 < s) (in_left : Within (n + 1) s lefts) where
  abbrev pub called_by : Row → List Event
  called_by l = looked_up c n s (omega (arith, apart)) l (matches pairs l rows)

  pub Within-sought : Within n (s + 1) (events_sought c pairs n s rows lefts)
  Within-sought =
      Within-after n (s + 1) (n + 1) called_by lefts (λ l. Within-looked_up c n s (omega (arith, apart)) (s + 1) l (matches pairs l rows) (omega arith))
      (Within-wider (n + 1) s n (s + 1) lefts (omega arith) (omega arith) in_left)

  pub rows_at-index : rows_at n (events_sought c pairs n s rows lefts) ≡ filter (keeps_if c) (join pairs (rows_at (n + 1) lefts) rows)
  rows_at-index =
      rows_at-after n (n + 1) (n + 1) s called_by (λ l. filter (keeps_if c) (joined_rows pairs rows l)) lefts (λ l. at_index c n s (omega (arith, apart)) l (matches pairs l rows)) in_left (inl (omega arith))
      ∙ sym (filter-flat_map (keeps_if c) (joined_rows pairs rows) (rows_at (n + 1) lefts))

  pub rows_at-seek : rows_at s (events_sought c pairs n s rows lefts) ≡ flat_map (λ l. matches pairs l rows) (rows_at (n + 1) lefts)
  rows_at-seek =
      rows_at-after s (n + 1) (n + 1) s called_by (λ l. matches pairs l rows) lefts (λ l. at_seek c n s (omega (arith, apart)) l (matches pairs l rows)) in_left (inr (omega arith))

  pub part-sought : part (n + 1) s (events_sought c pairs n s rows lefts) ≡ lefts
  part-sought =
      filter-after (is_within (n + 1) s) (n + 1) called_by lefts (λ l. below_index c n s (omega (arith, apart)) l (matches pairs l rows))
      ∙ part-all (n + 1) s lefts in_left
