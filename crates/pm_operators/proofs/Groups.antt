-- what one more row changes of the groups of some rows, and the events of a group
use Rattle.std.proofs.Common.{◌≡◌, ℕ, ◌+◌, Bool, true, false, eqb, inl, inr, List, [], ◌∷◌, ◌++◌, map, filter, drop, length, refl, ap, sym, subst, ◌∙◌, append-nil, zero-add}
use Rattle.std.specs.Prelude.{All, if◌then◌else◌}
use Rattle.std.specs.List.{AllByRecursion, list_any}
use Rattle.std.proofs.lemmas.Bool.{cases_Bool}
use Rattle.std.proofs.lemmas.List.{take_at, drop_at, map-append, append_assoc, length-map, length-append}
use Rattle.std.proofs.lemmas.List.Elements.{All-nil, All-cons, All-map, All-weaker, recursion_from_All}
use Rattle.pm_values.specs.Row.{Row, cell, pick}
use Rattle.pm_values.specs.Equality.{same_values}
use Rattle.pm_values.specs.Keys.{different_keys}
use Rattle.pm_values.proofs.ValueOrder.{same_values_equal}
use Rattle.pm_values.proofs.KeyCounts.{is_in-different_keys}
use Rattle.pm_values.proofs.KeysAppended.{is_in, once-append_new, once-append_seen}
use Rattle.pm_plan.specs.declared.plan.Aggregate.{Aggregate}
use Rattle.pm_plan.specs.Joins.{keys_of}
use Rattle.pm_plan.specs.Grouping.{aggregate_of, group_row, grouped}
use Rattle.pm_plan.specs.Tree.{Group}
use Rattle.pm_plan.proofs.Appends.{one_if, rows_of_key-more}
use Rattle.pm_work.specs.Changes.{new_groups, settled_by_row}
use Rattle.pm_work.proofs.Ascending.{or_false}
use Rattle.pm_work.proofs.RowLists.{All-once}
use Rattle.pm_blocks.proofs.Aggregates.{aggregate_of-more}
use Rattle.pm_flows.specs.Coming.{Coming, taken_read, rows_by, rows_in}
use Rattle.pm_flows.specs.Growing.{is_of, aggregates_with, group_with, first_group, groups_with, new_group, grouping}
use Rattle.pm_operators.specs.GroupFlow.{HasWidth}
use Rattle.pm_flows.specs.Plan.{taken_in}

-- ---- one more row

aggregates-more : (row : Row) (items : List Aggregate) (rows : List Row) → aggregates_with row items (map (aggregate_of rows) items) ≡ map (aggregate_of (rows ++ row ∷ [])) items
aggregates-more row [] rows = refl
aggregates-more row (item ∷ items) rows =
    ap (λ v. v ∷ aggregates_with row items (map (aggregate_of rows) items)) (sym (aggregate_of-more item rows row))
    ∙ ap (λ vs. aggregate_of (rows ++ row ∷ []) item ∷ vs) (aggregates-more row items rows)

module _ (keys : List ℕ) (items : List Aggregate) (row : Row) where
  abbrev wide : ℕ
  wide = length keys

  abbrev key : Row
  key = pick keys row

  abbrev own : Row → List Row → List Row
  own k rows = filter (λ r. same_values k (pick keys r)) rows

  group-more : (k : Row) (some : List Row) → length k ≡ wide → group_with wide items row (k ++ map (aggregate_of some) items) ≡ k ++ map (aggregate_of (some ++ row ∷ [])) items
  group-more k some w =
      ap (λ first. first ++ aggregates_with row items (drop wide (k ++ map (aggregate_of some) items))) (take_at k (map (aggregate_of some) items) wide w)
      ∙ ap (λ rest. k ++ aggregates_with row items rest) (drop_at k (map (aggregate_of some) items) wide w)
      ∙ ap (λ rest. k ++ rest) (aggregates-more row items some)

  is_of-row : (rows : List Row) (k : Row) → length k ≡ wide → is_of keys row (group_row keys items rows k) ≡ same_values k key
  is_of-row rows k w = ap (λ first. same_values first key) (take_at k (map (aggregate_of (own k rows)) items) wide w)

  abbrev grown : Row → Row
  grown group = if is_of keys row group then group_with wide items row group else group

  one : (rows : List Row) (k : Row) → length k ≡ wide → grown (group_row keys items rows k) ≡ group_row keys items (rows ++ row ∷ []) k
  one rows k w =
      let more : own k (rows ++ row ∷ []) ≡ own k rows ++ one_if (same_values k key) row = rows_of_key-more keys k row rows in
      elim (cases_Bool (same_values k key)) [
        | inl t ↦
            ap (λ b. if b then group_with wide items row (group_row keys items rows k) else group_row keys items rows k) (is_of-row rows k w ∙ t)
            ∙ group-more k (own k rows) w
            ∙ ap (λ some. k ++ map (aggregate_of some) items) (sym (more ∙ ap (λ b. own k rows ++ one_if b row) t))
        | inr f ↦
            ap (λ b. if b then group_with wide items row (group_row keys items rows k) else group_row keys items rows k) (is_of-row rows k w ∙ f)
            ∙ ap (λ some. k ++ map (aggregate_of some) items) (sym (more ∙ ap (λ b. own k rows ++ one_if b row) f ∙ append-nil (own k rows)))
      ]

  each : (rows ks : List Row) → AllByRecursion (HasWidth wide) ks → map grown (map (group_row keys items rows) ks) ≡ map (group_row keys items (rows ++ row ∷ [])) ks
  each rows [] all = refl
  each rows (k ∷ ks) all =
      ap (λ first. first ∷ map grown (map (group_row keys items rows) ks)) (one rows k all.0)
      ∙ ap (λ rest. group_row keys items (rows ++ row ∷ []) k ∷ rest) (each rows ks all.1)

  any : (rows ks : List Row) → AllByRecursion (HasWidth wide) ks → list_any (is_of keys row) (map (group_row keys items rows) ks) ≡ is_in key ks
  any rows [] all = refl
  any rows (k ∷ ks) all = rw (is_of-row rows k all.0, any rows ks all.1) refl

  unlike : (a b : Row) → same_values a b ≡ false → same_values b a ≡ false
  unlike a b f =
      elim (cases_Bool (same_values b a)) [
        | inl t ↦ absurd (let s : true ≡ false = sym ((same_values_equal a b).1 (sym ((same_values_equal b a).0 t))) ∙ f in cc)
        | inr g ↦ g
      ]

  none : (rows : List Row) → is_in key (keys_of keys rows) ≡ false → own key rows ≡ []
  none [] f = refl
  none (r ∷ rows) f =
      let p = or_false (same_values (pick keys r) key) (is_in key (keys_of keys rows)) f in
      rw (unlike (pick keys r) key p.0) (none rows p.1)

  first : (rows : List Row) → is_in key (keys_of keys rows) ≡ false → first_group keys items row ≡ group_row keys items (rows ++ row ∷ []) key
  first rows f =
      group-more key [] (length-map keys (cell row))
      ∙ ap (λ some. key ++ map (aggregate_of some) items)
      (sym (rows_of_key-more keys key row rows ∙ ap (λ some. some ++ one_if (same_values key key) row) (none rows f) ∙ ap (λ b. one_if b row) ((same_values_equal key key).1 refl)))

-- ---- the groups

keys_wide : (keys : List ℕ) (rows : List Row) → All (HasWidth (length keys)) (keys_of keys rows)
keys_wide keys [] = All-nil (HasWidth (length keys))
keys_wide keys (r ∷ rows) = All-cons (HasWidth (length keys)) (pick keys r) (keys_of keys rows) (length-map keys (cell r)) (keys_wide keys rows)

found_wide : (keys : List ℕ) (rows : List Row) → All (HasWidth (length keys)) (different_keys (keys_of keys rows))
found_wide keys rows = All-once (HasWidth (length keys)) same_values (keys_of keys rows) (keys_wide keys rows)

-- all groups have one width
pub grouped-wide : (keys : List ℕ) (items : List Aggregate) (rows : List Row) → All (HasWidth (length keys + length items)) (grouped keys items rows)
grouped-wide [] items rows =
    subst (λ w. All (HasWidth w) (grouped [] items rows)) (sym (zero-add (length items)))
    (All-cons (HasWidth (length items)) (map (aggregate_of rows) items) [] (length-map items (aggregate_of rows)) (All-nil (HasWidth (length items))))
grouped-wide (key ∷ keys) items rows =
    let all : List ℕ = key ∷ keys in
    let own : Row → List Row = λ k. filter (λ r. same_values k (pick all r)) rows in
    All-map (HasWidth (length all + length items)) (group_row all items rows) (different_keys (keys_of all rows))
    (All-weaker (HasWidth (length all)) (λ k. HasWidth (length all + length items) (group_row all items rows k))
    (λ k w. length-append k (map (aggregate_of (own k)) items) ∙ ap (λ n. n + length (map (aggregate_of (own k)) items)) w ∙ ap (λ n. length all + n) (length-map items (aggregate_of (own k))))
    (different_keys (keys_of all rows)) (found_wide all rows))

abbrev Grows : List ℕ → List Aggregate → List Row → Row → Type 0
Grows keys items rows row =
    (groups_with keys items row (grouped keys items rows) ≡ grouped keys items (rows ++ row ∷ [])) × (new_group keys row (grouped keys items rows) ≡ new_groups keys rows row)

module _ (all : List ℕ) (items : List Aggregate) (rows : List Row) (row : Row) where
  abbrev found : List Row
  found = different_keys (keys_of all rows)

  abbrev more : Row → Row
  more = group_row all items (rows ++ row ∷ [])

  abbrev known : Bool
  known = is_in (pick all row) (keys_of all rows)

  abbrev old_groups : List Row
  old_groups = map (group_row all items rows) found

  wides : AllByRecursion (HasWidth (length all)) found
  wides = recursion_from_All (HasWidth (length all)) found (found_wide all rows)

  seen : list_any (is_of all row) old_groups ≡ known
  seen = any all items row rows found wides ∙ is_in-different_keys (pick all row) (keys_of all rows)

  put : (b : Bool) → known ≡ b → groups_with all items row old_groups ≡ map more found ++ (if b then [] else first_group all items row ∷ [])
  put b is =
      ap (λ c. map (grown all items row) old_groups ++ (if c then [] else first_group all items row ∷ [])) (seen ∙ is)
      ∙ ap (λ groups. groups ++ (if b then [] else first_group all items row ∷ [])) (each all items row rows found wides)

  longer : keys_of all (rows ++ row ∷ []) ≡ keys_of all rows ++ pick all row ∷ []
  longer = map-append (pick all) rows (row ∷ [])

  put_all : (b : Bool) → known ≡ b → groups_with all items row old_groups ≡ map more (different_keys (keys_of all (rows ++ row ∷ [])))
  put_all true is =
      put true is ∙ append-nil (map more found)
      ∙ ap (map more) (sym (ap different_keys longer ∙ once-append_seen same_values (keys_of all rows) (pick all row) is))
  put_all false is =
      put false is ∙ ap (λ last. map more found ++ last ∷ []) (first all items row rows is)
      ∙ sym (map-append more found (pick all row ∷ []))
      ∙ ap (map more) (sym (ap different_keys longer ∙ once-append_new same_values (keys_of all rows) (pick all row) is))

grows : (keys : List ℕ) (items : List Aggregate) (rows : List Row) (row : Row) → Grows keys items rows row
grows [] items rows row = (ap (λ group. group ∷ []) (aggregates-more row items rows), refl)
grows (key ∷ keys) items rows row =
    (put_all (key ∷ keys) items rows row (known (key ∷ keys) items rows row) refl, ap (λ c. if c then 0 else 1) (seen (key ∷ keys) items rows row))

pub groups_with-grouped : (keys : List ℕ) (items : List Aggregate) (rows : List Row) (row : Row) → groups_with keys items row (grouped keys items rows) ≡ grouped keys items (rows ++ row ∷ [])
groups_with-grouped keys items rows row = (grows keys items rows row).0

-- how many more there are
pub length-groups_with : (keys : List ℕ) (items : List Aggregate) (row : Row) (groups : List Row) → length (groups_with keys items row groups) ≡ length groups + new_group keys row groups
length-groups_with keys items row groups =
    length-append (map (grown keys items row) groups) (if list_any (is_of keys row) groups then [] else first_group keys items row ∷ [])
    ∙ ap (λ n. n + length (if list_any (is_of keys row) groups then [] else first_group keys items row ∷ [])) (length-map groups (grown keys items row))
    ∙ ap (λ n. length groups + n) (by (list_any (is_of keys row) groups))
  where
    by : (b : Bool) → length (if b then [] else first_group keys items row ∷ []) ≡ (if b then 0 else 1)
    by true = refl
    by false = refl

-- ---- the events

-- the events of a group whose groups are those of these rows so far
abbrev Groups : ℕ → List ℕ → List Aggregate → List Coming → List Row → Type 0
Groups n keys items es rows =
    taken_in n (settled_by_row (Group keys items)) rows es ++ rows_by n false (grouped keys items (rows ++ rows_in (n + 1) es)) ≡ grouping n keys items (grouped keys items rows) es

module _ (n : ℕ) (keys : List ℕ) (items : List Aggregate) (e : Coming) (es : List Coming) (deeper : (rows : List Row) → Groups n keys items es rows) (rows : List Row) where
  one_more_event : (b : Bool) → eqb e.taken.node (n + 1) ≡ b → Groups n keys items (e ∷ es) rows
  one_more_event true is =
      let g = grows keys items rows e.row in
      rw is (
      ap (λ k. record { taken = taken_read n k 0 e.taken; row = e.row; free = false } ∷ (taken_in n (settled_by_row (Group keys items)) (rows ++ e.row ∷ []) es ++ rows_by n false (grouped keys items (rows ++ e.row ∷ rows_in (n + 1) es)))) (sym g.1)
      ∙ ap (λ rs. record { taken = taken_read n (new_group keys e.row (grouped keys items rows)) 0 e.taken; row = e.row; free = false } ∷ rs) (
      ap (λ rs. taken_in n (settled_by_row (Group keys items)) (rows ++ e.row ∷ []) es ++ rows_by n false (grouped keys items rs)) (sym (append_assoc rows (e.row ∷ []) (rows_in (n + 1) es)))
      ∙ deeper (rows ++ e.row ∷ []) ∙ ap (λ groups. grouping n keys items groups es) (sym g.0)
      )
      )
  one_more_event false other = rw other (ap (λ rs. record { taken = e.taken; row = e.row; free = false } ∷ rs) (deeper rows))

pub taken_in-grouping : (n : ℕ) (keys : List ℕ) (items : List Aggregate) (rows : List Row) (es : List Coming) → Groups n keys items es rows
taken_in-grouping n keys items rows [] = ap (λ rs. rows_by n false (grouped keys items rs)) (append-nil rows)
taken_in-grouping n keys items rows (e ∷ es) =
    one_more_event n keys items e es (λ rs. taken_in-grouping n keys items rs es) rows (eqb e.taken.node (n + 1)) refl
