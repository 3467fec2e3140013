-- What is selected from: each group of rows, and the row that stands for it, in which each expression has its value.
use Rattle.std.proofs.Common.{◌≡◌, ◌<◌, ◌+◌, ℕ, suc, Bool, true, false, not, ◌||◌, cond, List, [], ◌∷◌, ◌++◌, length, map, filter, get_or, refl, ap, sym, ◌∙◌, arith, nat_eq}
use Rattle.std.specs.List.{list_any, position_or_len, AllByRecursion}
use Rattle.std.proofs.lemmas.Bool.{eqb-true}
use Rattle.std.proofs.lemmas.List.{length-map, get_or_append_left, get_or-append-add}
use Rattle.pm_syntax.specs.declared.tree.ColumnName.{ColumnName}
use Rattle.pm_values.specs.declared.value.Value.TheVariants as value
use Rattle.pm_values.specs.Row.{Row, cell, pick}
use Rattle.pm_values.specs.Equality.{same_values}
use Rattle.pm_values.specs.Keys.{once, different_keys}
use Rattle.pm_values.proofs.ValueOrder.{same_values_equal}
use Rattle.pm_plan.specs.declared.plan.Aggregate.{Aggregate}
use Rattle.pm_plan.specs.Grouping.{aggregate_of, grouped}
use Rattle.pm_query.specs.Bound.{same_aggregate}
use Rattle.pm_names.specs.declared.terms.KnownColumn.{KnownColumn}
use Rattle.pm_names.specs.declared.terms.Term.{Term}
use Rattle.pm_names.specs.declared.terms.Term.TheVariants as term
use Rattle.pm_names.specs.Names.{column_of}
use Rattle.pm_names.specs.Conditions.{position_in}
use Rattle.pm_names.proofs.Once.{equal_aggregates}
use Rattle.pm_binder.specs.Grouping.{key_columns}
use Rattle.pm_binder.specs.Meaning.{first_row, term_value, key_values, groups_of}
use Rattle.pm_binder.proofs.BoundTables.{position_below}
use Rattle.pm_binder.proofs.Images.{same_function, bool_iff, map_map, map_same, once_map, once_all, all_once, all_like}
use Rattle.pm_binder.proofs.SelectedRows.{shape_with, Stands}

-- a group, and the row that stands for it
pub record Selection (known : List KnownColumn) (g : Bool) (keys : List ℕ) (calls : List Aggregate) : Type 0 where
  pub group : List Row
  pub row : Row
  pub agree : (t : Term) → Stands known keys calls g t → term_value group t ≡ cell row (position_in (shape_with g keys calls) t)

-- ---- without grouping each row stands for itself

module _ (known : List KnownColumn) (keys : List ℕ) (calls : List Aggregate) where
  alone : Row → Selection known false keys calls
  alone row = record { group = row ∷ []; row = row; agree = of }
    where
      of : (t : Term) → Stands known keys calls false t → term_value (row ∷ []) t ≡ cell row (position_in (shape_with false keys calls) t)
      of (term.Column column) h = refl
      of (term.Call call) h = absurd h

  pub selected_alone : List Row → List (Selection known false keys calls)
  selected_alone rows = map alone rows

  pub alone_groups : (rows : List Row) → map (λ s. s.group) (selected_alone rows) ≡ map (λ row. row ∷ []) rows
  unfolding selected_alone alone
  alone_groups rows = map_map (λ s. s.group) alone rows

  pub alone_rows : (rows : List Row) → map (λ s. s.row) (selected_alone rows) ≡ rows
  unfolding selected_alone alone
  alone_rows rows = map_map (λ s. s.row) alone rows ∙ map_same rows

-- ---- rows that agree

-- the rows have these columns in common
abbrev AgreeIn : List ℕ → Row → Row → Type 0
AgreeIn columns a b = AllByRecursion (λ c. cell a c ≡ cell b c) columns

agree_in : (columns : List ℕ) (a b : Row) → pick columns a ≡ pick columns b → AgreeIn columns a b
agree_in [] a b h = tt
agree_in (c ∷ columns) a b h = let here : cell a c ≡ cell b c = cc h in let rest : pick columns a ≡ pick columns b = cc h in (here, agree_in columns a b rest)

picked : (columns : List ℕ) (a b : Row) → AgreeIn columns a b → pick columns a ≡ pick columns b
picked [] a b h = refl
picked (c ∷ columns) a b h = let here = h.0 in let rest = picked columns a b h.1 in λ i. here i ∷ rest i

-- rows agree in columns exactly where they agree in the different ones among them
once_agree : (columns : List ℕ) (a b : Row) → same_values (pick columns a) (pick columns b) ≡ same_values (pick (once nat_eq columns) a) (pick (once nat_eq columns) b)
once_agree columns a b =
    let keys = once nat_eq columns in
    bool_iff (same_values (pick columns a) (pick columns b)) (same_values (pick keys a) (pick keys b))
    (λ e. (same_values_equal (pick keys a) (pick keys b)).1 (picked keys a b (once_all (λ c. cell a c ≡ cell b c) nat_eq columns (agree_in columns a b ((same_values_equal (pick columns a) (pick columns b)).0 e)))))
    (λ e. (same_values_equal (pick columns a) (pick columns b)).1 (picked columns a b (all_once (λ c. cell a c ≡ cell b c) columns (agree_in keys a b ((same_values_equal (pick keys a) (pick keys b)).0 e)))))

-- ---- a row of keys and aggregates

key_cell : (keys : List ℕ) (row : Row) (c : ℕ) → list_any (nat_eq c) keys ≡ true → get_or (pick keys row) (position_or_len (nat_eq c) keys) value.Null ≡ cell row c
key_cell [] row c h = absurd (cc h)
key_cell (k ∷ keys) row c h = of (key_cell keys row c) (nat_eq c k) refl h
  where
    of : (list_any (nat_eq c) keys ≡ true → get_or (pick keys row) (position_or_len (nat_eq c) keys) value.Null ≡ cell row c) → (b : Bool) → nat_eq c k ≡ b → (b || list_any (nat_eq c) keys) ≡ true
        → get_or (cell row k ∷ pick keys row) (cond (not b) (1 + position_or_len (nat_eq c) keys) 0) value.Null ≡ cell row c
    of rest true e h = ap (cell row) (sym (eqb-true c k e))
    of rest false e h = let next : 1 + position_or_len (nat_eq c) keys ≡ suc (position_or_len (nat_eq c) keys) = omega arith in ap (λ n. get_or (cell row k ∷ pick keys row) n value.Null) next ∙ rest h

call_cell : (calls : List Aggregate) (group : List Row) (a : Aggregate) → list_any (same_aggregate a) calls ≡ true → get_or (map (aggregate_of group) calls) (position_or_len (same_aggregate a) calls) value.Null ≡ aggregate_of group a
call_cell [] group a h = absurd (cc h)
call_cell (k ∷ calls) group a h = of (call_cell calls group a) (same_aggregate a k) refl h
  where
    of : (list_any (same_aggregate a) calls ≡ true → get_or (map (aggregate_of group) calls) (position_or_len (same_aggregate a) calls) value.Null ≡ aggregate_of group a) → (b : Bool) → same_aggregate a k ≡ b
        → (b || list_any (same_aggregate a) calls) ≡ true → get_or (aggregate_of group k ∷ map (aggregate_of group) calls) (cond (not b) (1 + position_or_len (same_aggregate a) calls) 0) value.Null ≡ aggregate_of group a
    of rest true e h = ap (aggregate_of group) (sym (equal_aggregates a k e))
    of rest false e h =
        let next : 1 + position_or_len (same_aggregate a) calls ≡ suc (position_or_len (same_aggregate a) calls) = omega arith in
        ap (λ n. get_or (aggregate_of group k ∷ map (aggregate_of group) calls) n value.Null) next ∙ rest h

module _ (known : List KnownColumn) (keys : List ℕ) (calls : List Aggregate) where
  -- a group whose first row has the keys of the row
  row_agrees : (group : List Row) (r : Row) → pick keys (first_row group) ≡ pick keys r → (t : Term) → Stands known keys calls true t
      → term_value group t ≡ cell (pick keys r ++ map (aggregate_of group) calls) (position_in (shape_with true keys calls) t)
  row_agrees group r first (term.Column column) h =
      let low : position_or_len (nat_eq column) keys < length keys = position_below (nat_eq column) keys h in
      let inner : position_or_len (nat_eq column) keys < length (pick keys r) = rw (length-map keys (λ c. cell r c)) low in
      sym (key_cell keys (first_row group) column h) ∙ ap (λ vs. get_or vs (position_or_len (nat_eq column) keys) value.Null) first
      ∙ sym (get_or_append_left (pick keys r) (map (aggregate_of group) calls) value.Null (position_or_len (nat_eq column) keys) inner)
  row_agrees group r first (term.Call call) h =
      sym (call_cell calls group call h) ∙ sym (get_or-append-add (pick keys r) (map (aggregate_of group) calls) (position_or_len (same_aggregate call) calls) value.Null)
      ∙ ap (λ n. get_or (pick keys r ++ map (aggregate_of group) calls) (n + position_or_len (same_aggregate call) calls) value.Null) (length-map keys (λ c. cell r c))

  selection : (group : List Row) (r : Row) → pick keys (first_row group) ≡ pick keys r → Selection known true keys calls
  selection group r first = record { group = group; row = pick keys r ++ map (aggregate_of group) calls; agree = row_agrees group r first }

  -- the rows that agree with the row in the keys
  abbrev like : List Row → Row → List Row
  like rows r = filter (λ row. same_values (pick keys r) (pick keys row)) rows

  first_like : (rows : List Row) (r : Row) → list_any (λ row. same_values (pick keys r) (pick keys row)) rows ≡ true → pick keys (first_row (like rows r)) ≡ pick keys r
  first_like [] r h = absurd (cc h)
  first_like (row ∷ rows) r h = of (first_like rows r) (same_values (pick keys r) (pick keys row)) refl h
    where
      of : (list_any (λ other. same_values (pick keys r) (pick keys other)) rows ≡ true → pick keys (first_row (like rows r)) ≡ pick keys r) → (b : Bool) → same_values (pick keys r) (pick keys row) ≡ b
          → (b || list_any (λ other. same_values (pick keys r) (pick keys other)) rows) ≡ true → pick keys (first_row (cond b (row ∷ like rows r) (like rows r))) ≡ pick keys r
      of rest true e h = sym ((same_values_equal (pick keys r) (pick keys row)).0 e)
      of rest false e h = rest h

  selections : (rows rs : List Row) → AllByRecursion (λ r. list_any (λ row. same_values (pick keys r) (pick keys row)) rows ≡ true) rs → List (Selection known true keys calls)
  selections rows [] h = []
  selections rows (r ∷ rs) h = selection (like rows r) r (first_like rows r h.0) ∷ selections rows rs h.1

  selections_groups : (rows rs : List Row) (h : AllByRecursion (λ r. list_any (λ row. same_values (pick keys r) (pick keys row)) rows ≡ true) rs) → map (λ s. s.group) (selections rows rs h) ≡ map (like rows) rs
  unfolding selections selection
  selections_groups rows [] h = refl
  selections_groups rows (r ∷ rs) h = ap (λ gs. like rows r ∷ gs) (selections_groups rows rs h.1)

  selections_rows : (rows rs : List Row) (h : AllByRecursion (λ r. list_any (λ row. same_values (pick keys r) (pick keys row)) rows ≡ true) rs)
      → map (λ s. s.row) (selections rows rs h) ≡ map (λ r. pick keys r ++ map (aggregate_of (like rows r)) calls) rs
  unfolding selections selection
  selections_rows rows [] h = refl
  selections_rows rows (r ∷ rs) h = ap (λ ws. (pick keys r ++ map (aggregate_of (like rows r)) calls) ∷ ws) (selections_rows rows rs h.1)

-- ---- the groups

-- groups of rows, and the rows that stand for them
pub record Selections (known : List KnownColumn) (g : Bool) (keys : List ℕ) (calls : List Aggregate) (groups : List (List Row)) (rows : List Row) : Type 0 where
  pub all : List (Selection known g keys calls)
  pub groups_are : map (λ s. s.group) all ≡ groups
  pub rows_are : map (λ s. s.row) all ≡ rows

-- the rows by which the groups are told: the first ones
abbrev firsts : List ℕ → List Row → List Row
firsts keys rows = once (λ a b. same_values (pick keys a) (pick keys b)) rows

by_firsts : {A : Type 0} (keys : List ℕ) (f : Row → A) (rows : List Row) → map f (different_keys (map (pick keys) rows)) ≡ map (λ r. f (pick keys r)) (firsts keys rows)
by_firsts keys f rows = ap (map f) (once_map same_values (pick keys) rows) ∙ map_map f (pick keys) (firsts keys rows)

firsts_there : (keys : List ℕ) (rows : List Row) → AllByRecursion (λ r. list_any (λ row. same_values (pick keys r) (pick keys row)) rows ≡ true) (firsts keys rows)
firsts_there keys rows =
    once_all (λ r. list_any (λ row. same_values (pick keys r) (pick keys row)) rows ≡ true) (λ a b. same_values (pick keys a) (pick keys b)) rows
    (all_like (λ a b. same_values (pick keys a) (pick keys b)) (λ a. (same_values_equal (pick keys a) (pick keys a)).1 refl) rows)

-- the values of GROUP BY are those of its columns
key_values_are : (known : List KnownColumn) (groups : List ColumnName) → key_values known groups ≡ pick (map (column_of known) groups)
key_values_are known groups = same_function (key_values known groups) (pick (map (column_of known) groups)) (λ row. sym (map_map (λ column. cell row column) (column_of known) groups))

same_firsts : (columns : List ℕ) (rows : List Row) → firsts columns rows ≡ firsts (once nat_eq columns) rows
same_firsts columns rows = let keys = once nat_eq columns in λ i. once (λ a b. once_agree columns a b i) rows

groups_are : (known : List KnownColumn) (name : ColumnName) (groups : List ColumnName) (calls : List Aggregate) (rows : List Row)
    → groups_of known (name ∷ groups) rows ≡ map (like known (key_columns known (name ∷ groups)) calls rows) (firsts (key_columns known (name ∷ groups)) rows)
groups_are known name groups calls rows =
    let columns = map (column_of known) (name ∷ groups) in
    let values = key_values_are known (name ∷ groups) in
    (λ i. map (λ key. filter (λ row. same_values key (values i row)) rows) (different_keys (map (values i) rows)))
    ∙ by_firsts columns (λ key. filter (λ row. same_values key (pick columns row)) rows) rows
    ∙ (λ i. map (λ r. filter (λ row. once_agree columns r row i) rows) (same_firsts columns rows i))

pub grouped_selections : (known : List KnownColumn) (groups : List ColumnName) (calls : List Aggregate) (rows : List Row)
    → Selections known true (key_columns known groups) calls (groups_of known groups rows) (grouped (key_columns known groups) calls rows)
unfolding selection
grouped_selections known [] calls rows = record { all = selection known [] calls rows [] refl ∷ []; groups_are = refl; rows_are = refl }
grouped_selections known (name ∷ groups) calls rows =
    let keys = key_columns known (name ∷ groups) in
    let there = firsts_there keys rows in
    record {
      all = selections known keys calls rows (firsts keys rows) there;
      groups_are = selections_groups known keys calls rows (firsts keys rows) there ∙ sym (groups_are known name groups calls rows);
      rows_are =
          selections_rows known keys calls rows (firsts keys rows) there
          ∙ sym (by_firsts keys (λ key. key ++ map (aggregate_of (filter (λ row. same_values key (pick keys row)) rows)) calls) rows);
    }
