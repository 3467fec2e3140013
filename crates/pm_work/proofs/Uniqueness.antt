-- a tree that is unique on columns has no two rows that agree there and hold no NULL there
use Rattle.std.proofs.Common.{◌≡◌, ℕ, zero, suc, ◌+◌, ◌<◌, ◌≤◌, Bool, true, false, cond, List, [], ◌∷◌, ◌++◌, length, refl, sym, ap, ◌∙◌, inl, inr, arith}
use Rattle.std.specs.Prelude.{nat_lt, All}
use Rattle.std.specs.List.{filter}
use Rattle.std.proofs.lemmas.List.{get_or_append_left, map-append, length-map}
use Rattle.std.proofs.lemmas.List.Elements.{All-head, All-tail}
use Rattle.std.proofs.lemmas.Bool.{cases_Bool, and_from, ltb-true, both_ways}
use Rattle.pm_values.specs.declared.value.Value.TheVariants as value
use Rattle.pm_values.specs.Row.{Row, cell, pick}
use Rattle.pm_values.specs.Order.{key_at}
use Rattle.pm_values.specs.Equality.{same_key, same_key_value}
use Rattle.pm_values.specs.Condition.{keeps}
use Rattle.pm_values.specs.Table.{IsRelation}
use Rattle.pm_values.proofs.Keys.{both_true, same_key_of_itself}
use Rattle.pm_values.proofs.KeyCounts.{multiplicity_le_length}
use Rattle.pm_values.proofs.KeysAppended.{multiplicity-append}
use Rattle.pm_plan.specs.declared.plan.Pair.{Pair}
use Rattle.pm_plan.specs.Rows.{Db, table_rows, decls_of}
use Rattle.pm_plan.specs.Joins.{right_columns, keys_of, rows_for, joined_by, multiplicity}
use Rattle.pm_plan.specs.Kinds.{width, table_width}
use Rattle.pm_plan.specs.Unique.{left_part, unique_table, unique_on}
use Rattle.pm_plan.specs.Tree.{Unary, Filter, Project, Sort, Group, Method, Merge, Tree, Scan, Over, Join, Index, keeps_columns}
use Rattle.pm_plan.specs.Outputs.{output, rows_over, keeps_if}
use Rattle.pm_work.specs.Facts.{KeysDiffer, AtMostOne}
use Rattle.pm_work.proofs.Joins.{multiplicity-is, rows_for_one}
use Rattle.pm_work.proofs.Sorts.{length-filter_sorted}
use Rattle.pm_work.proofs.RowLists.{BeginsWith, rows_for_begin}
use Rattle.pm_work.proofs.RowKinds.{wide_output}
use Rattle.pm_work.proofs.Tables.{table_unique}

-- through a filter
length-filter_filter : (p q : Row → Bool) (xs : List Row) → length (filter p (filter q xs)) ≤ length (filter p xs)
length-filter_filter p q [] = omega arith
length-filter_filter p q (x ∷ xs) =
    let deep : length (filter p (filter q xs)) ≤ length (filter p xs) = length-filter_filter p q xs in
    elim (cases_Bool (q x)) [
      | inl e ↦ rw e (elim (p x) as (λ t. length (cond t (x ∷ filter p (filter q xs)) (filter p (filter q xs))) ≤ length (cond t (x ∷ filter p xs) (filter p xs))) [ true ↦ omega (arith, deep) | false ↦ deep ])
      | inr e ↦ rw e (elim (p x) as (λ t. length (filter p (filter q xs)) ≤ length (cond t (x ∷ filter p xs) (filter p xs))) [ true ↦ omega (arith, deep) | false ↦ deep ])
    ]

multiplicity_filter : (columns : List ℕ) (key : Row) (q : Row → Bool) (rows : List Row) → multiplicity columns key (filter q rows) ≤ multiplicity columns key rows
multiplicity_filter columns key q rows =
    omega (arith, multiplicity-is columns key (filter q rows), multiplicity-is columns key rows, length-filter_filter (λ r. same_key key (pick columns r)) q rows)

-- through an operator that hands out rows of its child
multiplicity_kept : (columns : List ℕ) (key : Row) (op : Unary) (rows : List Row) → keeps_columns op ≡ true → multiplicity columns key (rows_over op rows) ≤ multiplicity columns key rows
multiplicity_kept columns key (Filter c) rows k = multiplicity_filter columns key (keeps c) rows
multiplicity_kept columns key (Project chosen) rows k = absurd cc
multiplicity_kept columns key (Sort keys) rows k =
    omega (arith, multiplicity-is columns key (rows_over (Sort keys) rows), multiplicity-is columns key rows, length-filter_sorted (λ r. same_key key (pick columns r)) keys rows)
multiplicity_kept columns key (Group keys items) rows k = absurd cc

-- through a join: the part of the key that stands in the left side's columns
abbrev part_of_key : ℕ → List ℕ → Row → Row
part_of_key wide [] key = []
part_of_key wide (c ∷ columns) [] = []
part_of_key wide (c ∷ columns) (v ∷ key) = cond (nat_lt c wide) (v ∷ part_of_key wide columns key) (part_of_key wide columns key)

pub cell_left : (l r : Row) (c wide : ℕ) → length l ≡ wide → nat_lt c wide ≡ true → cell (l ++ r) c ≡ cell l c
cell_left l r c wide e h = get_or_append_left l r value.Null c (omega (arith, ltb-true c wide h, e))

part_same : (wide : ℕ) (columns : List ℕ) (key l r : Row) → length l ≡ wide
    → same_key key (pick columns (l ++ r)) ≡ true → same_key (part_of_key wide columns key) (pick (left_part wide columns) l) ≡ true
part_same wide [] key l r e m = refl
part_same wide (c ∷ columns) [] l r e m = absurd cc
part_same wide (c ∷ columns) (v ∷ key) l r e m =
    let p : (same_key_value v (cell (l ++ r) c) ≡ true) × (same_key key (pick columns (l ++ r)) ≡ true) = both_true (same_key_value v (cell (l ++ r) c)) (same_key key (pick columns (l ++ r))) m in
    let deep : same_key (part_of_key wide columns key) (pick (left_part wide columns) l) ≡ true = part_same wide columns key l r e p.1 in
    elim (cases_Bool (nat_lt c wide)) [
      | inl h ↦ rw h (and_from (same_key_value v (cell l c)) (same_key (part_of_key wide columns key) (pick (left_part wide columns) l)) (ap (same_key_value v) (sym (cell_left l r c wide e h)) ∙ p.0) deep)
      | inr h ↦ rw h deep
    ]

module _ (wide : ℕ) (columns : List ℕ) (key : Row) where
  none_begin : (l : Row) (rows : List Row) → length l ≡ wide → All (BeginsWith l) rows → same_key (part_of_key wide columns key) (pick (left_part wide columns) l) ≡ false
      → multiplicity columns key rows ≡ 0
  none_begin l [] e begin m = refl
  none_begin l (row ∷ rows) e begin m =
      let first : BeginsWith l row = All-head (BeginsWith l) row rows begin in
      elim (cases_Bool (same_key key (pick columns row))) [
        | inl h ↦ absurd (both_ways (same_key (part_of_key wide columns key) (pick (left_part wide columns) l)) m
            (part_same wide columns key l first.0 e (ap (λ x. same_key key (pick columns x)) (sym first.1) ∙ h)))
        | inr h ↦ rw h (none_begin l rows e (All-tail (BeginsWith l) row rows begin) m)
      ]

  -- each left row that has its part of the key adds at most one row that has the key
  multiplicity_joined : (method : Method) (pairs : List Pair) (w : ℕ) (rs ls : List Row) → All (λ l. length l ≡ wide) ls → AtMostOne (right_columns pairs) rs
      → multiplicity columns key (joined_by method pairs w ls rs) ≤ multiplicity (left_part wide columns) (part_of_key wide columns key) ls
  multiplicity_joined method pairs w rs [] hw one = omega arith
  multiplicity_joined method pairs w rs (l ∷ ls) hw one =
      let own : List Row = rows_for method pairs w rs l in
      let rest : List Row = joined_by method pairs w ls rs in
      let deep : multiplicity columns key rest ≤ multiplicity (left_part wide columns) (part_of_key wide columns key) ls =
      multiplicity_joined method pairs w rs ls (All-tail (λ l. length l ≡ wide) l ls hw) one in
      let split : multiplicity columns key (own ++ rest) ≡ multiplicity columns key own + multiplicity columns key rest =
      ap (λ keys. length (filter (same_key key) keys)) (map-append (pick columns) own rest) ∙ multiplicity-append key (keys_of columns own) (keys_of columns rest) in
      elim (cases_Bool (same_key (part_of_key wide columns key) (pick (left_part wide columns) l))) [
        | inl h ↦ rw h (omega (arith, split, deep, multiplicity-is columns key own, few own, rows_for_one method pairs w rs l one))
        | inr h ↦ rw h (omega (arith, split, deep, none_begin l own (All-head (λ l. length l ≡ wide) l ls hw) (rows_for_begin method pairs w rs l) h))
      ]
    where
      few : (rows : List Row) → multiplicity columns key rows ≤ length rows
      few rows = omega (arith, multiplicity_le_length key (keys_of columns rows), length-map rows (pick columns))

AtMostOne_joined : (method : Method) (pairs : List Pair) (w wide : ℕ) (columns : List ℕ) (ls rs : List Row) → All (λ l. length l ≡ wide) ls
    → AtMostOne (right_columns pairs) rs → AtMostOne (left_part wide columns) ls → AtMostOne columns (joined_by method pairs w ls rs)
AtMostOne_joined method pairs w wide columns ls rs hw one_right one_left key =
    omega (arith, multiplicity_joined wide columns key method pairs w rs ls hw one_right, one_left (part_of_key wide columns key))

module _ (db : Db) (sound : All IsRelation db) where
  pub at_most_one : (t : Tree) (columns : List ℕ) → unique_on (decls_of db) t columns ≡ true → AtMostOne columns (output db t)
  at_most_one (Scan table label) columns u = table_unique db sound table columns u
  at_most_one (Over op child) columns u =
      let p : (keeps_columns op ≡ true) × (unique_on (decls_of db) child columns ≡ true) = both_true _ _ u in
      λ key. omega (arith, multiplicity_kept columns key op (output db child) p.0, at_most_one child columns p.1 key)
  at_most_one (Join method on left right) columns u =
      let wide : ℕ = width (decls_of db) left in
      let p : (unique_on (decls_of db) right (right_columns on.pairs) ≡ true) × (unique_on (decls_of db) left (left_part wide columns) ≡ true) = both_true _ _ u in
      AtMostOne_joined method on.pairs (width (decls_of db) right) wide columns (output db left) (output db right) (wide_output db sound left)
      (at_most_one right (right_columns on.pairs) p.0) (at_most_one left (left_part wide columns) p.1)
  at_most_one (Index left seek c) columns u =
      let wide : ℕ = width (decls_of db) left in
      let rows : List Row = table_rows db seek.table in
      let w : ℕ = table_width (decls_of db) seek.table in
      let p : (unique_table (decls_of db) seek.table (right_columns seek.on.pairs) ≡ true) × (unique_on (decls_of db) left (left_part wide columns) ≡ true) = both_true _ _ u in
      let all : AtMostOne columns (joined_by Merge seek.on.pairs w (output db left) rows) =
      AtMostOne_joined Merge seek.on.pairs w wide columns (output db left) rows (wide_output db sound left)
      (table_unique db sound seek.table (right_columns seek.on.pairs) p.0) (at_most_one left (left_part wide columns) p.1) in
      λ key. omega (arith, multiplicity_filter columns key (keeps_if c) (joined_by Merge seek.on.pairs w (output db left) rows), all key)

-- the same said of two rows, from the counts
counted : (columns : List ℕ) (key : Row) (rows : List Row) (j : ℕ) → j < length rows → same_key key (key_at columns rows j) ≡ true → 0 < multiplicity columns key rows
counted columns key [] j p e = absurd (omega (arith, p))
counted columns key (row ∷ rows) zero p e = rw e (omega arith)
counted columns key (row ∷ rows) (suc j) p e =
    let deep : 0 < multiplicity columns key rows = counted columns key rows j (omega (arith, p)) e in
    elim (same_key key (pick columns row)) as (λ t. 0 < length (cond t (pick columns row ∷ filter (same_key key) (keys_of columns rows)) (filter (same_key key) (keys_of columns rows))))
    [ true ↦ omega arith | false ↦ deep ]

one_fewer : (columns : List ℕ) (row : Row) (rows : List Row) → AtMostOne columns (row ∷ rows) → AtMostOne columns rows
one_fewer columns row rows one key = fewer (same_key key (pick columns row)) (one key)
  where
    fewer : (t : Bool) → length (cond t (pick columns row ∷ filter (same_key key) (keys_of columns rows)) (filter (same_key key) (keys_of columns rows))) ≤ 1 → multiplicity columns key rows ≤ 1
    fewer true h = omega (arith, h)
    fewer false h = h

pub keys_differ : (columns : List ℕ) (rows : List Row) → AtMostOne columns rows → KeysDiffer columns rows
keys_differ columns [] one i j p q = absurd (omega (arith, p, q))
keys_differ columns (row ∷ rows) one zero zero p q = absurd (omega (arith, p))
keys_differ columns (row ∷ rows) one zero (suc j) p q =
    elim (cases_Bool (same_key (pick columns row) (key_at columns rows j))) [
      | inl e ↦
          let itself : same_key (pick columns row) (pick columns row) ≡ true = same_key_of_itself (pick columns row) (key_at columns rows j) e in
          absurd (omega (arith, counted columns (pick columns row) rows j (omega (arith, q)) e, (rw itself at (one (pick columns row)))))
      | inr e ↦ e
    ]
keys_differ columns (row ∷ rows) one (suc i) zero p q = absurd (omega (arith, p))
keys_differ columns (row ∷ rows) one (suc i) (suc j) p q = keys_differ columns rows (one_fewer columns row rows one) i j (omega (arith, p)) (omega (arith, q))
