-- the rows of a tree that may stand below a join ascend by the ORDER of its leftmost table
use Rattle.std.proofs.Common.{◌≡◌, ℕ, zero, suc, ◌+◌, Bool, true, false, cond, List, [], ◌∷◌, ◌++◌, length, take, refl, sym, ap, subst, ◌∙◌, arith, length-append}
use Rattle.std.specs.Prelude.{nat_lt, get_or, All}
use Rattle.std.specs.List.{filter, list_any}
use Rattle.std.specs.Ordering.{ordering_then}
use Rattle.std.specs.declared.cmp.Ordering.{Ordering}
use Rattle.std.specs.declared.cmp.Ordering.TheVariants as ordering
use Rattle.std.proofs.lemmas.Bool.{and_from, lt-ltb, ltb-true}
use Rattle.std.proofs.lemmas.List.{length-map}
use Rattle.std.proofs.lemmas.List.Elements.{All-head, All-tail}
use Rattle.std.proofs.lemmas.List.Folds.{list_any-append}
use Rattle.pm_values.specs.Row.{Row, cell, pick}
use Rattle.pm_values.specs.Order.{value_cmp, values_cmp, is_less, Ascends}
use Rattle.pm_values.specs.Condition.{keeps}
use Rattle.pm_values.specs.Table.{Declaration, IsRelation}
use Rattle.pm_values.proofs.Keys.{both_true}
use Rattle.pm_plan.specs.declared.plan.Pair.{Pair}
use Rattle.pm_plan.specs.Rows.{Db, table_rows, decls_of}
use Rattle.pm_plan.specs.Joins.{rows_for, joined_by}
use Rattle.pm_plan.specs.Kinds.{columns_of, kinds_over, kinds_of, table_kinds, width, table_width}
use Rattle.pm_plan.specs.Valid.{are_below, is_filter, is_joinable, is_source, leftmost_order}
use Rattle.pm_plan.specs.Tree.{Unary, Filter, Project, Sort, Group, Method, Merge, Tree, Scan, Over, Join, Index}
use Rattle.pm_plan.specs.Outputs.{output, rows_over, keeps_if}
use Rattle.pm_work.proofs.Ascending.{NoPair, falls, or_false, or_intro, not_less, not_greater_itself, none_falls, ascends_of}
use Rattle.pm_work.proofs.RowLists.{BeginsWith, rows_for_begin}
use Rattle.pm_work.proofs.RowKinds.{wide_output}
use Rattle.pm_work.proofs.Tables.{table_ascends, order_below}
use Rattle.pm_work.proofs.Uniqueness.{cell_left}

-- the first of some columns
then_greater : (o x y : Ordering) → (x ≡ ordering.Greater → y ≡ ordering.Greater) → ordering_then o x ≡ ordering.Greater → ordering_then o y ≡ ordering.Greater
then_greater ordering.Less x y h e = absurd cc
then_greater ordering.Equal x y h e = h e
then_greater ordering.Greater x y h e = refl

first_greater : (k : ℕ) (columns : List ℕ) (a b : Row) → values_cmp (pick (take k columns) a) (pick (take k columns) b) ≡ ordering.Greater
    → values_cmp (pick columns a) (pick columns b) ≡ ordering.Greater
first_greater zero columns a b e = absurd cc
first_greater (suc k) [] a b e = absurd cc
first_greater (suc k) (c ∷ columns) a b e =
    then_greater (value_cmp (cell a c) (cell b c)) (values_cmp (pick (take k columns) a) (pick (take k columns) b)) (values_cmp (pick columns a) (pick columns b))
    (first_greater k columns a b) e

pub ascends_first : (k : ℕ) (columns : List ℕ) (rows : List Row) → Ascends columns rows → Ascends (take k columns) rows
ascends_first k columns rows up i p = λ greater. up i p (first_greater k columns (get_or rows i []) (get_or rows (suc i) []) greater)

-- through a filter
none_filter : (p q : Row → Bool) (xs : List Row) → list_any p xs ≡ false → list_any p (filter q xs) ≡ false
none_filter p q [] e = refl
none_filter p q (x ∷ xs) e =
    let d : (p x ≡ false) × (list_any p xs ≡ false) = or_false (p x) (list_any p xs) e in
    elim (q x) as (λ t. list_any p (cond t (x ∷ filter q xs) (filter q xs)) ≡ false)
    [ true ↦ or_intro (p x) (list_any p (filter q xs)) d.0 (none_filter p q xs d.1) | false ↦ none_filter p q xs d.1 ]

NoPair_filter : (related : Row → Row → Bool) (q : Row → Bool) (xs : List Row) → NoPair related xs → NoPair related (filter q xs)
NoPair_filter related q [] n = tt
NoPair_filter related q (x ∷ xs) n =
    elim (q x) as (λ t. NoPair related (cond t (x ∷ filter q xs) (filter q xs)))
    [ true ↦ (none_filter (related x) q xs n.0, NoPair_filter related q xs n.1) | false ↦ NoPair_filter related q xs n.1 ]

NoPair_over : (related : Row → Row → Bool) (op : Unary) (xs : List Row) → is_filter op ≡ true → NoPair related xs → NoPair related (rows_over op xs)
NoPair_over related (Filter c) xs f n = NoPair_filter related (keeps c) xs n
NoPair_over related (Project columns) xs f n = absurd cc
NoPair_over related (Sort keys) xs f n = absurd cc
NoPair_over related (Group keys items) xs f n = absurd cc

-- through a join: rows that begin with one left row have its key
pick_left : (wide : ℕ) (columns : List ℕ) (l r : Row) → length l ≡ wide → are_below wide columns ≡ true → pick columns (l ++ r) ≡ pick columns l
pick_left wide [] l r e i = refl
pick_left wide (c ∷ columns) l r e i =
    let p : (nat_lt c wide ≡ true) × (are_below wide columns ≡ true) = both_true (nat_lt c wide) (are_below wide columns) i in
    ap (λ v. v ∷ pick columns (l ++ r)) (cell_left l r c wide e p.0) ∙ ap (λ row. cell l c ∷ row) (pick_left wide columns l r e p.1)

module _ (wide : ℕ) (columns : List ℕ) (inside : are_below wide columns ≡ true) where
  abbrev less : Row → Row → Bool
  less key b = is_less (values_cmp (pick columns b) key)

  pick_begin : (l row : Row) → length l ≡ wide → BeginsWith l row → pick columns row ≡ pick columns l
  pick_begin l row e b = ap (pick columns) b.1 ∙ pick_left wide columns l b.0 e inside

  one_key : (key l : Row) (rows : List Row) → length l ≡ wide → All (BeginsWith l) rows → is_less (values_cmp (pick columns l) key) ≡ false → list_any (less key) rows ≡ false
  one_key key l [] e b h = refl
  one_key key l (row ∷ rows) e b h =
      or_intro (less key row) (list_any (less key) rows)
      (ap (λ x. is_less (values_cmp x key)) (pick_begin l row e (All-head (BeginsWith l) row rows b)) ∙ h) (one_key key l rows e (All-tail (BeginsWith l) row rows b) h)

  own_rows : (l : Row) (rows rest : List Row) → length l ≡ wide → All (BeginsWith l) rows → list_any (falls columns l) rest ≡ false
      → NoPair (falls columns) rest → NoPair (falls columns) (rows ++ rest)
  own_rows l [] rest e b h n = n
  own_rows l (row ∷ rows) rest e b h n = (
    subst (λ key. list_any (less key) (rows ++ rest) ≡ false) (sym (pick_begin l row e (All-head (BeginsWith l) row rows b)))
        (list_any-append (falls columns l) rows rest
        ∙ or_intro (list_any (falls columns l) rows) (list_any (falls columns l) rest)
        (one_key (pick columns l) l rows e (All-tail (BeginsWith l) row rows b) (not_less (pick columns l) (pick columns l) (not_greater_itself (pick columns l)))) h),
    own_rows l rows rest e (All-tail (BeginsWith l) row rows b) h n,
  )

  module _ (method : Method) (pairs : List Pair) (w : ℕ) (rs : List Row) where
    later_keys : (key : Row) (ls : List Row) → All (λ l. length l ≡ wide) ls → list_any (less key) ls ≡ false → list_any (less key) (joined_by method pairs w ls rs) ≡ false
    later_keys key [] hw h = refl
    later_keys key (l ∷ ls) hw h =
        let p : (less key l ≡ false) × (list_any (less key) ls ≡ false) = or_false (less key l) (list_any (less key) ls) h in
        list_any-append (less key) (rows_for method pairs w rs l) (joined_by method pairs w ls rs)
        ∙ or_intro (list_any (less key) (rows_for method pairs w rs l)) (list_any (less key) (joined_by method pairs w ls rs))
        (one_key key l (rows_for method pairs w rs l) (All-head (λ l. length l ≡ wide) l ls hw) (rows_for_begin method pairs w rs l) p.0)
        (later_keys key ls (All-tail (λ l. length l ≡ wide) l ls hw) p.1)

    falls_joined : (ls : List Row) → All (λ l. length l ≡ wide) ls → NoPair (falls columns) ls → NoPair (falls columns) (joined_by method pairs w ls rs)
    falls_joined [] hw a = tt
    falls_joined (l ∷ ls) hw a =
        own_rows l (rows_for method pairs w rs l) (joined_by method pairs w ls rs) (All-head (λ l. length l ≡ wide) l ls hw) (rows_for_begin method pairs w rs l)
        (later_keys (pick columns l) ls (All-tail (λ l. length l ≡ wide) l ls hw) a.0) (falls_joined ls (All-tail (λ l. length l ≡ wide) l ls hw) a.1)

-- the columns are those of the left side
more_columns : (v w : ℕ) (columns : List ℕ) → are_below v columns ≡ true → are_below (v + w) columns ≡ true
more_columns v w [] i = refl
more_columns v w (c ∷ columns) i =
    let p : (nat_lt c v ≡ true) × (are_below v columns ≡ true) = both_true (nat_lt c v) (are_below v columns) i in
    and_from (nat_lt c (v + w)) (are_below (v + w) columns) (lt-ltb c (v + w) (omega (arith, ltb-true c v p.0))) (more_columns v w columns p.1)

pub width-scan : (decls : List Declaration) (table : ℕ) → length (table_kinds decls table) ≡ table_width decls table
width-scan decls table = length-map (columns_of decls table) (λ column. column.kind)

kinds_kept : (op : Unary) (kinds : _) → is_filter op ≡ true → kinds_over op kinds ≡ kinds
kinds_kept (Filter c) kinds f = refl
kinds_kept (Project columns) kinds f = absurd cc
kinds_kept (Sort keys) kinds f = absurd cc
kinds_kept (Group keys items) kinds f = absurd cc

module _ (db : Db) (sound : All IsRelation db) where
  abbrev order_at : Tree → List ℕ
  order_at t = leftmost_order (decls_of db) t

  over_both : (left : Tree) (more wide : ℕ) → wide ≡ width (decls_of db) left + more → are_below (width (decls_of db) left) (order_at left) ≡ true → are_below wide (order_at left) ≡ true
  over_both left more wide e i = ap (λ w. are_below w (order_at left)) e ∙ more_columns (width (decls_of db) left) more (order_at left) i

  order_inside : (t : Tree) → is_joinable t ≡ true → are_below (width (decls_of db) t) (order_at t) ≡ true
  order_inside (Scan table label) b = ap (λ w. are_below w (order_at (Scan table label))) (width-scan (decls_of db) table) ∙ order_below db sound table
  order_inside (Over op child) b =
      let p : (is_filter op ≡ true) × (is_joinable child ≡ true) = both_true (is_filter op) (is_joinable child) b in
      ap (λ kinds. are_below (length kinds) (order_at child)) (kinds_kept op (kinds_of (decls_of db) child) p.0) ∙ order_inside child p.1
  order_inside (Join method on left right) b =
      over_both left (width (decls_of db) right) _ (length-append (kinds_of (decls_of db) left) (kinds_of (decls_of db) right)) (order_inside left (both_true (is_joinable left) (is_joinable right) b).0)
  order_inside (Index left seek c) b =
      over_both left (length (table_kinds (decls_of db) seek.table)) _ (length-append (kinds_of (decls_of db) left) (table_kinds (decls_of db) seek.table)) (order_inside left b)

  over_join : (left : Tree) (method : Method) (pairs : List Pair) (w : ℕ) (rights : List Row) → is_joinable left ≡ true → NoPair (falls (order_at left)) (output db left)
      → NoPair (falls (order_at left)) (joined_by method pairs w (output db left) rights)
  over_join left method pairs w rights b up =
      falls_joined (width (decls_of db) left) (order_at left) (order_inside left b) method pairs w rights (output db left) (wide_output db sound left) up

  falls_none : (t : Tree) → is_joinable t ≡ true → NoPair (falls (order_at t)) (output db t)
  falls_none (Scan table label) b = none_falls (order_at (Scan table label)) (table_rows db table) (table_ascends db sound table)
  falls_none (Over op child) b =
      let p : (is_filter op ≡ true) × (is_joinable child ≡ true) = both_true (is_filter op) (is_joinable child) b in
      NoPair_over (falls (order_at child)) op (output db child) p.0 (falls_none child p.1)
  falls_none (Join method on left right) b =
      let p : is_joinable left ≡ true = (both_true (is_joinable left) (is_joinable right) b).0 in
      over_join left method on.pairs (width (decls_of db) right) (output db right) p (falls_none left p)
  falls_none (Index left seek c) b =
      let w : ℕ = table_width (decls_of db) seek.table in
      NoPair_filter (falls (order_at left)) (keeps_if c) (joined_by Merge seek.on.pairs w (output db left) (table_rows db seek.table)) (over_join left Merge seek.on.pairs w (table_rows db seek.table) b (falls_none left b))

  pub ascends_left : (t : Tree) → is_joinable t ≡ true → Ascends (leftmost_order (decls_of db) t) (output db t)
  ascends_left t b = ascends_of (order_at t) (output db t) (falls_none t b)

-- a source may stand below a join
pub source_joinable : (t : Tree) → is_source t ≡ true → is_joinable t ≡ true
source_joinable (Scan table label) s = refl
source_joinable (Over (Filter c) (Scan table label)) s = refl
source_joinable (Over (Filter c) (Over op child)) s = absurd cc
source_joinable (Over (Filter c) (Join method on left right)) s = absurd cc
source_joinable (Over (Filter c) (Index left seek d)) s = absurd cc
source_joinable (Over (Project columns) child) s = absurd cc
source_joinable (Over (Sort keys) child) s = absurd cc
source_joinable (Over (Group keys items) child) s = absurd cc
source_joinable (Join method on left right) s = absurd cc
source_joinable (Index left seek c) s = absurd cc
