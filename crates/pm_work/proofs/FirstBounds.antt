-- no operator hands out more rows than its first bound
use Rattle.std.proofs.Common.{◌≡◌, ℕ, zero, suc, ◌+◌, ◌-◌, ◌*◌, ◌≤◌, Bool, true, false, List, [], ◌∷◌, length, max, refl, sym, ap, arith}
use Rattle.std.proofs.lemmas.List.{length-map}
use Rattle.std.proofs.Math.Nat.{mul-le-mul, le_trans}
use Rattle.pm_values.specs.Row.{Row, pick}
use Rattle.pm_values.specs.Keys.{different_keys}
use Rattle.pm_values.specs.Equality.{same_values}
use Rattle.pm_values.specs.Condition.{keeps}
use Rattle.pm_values.proofs.KeyCounts.{length-once_le}
use Rattle.pm_plan.specs.Rows.{Db, table_rows, decls_of}
use Rattle.pm_plan.specs.Joins.{right_columns, keys_of, join, joined_by, worst}
use Rattle.pm_plan.specs.Kinds.{width}
use Rattle.pm_plan.specs.Grouping.{group_row}
use Rattle.pm_plan.specs.Tree.{Unary, Filter, Project, Sort, Group, Method, Hash, Merge, On, Tree, Scan, Over, Join, Index, Seek, Each, pads}
use Rattle.pm_plan.specs.Outputs.{output, rows_over, sought, keeps_if}
use Rattle.pm_work.specs.Formulas.{exact, capped_if, hi_over, most_matches, pairs_hi, hi_joined}
use Rattle.pm_work.specs.Facts.{AtMostOne, FlagsHold, AllFlagsHold}
use Rattle.pm_work.specs.First.{size_in, unstarted, uncounted, first_worst, first_seek, first_hi}
use Rattle.pm_work.specs.Fits.{sizes_of}
use Rattle.pm_work.proofs.Joins.{length-filter_le, at_least_one_if, joined_le_worst, joined_le_left, join_le_product, join_le_right, padded_le, length-sought, worst_one, worst_few}
use Rattle.pm_work.proofs.Sorts.{length-sorted}

-- a number under a cap that holds where its flag is set
pub capped_above : (flag : Bool) (x cap y : ℕ) → (flag ≡ true → x ≤ cap) → x ≤ y → x ≤ capped_if flag cap y
capped_above true x cap y low h = omega (arith, low refl, h)
capped_above false x cap y low h = h

over_le : (op : Unary) (rows : List Row) (top : ℕ) → length rows ≤ top → length (rows_over op rows) ≤ hi_over exact op unstarted (uncounted top)
over_le (Filter c) rows top h = omega (arith, h, length-filter_le (keeps c) rows)
over_le (Project columns) rows top h = omega (arith, h, length-map rows (pick columns))
over_le (Sort keys) rows top h = omega (arith, h, length-sorted keys rows)
over_le (Group [] items) rows top h = omega arith
over_le (Group (k ∷ keys) items) rows top h =
    omega (
      arith,
      h,
      length-map (different_keys (keys_of (k ∷ keys) rows)) (group_row (k ∷ keys) items rows),
      length-once_le same_values (keys_of (k ∷ keys) rows),
      length-map rows (pick (k ∷ keys)),
    )

-- two sides of at most so many rows
module _ (on : On) (ls rs : List Row) (left right : ℕ) (holds : FlagsHold on ls rs) (a : length ls ≤ left) (b : length rs ≤ right) where
  none : (k : ℕ) → k - 0 ≡ k
  none k = omega arith

  pairs_le : length (join on.pairs ls rs) ≤ pairs_hi exact on.unique unstarted (uncounted left) (uncounted right)
  pairs_le =
      capped_above on.unique.right (length (join on.pairs ls rs)) left _ (λ e. omega (arith, joined_le_left Merge on.pairs 0 ls rs (holds.right e), a))
      (capped_above on.unique.left (length (join on.pairs ls rs)) right _ (λ e. omega (arith, join_le_right on.pairs ls rs (holds.left e), b))
      (omega (arith, join_le_product on.pairs ls rs, le_product, ap (λ x. x * right) (none left))))
    where
      le_product : length ls * length rs ≤ left * right
      le_product = mul-le-mul a b

  most_le : worst (right_columns on.pairs) rs ≤ most_matches exact on.unique unstarted (uncounted right)
  most_le =
      capped_above on.unique.right (worst (right_columns on.pairs) rs) 1 (0 + (right - 0)) (λ e. worst_one (right_columns on.pairs) rs (holds.right e))
      (omega (arith, worst_few (right_columns on.pairs) rs, b))

  -- no more than each left row's for the most frequent key
  method_le : (method : Method) (w most : ℕ) → at_least_one_if (pads method) (worst (right_columns on.pairs) rs) ≤ most → length (joined_by method on.pairs w ls rs) ≤ (left - 0) * most
  method_le method w most h =
      omega (arith, le_trans (joined_le_worst method on.pairs w ls rs) (mul-le-mul a h), ap (λ x. x * most) (none left))

  joined_le_first : (method : Method) (w : ℕ) → length (joined_by method on.pairs w ls rs) ≤ hi_joined exact method on.unique unstarted (uncounted left) (uncounted right)
  joined_le_first (Hash false) w = omega (arith, pairs_le, method_le (Hash false) w (most_matches exact on.unique unstarted (uncounted right)) most_le)
  joined_le_first (Hash true) w =
      let most : ℕ = max 1 (most_matches exact on.unique unstarted (uncounted right)) in
      capped_above on.unique.left (length (joined_by (Hash true) on.pairs w ls rs)) (left + right) _
      (λ e. omega (arith, padded_le on.pairs w rs ls, join_le_right on.pairs ls rs (holds.left e), a, b))
      (omega (arith, method_le (Hash true) w most (omega (arith, most_le))))
  joined_le_first Merge w = pairs_le

worst_first : (flag : Bool) (columns : List ℕ) (rows : List Row) (n : ℕ) → (flag ≡ true → AtMostOne columns rows) → n ≡ length rows → worst columns rows ≤ first_worst flag n
worst_first true columns rows n one e = worst_one columns rows (one refl)
worst_first false columns rows n one e = omega (arith, worst_few columns rows, e)

sizes_are : (db : Db) (table : ℕ) → size_in (sizes_of db) table ≡ length (table_rows db table)
sizes_are [] table = refl
sizes_are (t ∷ db) zero = refl
sizes_are (t ∷ db) (suc table) = sizes_are db table

module _ (db : Db) where
  sought_le : (left : Tree) (seek : Seek) (top : ℕ) → FlagsHold seek.on (output db left) (table_rows db seek.table) → length (output db left) ≤ top
      → length (sought db seek (output db left)) ≤ first_seek exact (sizes_of db) seek top
  sought_le left seek top holds a =
      let ls : List Row = output db left in
      let rs : List Row = table_rows db seek.table in
      let n : ℕ = size_in (sizes_of db) seek.table in
      let same : length (sought db seek ls) ≡ length (join seek.on.pairs ls rs) = sym (length-sought seek.on.pairs rs ls) in
      let most : worst (right_columns seek.on.pairs) rs ≤ first_worst seek.on.unique.right n = worst_first seek.on.unique.right (right_columns seek.on.pairs) rs n holds.right (sizes_are db seek.table) in
      capped_above seek.on.unique.left (length (sought db seek ls)) n _ (λ e. omega (arith, same, join_le_right seek.on.pairs ls rs (holds.left e), sizes_are db seek.table))
      (omega (arith, same, method_le seek.on ls rs top (length rs) holds a (omega arith) Merge 0 (first_worst seek.on.unique.right n) most))

  pub rows_le : (t : Tree) → AllFlagsHold db t → length (output db t) ≤ first_hi exact (sizes_of db) t
  rows_le (Scan table label) f = omega (arith, sizes_are db table)
  rows_le (Over op child) f = over_le op (output db child) (first_hi exact (sizes_of db) child) (rows_le child f.1)
  rows_le (Join method on left right) f =
      joined_le_first on (output db left) (output db right) (first_hi exact (sizes_of db) left) (first_hi exact (sizes_of db) right) f.0 (rows_le left f.1) (rows_le right f.2) method (width (decls_of db) right)
  rows_le (Index left seek c) f =
      omega (
        arith,
        length-filter_le (keeps_if c) (join seek.on.pairs (output db left) (table_rows db seek.table)),
        length-sought seek.on.pairs (table_rows db seek.table) (output db left),
        sought_le left seek (first_hi exact (sizes_of db) left) f.1 (rows_le left f.2),
      )

  abbrev pub AllWithinFirst : Tree → Type 0
  AllWithinFirst t =
      Each (λ u. length (output db u) ≤ first_hi exact (sizes_of db) u)
      (λ left seek. length (sought db seek (output db left)) ≤ first_seek exact (sizes_of db) seek (first_hi exact (sizes_of db) left)) t

  pub all_within_first : (t : Tree) → AllFlagsHold db t → AllWithinFirst t
  all_within_first (Scan table label) f = rows_le (Scan table label) f
  all_within_first (Over op child) f = (rows_le (Over op child) f, all_within_first child f.1)
  all_within_first (Join method on left right) f = (rows_le (Join method on left right) f, all_within_first left f.1, all_within_first right f.2)
  all_within_first (Index left seek c) f = (
    rows_le (Index left seek c) f,
    sought_le left seek (first_hi exact (sizes_of db) left) f.1 (rows_le left f.2),
    all_within_first left f.2,
  )
