-- in a tree that keeps the rules each flag that is set is so of the rows, and the keys of each merge join's sides ascend
use Rattle.std.proofs.Common.{◌≡◌, ℕ, ◌<◌, ◌≤◌, ◌^◌, cond, List, [], ◌∷◌, length, take, sym, ap, subst, ◌∙◌, inl, inr, arith}
use Rattle.std.specs.Prelude.{All, Contains, true, false, Option, None}
use Rattle.std.proofs.lemmas.Bool.{cases_Bool}
use Rattle.std.proofs.lemmas.List.Elements.{All-contains, Contains-append_left, Contains-append_right}
use Rattle.pm_values.specs.declared.condition.Cond.{Cond}
use Rattle.pm_values.specs.Row.{Row}
use Rattle.pm_values.specs.Order.{Ascends}
use Rattle.pm_values.specs.Table.{IsRelation}
use Rattle.pm_plan.specs.declared.plan.Pair.{Pair}
use Rattle.pm_plan.specs.Rows.{Db, table_rows, decls_of}
use Rattle.pm_plan.specs.Joins.{left_columns, right_columns, joined_by}
use Rattle.pm_plan.specs.Kinds.{width}
use Rattle.pm_plan.specs.Flags.{refers_if, scanned_table}
use Rattle.pm_plan.specs.Valid.{IsValidRoot, IsValidJoin, IsValidSeek, IsValidTree, tables_of, is_joinable, leftmost_order}
use Rattle.pm_plan.specs.Tree.{Method, Hash, Merge, On, Seek, Tree, Scan, Over, Join, Index, pads}
use Rattle.pm_plan.specs.Outputs.{output, sought}
use Rattle.pm_plan.proofs.Walks.{Each-map}
use Rattle.pm_work.specs.Facts.{AllMatched, FlagsHold, AllFlagsHold, method_ascends, merge_ascends, MergesAscend}
use Rattle.pm_work.specs.Fits.{ReferencesBetween, IsSound}
use Rattle.pm_work.proofs.Joins.{joined_ge, padded_each, join_ge, length-sought}
use Rattle.pm_work.proofs.Tables.{table_unique}
use Rattle.pm_work.proofs.Uniqueness.{at_most_one}
use Rattle.pm_work.proofs.References.{NamedIn, one_named, AllReferencesHold, refers_matched}
use Rattle.pm_work.proofs.LeftOrder.{ascends_first, ascends_left, source_joinable}

module _ (db : Db) (sound : All IsRelation db) where
  -- a reference to the whole of a right side
  right_matched : (tables : List ℕ) (left right : Tree) (pairs : List Pair) → AllReferencesHold db sound tables → NamedIn db sound tables left → NamedIn db sound tables right
      → refers_if (decls_of db) left pairs (scanned_table right) ≡ true → AllMatched pairs (output db left) (output db right)
  right_matched tables left (Scan table label) pairs hold l r e = refers_matched db sound tables left table pairs hold l (r table (one_named db sound tables table)) e
  right_matched tables left (Over op child) pairs hold l r e = absurd cc
  right_matched tables left (Join method on a b) pairs hold l r e = absurd cc
  right_matched tables left (Index a seek c) pairs hold l r e = absurd cc

  join_flags_hold : (tables : List ℕ) (method : Method) (on : On) (left right : Tree) → AllReferencesHold db sound tables → NamedIn db sound tables left → NamedIn db sound tables right
      → IsValidJoin (decls_of db) method on left right → FlagsHold on (output db left) (output db right)
  join_flags_hold tables method on left right hold l r valid = record {
    left = λ e. at_most_one db sound left (left_columns on.pairs) (sym (ap (λ u. u.left) valid.flags) ∙ e);
    right = λ e. at_most_one db sound right (right_columns on.pairs) (sym (ap (λ u. u.right) valid.flags) ∙ e);
    total = λ e. by_method (sym (ap (λ u. u.total) valid.flags) ∙ e);
  }
    where
      by_method : refers_if (decls_of db) left on.pairs (cond (pads method) None (scanned_table right)) ≡ true → AllMatched on.pairs (output db left) (output db right)
      by_method e =
          elim (cases_Bool (pads method)) [
            | inl p ↦ absurd (let f : refers_if (decls_of db) left on.pairs None ≡ true = rw p at e in cc)
            | inr p ↦ right_matched tables left right on.pairs hold l r (rw p at e)
          ]

  seek_flags_hold : (tables : List ℕ) (left : Tree) (seek : Seek) → AllReferencesHold db sound tables → NamedIn db sound tables left → Contains tables seek.table
      → IsValidSeek (decls_of db) left seek → FlagsHold seek.on (output db left) (table_rows db seek.table)
  seek_flags_hold tables left seek hold l named valid = record {
    left = λ e. at_most_one db sound left (left_columns seek.on.pairs) (sym (ap (λ u. u.left) valid.flags) ∙ e);
    right = λ e. table_unique db sound seek.table (right_columns seek.on.pairs) (sym (ap (λ u. u.right) valid.flags) ∙ e);
    total = λ e. refers_matched db sound tables left seek.table seek.on.pairs hold l named (sym (ap (λ u. u.total) valid.flags) ∙ e);
  }

  all_flags_hold : (tables : List ℕ) → AllReferencesHold db sound tables → (t : Tree) → NamedIn db sound tables t → IsValidTree (decls_of db) t → AllFlagsHold db t
  all_flags_hold tables hold (Scan table label) named v = tt
  all_flags_hold tables hold (Over op child) named v = (tt, all_flags_hold tables hold child named v.1)
  all_flags_hold tables hold (Join method on left right) named v =
      let l : NamedIn db sound tables left = λ k c. named k (Contains-append_left (tables_of left) (tables_of right) k c) in
      let r : NamedIn db sound tables right = λ k c. named k (Contains-append_right (tables_of left) (tables_of right) k c) in
      (join_flags_hold tables method on left right hold l r v.0.0, all_flags_hold tables hold left l v.1, all_flags_hold tables hold right r v.2)
  all_flags_hold tables hold (Index left seek c) named v =
      let l : NamedIn db sound tables left = λ k c. named k (Contains-append_left (tables_of left) (seek.table ∷ []) k c) in
      let own : Contains tables seek.table = named seek.table (Contains-append_right (tables_of left) (seek.table ∷ []) seek.table (one_named db sound tables seek.table)) in
      (tt, seek_flags_hold tables left seek hold l own v.1, all_flags_hold tables hold left l v.2)

  -- columns that are the first ones of a side's order
  side_ascends : (t : Tree) (columns : List ℕ) (k : ℕ) → is_joinable t ≡ true → columns ≡ take k (leftmost_order (decls_of db) t) → Ascends columns (output db t)
  side_ascends t columns k b e =
      subst (λ c. Ascends c (output db t)) (sym e) (ascends_first k (leftmost_order (decls_of db) t) (output db t) (ascends_left db sound t b))

  method_sides : (method : Method) (on : On) (left right : Tree) → IsValidJoin (decls_of db) method on left right → method_ascends method on.pairs (output db left) (output db right)
  method_sides (Hash pad) on left right valid = tt
  method_sides Merge on left right valid = record {
    left = side_ascends left (left_columns on.pairs) (length on.pairs) valid.joinable valid.ordered.lefts;
    right = side_ascends right (right_columns on.pairs) (length on.pairs) (source_joinable right valid.source) valid.ordered.rights;
  }

  node_ascends : (t : Tree) → IsValidRoot (decls_of db) t × (width (decls_of db) t < 2 ^ 32) → merge_ascends db t
  node_ascends (Scan table label) v = tt
  node_ascends (Over op child) v = tt
  node_ascends (Join method on left right) v = method_sides method on left right v.0
  node_ascends (Index left seek c) v = tt

  pub merges_ascend : (t : Tree) → IsValidTree (decls_of db) t → MergesAscend db t
  merges_ascend t v =
      Each-map (λ t. IsValidRoot (decls_of db) t × (width (decls_of db) t < 2 ^ 32)) (merge_ascends db) (λ left seek. IsValidSeek (decls_of db) left seek) (λ left seek. Unit {0})
      node_ascends (λ left seek s. tt) t v

pub flags : (db : Db) (t : Tree) → IsSound db t → AllFlagsHold db t
flags db t sound =
    all_flags_hold db sound.tables (tables_of t)
    (λ child parent c p. All-contains (ReferencesBetween db child) (tables_of t) parent (All-contains (λ k. All (ReferencesBetween db k) (tables_of t)) (tables_of t) child sound.references c) p)
    t (λ k c. c) sound.operators

-- ---- total joins

joined_total : (method : Method) (pairs : List Pair) (w : ℕ) (ls rs : List Row) → AllMatched pairs ls rs → length ls ≤ length (joined_by method pairs w ls rs)
joined_total (Hash true) pairs w ls rs matched = joined_ge (Hash true) pairs w rs ls (padded_each pairs w rs ls)
joined_total (Hash false) pairs w ls rs matched = join_ge pairs ls rs matched
joined_total Merge pairs w ls rs matched = join_ge pairs ls rs matched

pub total_join : (db : Db) (method : Method) (on : On) (left right : Tree) → IsSound db (Join method on left right) → on.unique.total ≡ true
    → length (output db left) ≤ length (output db (Join method on left right))
total_join db method on left right sound total =
    joined_total method on.pairs (width (decls_of db) right) (output db left) (output db right) ((flags db (Join method on left right) sound).0.total total)

pub total_seek : (db : Db) (left : Tree) (seek : Seek) (c : Option Cond) → IsSound db (Index left seek c) → seek.on.unique.total ≡ true
    → length (output db left) ≤ length (sought db seek (output db left))
total_seek db left seek c sound total =
    omega (
      arith,
      join_ge seek.on.pairs (output db left) (table_rows db seek.table) ((flags db (Index left seek c) sound).1.total total),
      length-sought seek.on.pairs (table_rows db seek.table) (output db left),
    )
