-- the rows of one more joined source
use Rattle.std.proofs.Common.{◌≡◌, ℕ, Bool, true, false, ◌&&◌, List, [], ◌∷◌, ◌++◌, length, map, refl, sym, ap, ◌∙◌, Option, None, Some}
use Rattle.std.specs.List.{filter, flat_map, list_all, filter_map, cons_option, All}
use Rattle.std.proofs.lemmas.Bool.{true≢false}
use Rattle.std.proofs.lemmas.List.{length-map}
use Rattle.std.proofs.lemmas.List.Elements.{filter_agree}
use Rattle.pm_values.specs.declared.condition.Cond.{Cond}
use Rattle.pm_values.specs.Row.{Row, pick}
use Rattle.pm_values.specs.Table.{Declaration}
use Rattle.pm_values.specs.Equality.{same_key}
use Rattle.pm_values.specs.Keys.{once}
use Rattle.pm_plan.specs.declared.plan.Pair.{Pair}
use Rattle.pm_plan.specs.Rows.{Db, table_rows, decls_of}
use Rattle.pm_plan.specs.Joins.{left_columns, right_columns, joined_rows, or_padded, join}
use Rattle.pm_plan.specs.Kinds.{columns_of, table_width, width}
use Rattle.pm_plan.specs.References.{same_pair}
use Rattle.pm_plan.specs.Tree.{Tree}
use Rattle.pm_plan.specs.Outputs.{output, keeps_if}
use Rattle.pm_query.specs.declared.query.QuerySource.{QuerySource}
use Rattle.pm_query.specs.declared.query.Conjunct.{Conjunct}
use Rattle.pm_query.specs.Answer.{meets}
use Rattle.pm_query.specs.Columns.{shift_columns, conjunction}
use Rattle.pm_query.specs.Pairs.{is_own, pair_of, may_take, pairs_of}
use Rattle.pm_query.specs.Build.{Way, ByHash, ByMerge, ByIndex, scan_of, filtered, joined}
use Rattle.pm_answers.proofs.Lists.{and-comm, filter-all, filter-filter, filter-map, filter-flat_map, filter-passing, flat_map-same, list_all-once}
use Rattle.pm_answers.proofs.Conditions.{keeps-conjunction}
use Rattle.pm_answers.proofs.Taken.{meets_pair, same_key-pairs, is_taken, meets-taken, meets-shifted}
use Rattle.pm_answers.proofs.Members.{pair-same}
use Rattle.pm_answers.proofs.Merges.{SamePairs, WayFits}

abbrev pub HasLength : ℕ → Row → Type 0
HasLength n row = length row ≡ n

-- ---- filters in a tree

pub output-filtered : (db : Db) (o : Option Cond) (tree : Tree) → output db (filtered o tree) ≡ filter (keeps_if o) (output db tree)
output-filtered db None tree = sym (filter-all (output db tree))
output-filtered db (Some c) tree = refl

pub output-conjunction : (db : Db) (conds : List Cond) (tree : Tree) → output db (filtered (conjunction conds) tree) ≡ filter (meets conds) (output db tree)
output-conjunction db conds tree =
    output-filtered db (conjunction conds) tree ∙ filter_agree (keeps_if (conjunction conds)) (meets conds) (keeps-conjunction conds) (output db tree)

width-filtered : (decls named : List Declaration) (o : Option Cond) (source : QuerySource) → width decls (filtered o (scan_of named source)) ≡ table_width decls source.table
width-filtered decls named None source = length-map (columns_of decls source.table) (λ column. column.kind)
width-filtered decls named (Some c) source = length-map (columns_of decls source.table) (λ column. column.kind)

-- ---- the pairs of a list of conditions

abbrev pub pairs_in : ℕ → ℕ → List Cond → List Pair
pairs_in from to conds = once same_pair (filter_map (pair_of from to) conds)

abbrev pub conds_of : List Conjunct → List Cond
conds_of conjuncts = map (λ conjunct. conjunct.cond) conjuncts

filter_map-map : (h : Cond → Option Pair) (conjuncts : List Conjunct) → filter_map (λ conjunct. h conjunct.cond) conjuncts ≡ filter_map h (conds_of conjuncts)
filter_map-map h [] = refl
filter_map-map h (c ∷ conjuncts) = ap (cons_option (h c.cond)) (filter_map-map h conjuncts)

pub pairs_of-conds : (left : Bool) (position from to : ℕ) (conjuncts : List Conjunct)
    → pairs_of left position from to conjuncts ≡ pairs_in from to (conds_of (filter (may_take left position) conjuncts))
pairs_of-conds left position from to conjuncts = ap (once same_pair) (filter_map-map (pair_of from to) (filter (may_take left position) conjuncts))

alike : (l r : Row) (p q : Pair) → same_pair p q ≡ true → meets_pair l r p ≡ meets_pair l r q
alike l r p q h = ap (meets_pair l r) (pair-same p q h)

-- ---- the rows

module _ (db : Db) where
  -- a row so far, followed by each row of a table
  abbrev pub followed : ℕ → Row → List Row
  followed table l = map (λ r. l ++ r) (table_rows db table)

  module _ (from to : ℕ) (conds : List Cond) where
    abbrev owns : List Cond
    owns = filter (is_own from to) conds

    abbrev taken : Row → Bool
    taken = meets (filter (is_taken from to) conds)

    -- the test of a join says what the conditions that are pairs say
    pairs-meet : (pairs : List Pair) (l r : Row) → SamePairs pairs (pairs_in from to conds)
        → same_key (pick (left_columns pairs) l) (pick (right_columns pairs) r) ≡ list_all (meets_pair l r) (filter_map (pair_of from to) conds)
    pairs-meet pairs l r same =
        same_key-pairs l r pairs ∙ same l r ∙ list_all-once same_pair (meets_pair l r) (alike l r) (filter_map (pair_of from to) conds)

    -- own conditions stand below the right side
    entry-rows : (table : ℕ) (pairs : List Pair) → SamePairs pairs (pairs_in from to conds) → (l : Row) → HasLength from l
        → joined_rows pairs (filter (meets (map (shift_columns from) owns)) (table_rows db table)) l ≡ filter taken (followed table l)
    entry-rows table pairs same l long =
        let rows : List Row = table_rows db table in
        let own : Row → Bool = meets (map (shift_columns from) owns) in
        let key : Row → Bool = λ r. same_key (pick (left_columns pairs) l) (pick (right_columns pairs) r) in
        ap (map (λ r. l ++ r)) (filter-filter key own rows
        ∙ filter_agree (λ r. own r && key r) (λ r. taken (l ++ r))
        (λ r. ap (λ t. t && key r) (meets-shifted from to l r long conds)
        ∙ ap (λ t. meets owns (l ++ r) && t) (pairs-meet pairs l r same)
        ∙ sym (meets-taken from to l r long conds))
        rows)
        ∙ sym (filter-map taken (λ r. l ++ r) rows)

    join-rows : (table : ℕ) (pairs : List Pair) (lefts : List Row) → SamePairs pairs (pairs_in from to conds) → All (HasLength from) lefts
        → join pairs lefts (filter (meets (map (shift_columns from) owns)) (table_rows db table)) ≡ filter taken (flat_map (followed table) lefts)
    join-rows table pairs lefts same long =
        flat_map-same (HasLength from) (joined_rows pairs (filter (meets (map (shift_columns from) owns)) (table_rows db table))) (λ l. filter taken (followed table l))
        (entry-rows table pairs same) lefts long
        ∙ sym (filter-flat_map taken (followed table) lefts)

    -- in an index join they read the pair
    sought-rows : (table : ℕ) (pairs : List Pair) → SamePairs pairs (pairs_in from to conds) → (l : Row) → HasLength from l
        → filter (meets owns) (joined_rows pairs (table_rows db table) l) ≡ filter taken (followed table l)
    sought-rows table pairs same l long =
        let rows : List Row = table_rows db table in
        let key : Row → Bool = λ r. same_key (pick (left_columns pairs) l) (pick (right_columns pairs) r) in
        filter-map (meets owns) (λ r. l ++ r) (filter key rows)
        ∙ ap (map (λ r. l ++ r)) (filter-filter (λ r. meets owns (l ++ r)) key rows
        ∙ filter_agree (λ r. key r && meets owns (l ++ r)) (λ r. taken (l ++ r))
        (λ r. and-comm (key r) (meets owns (l ++ r))
        ∙ ap (λ t. meets owns (l ++ r) && t) (pairs-meet pairs l r same)
        ∙ sym (meets-taken from to l r long conds))
        rows)
        ∙ sym (filter-map taken (λ r. l ++ r) rows)

    index-rows : (table : ℕ) (pairs : List Pair) (lefts : List Row) → SamePairs pairs (pairs_in from to conds) → All (HasLength from) lefts
        → filter (meets owns) (join pairs lefts (table_rows db table)) ≡ filter taken (flat_map (followed table) lefts)
    index-rows table pairs lefts same long =
        filter-flat_map (meets owns) (joined_rows pairs (table_rows db table)) lefts
        ∙ flat_map-same (HasLength from) (λ l. filter (meets owns) (joined_rows pairs (table_rows db table) l)) (λ l. filter taken (followed table l))
        (sought-rows table pairs same) lefts long
        ∙ sym (filter-flat_map taken (followed table) lefts)

    module _ (decls : List Declaration) (left : Tree) (source : QuerySource) (long : All (HasLength from) (output db left)) where
      abbrev side : Tree
      side = filtered (conjunction (map (shift_columns from) owns)) (scan_of decls source)

      side-rows : output db side ≡ filter (meets (map (shift_columns from) owns)) (table_rows db source.table)
      side-rows = output-conjunction db (map (shift_columns from) owns) (scan_of decls source)

      -- each way of joining hands out the combinations that meet what the source takes
      pub joined-rows : (way : Way) → WayFits way (pairs_in from to conds)
          → output db (joined way decls left source from owns (pairs_in from to conds)) ≡ filter taken (flat_map (followed source.table) (output db left))
      joined-rows (ByHash true) fits = absurd (true≢false fits)
      joined-rows (ByHash false) fits =
          ap (join (pairs_in from to conds) (output db left)) side-rows ∙ join-rows source.table (pairs_in from to conds) (output db left) (λ l r. refl) long
      joined-rows (ByMerge ordered) fits =
          ap (join ordered (output db left)) side-rows ∙ join-rows source.table ordered (output db left) fits long
      joined-rows ByIndex fits =
          filter_agree (keeps_if (conjunction owns)) (meets owns) (keeps-conjunction owns) (join (pairs_in from to conds) (output db left) (table_rows db source.table))
          ∙ index-rows source.table (pairs_in from to conds) (output db left) (λ l r. refl) long

      -- a source after LEFT JOIN whose conditions are all its own or its pairs
      pub padded-rows : list_all (is_taken from to) conds ≡ true
          → output db (joined (ByHash true) decls left source from owns (pairs_in from to conds))
          ≡ flat_map (λ l. or_padded (table_width (decls_of db) source.table) l (filter (meets conds) (followed source.table l))) (output db left)
      padded-rows all =
          flat_map-same (HasLength from) (λ l. or_padded (width (decls_of db) side) l (joined_rows (pairs_in from to conds) (output db side) l))
          (λ l. or_padded (table_width (decls_of db) source.table) l (filter (meets conds) (followed source.table l)))
          (λ l h.
          ap (λ w. or_padded w l (joined_rows (pairs_in from to conds) (output db side) l)) (width-filtered (decls_of db) decls (conjunction (map (shift_columns from) owns)) source)
          ∙ ap (or_padded (table_width (decls_of db) source.table) l)
          (ap (λ rows. joined_rows (pairs_in from to conds) rows l) side-rows
          ∙ entry-rows source.table (pairs_in from to conds) (λ x y. refl) l h
          ∙ ap (λ cs. filter (meets cs) (followed source.table l)) (filter-passing (is_taken from to) conds all)))
          (output db left) long
