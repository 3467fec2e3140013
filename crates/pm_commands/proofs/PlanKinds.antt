-- the kinds of a built plan's columns are the same for all choices of joins
use Rattle.std.proofs.Common.{◌≡◌, ◌∙◌, ℕ, ◌+◌, true, false, List, [], ◌∷◌, ◌++◌, Option, Some, None, refl, sym, ap}
use Rattle.std.specs.Prelude.{not, filter, map, slice_get, if◌then◌else◌}
use Rattle.pm_values.specs.declared.condition.Cond.{Cond}
use Rattle.pm_values.specs.Table.{Declaration}
use Rattle.pm_plan.specs.declared.plan.Pair.{Pair}
use Rattle.pm_plan.specs.declared.plan.SortKey.{SortKey}
use Rattle.pm_plan.specs.Tree.{Project, Group, Tree, Over}
use Rattle.pm_plan.specs.Kinds.{kinds_of, kinds_over, table_kinds, table_width}
use Rattle.pm_plan.specs.Valid.{order_of}
use Rattle.pm_work.specs.First.{Sizes}
use Rattle.pm_query.specs.declared.query.QuerySource.{QuerySource}
use Rattle.pm_query.specs.declared.query.Conjunct.{Conjunct}
use Rattle.pm_query.specs.declared.query.Query.{Query}
use Rattle.pm_query.specs.declared.query.Choice.{Choice}
use Rattle.pm_query.specs.Answer.{selected_orders}
use Rattle.pm_query.specs.Columns.{shift_columns, conjunction}
use Rattle.pm_query.specs.Pairs.{takes, own_conditions, pairs_of}
use Rattle.pm_query.specs.Build.{decls_in, scan_of, filtered, Way, ByHash, ByMerge, ByIndex, way_of, joined, is_small, joins, join_tree, sort_if, group_if, numbers_from, tree_for}

module _ (decls : List Declaration) where
  filtered_kinds : (cond : Option Cond) (tree : Tree) → kinds_of decls (filtered cond tree) ≡ kinds_of decls tree
  filtered_kinds None tree = refl
  filtered_kinds (Some cond) tree = refl

  joined_kinds : (way : Way) (left : Tree) (source : QuerySource) (from : ℕ) (own : List Cond) (pairs : List Pair)
      → kinds_of decls (joined way decls left source from own pairs) ≡ kinds_of decls left ++ table_kinds decls source.table
  joined_kinds (ByHash pad) left source from own pairs =
      ap (λ ks. kinds_of decls left ++ ks) (filtered_kinds (conjunction (map (shift_columns from) own)) (scan_of decls source))
  joined_kinds (ByMerge ordered) left source from own pairs =
      ap (λ ks. kinds_of decls left ++ ks) (filtered_kinds (conjunction (map (shift_columns from) own)) (scan_of decls source))
  joined_kinds ByIndex left source from own pairs = refl

  joins_kinds : (a b : Choice) (sizes : Sizes) (first : List ℕ) (l m : Tree) (position from : ℕ) (conjuncts : List Conjunct) (sources : List QuerySource)
      → kinds_of decls l ≡ kinds_of decls m
      → kinds_of decls (joins a decls sizes first l position from conjuncts sources) ≡ kinds_of decls (joins b decls sizes first m position from conjuncts sources)
  joins_kinds a b sizes first l m position from conjuncts [] same =
      let left = conjunction (map (λ (conjunct : Conjunct). conjunct.cond) conjuncts) in
      filtered_kinds left l ∙ same ∙ sym (filtered_kinds left m)
  joins_kinds a b sizes first l m position from conjuncts (source ∷ sources) same =
      let to = from + table_width decls source.table in
      let pairs = pairs_of source.left position from to conjuncts in
      let own = own_conditions source.left position from to conjuncts in
      let one = way_of a source.left first (slice_get decls source.table) pairs (is_small sizes l source) in
      let other = way_of b source.left first (slice_get decls source.table) pairs (is_small sizes m source) in
      joins_kinds a b sizes first (joined one decls l source from own pairs) (joined other decls m source from own pairs) (position + 1) to
      (filter (λ conjunct. not (takes source.left position from to conjunct)) conjuncts) sources
      (joined_kinds one l source from own pairs
      ∙ ap (λ ks. ks ++ table_kinds decls source.table) same
      ∙ sym (joined_kinds other m source from own pairs))

  join_tree_kinds : (a b : Choice) (sizes : Sizes) (conjuncts : List Conjunct) (sources : List QuerySource)
      → kinds_of decls (join_tree a decls sizes conjuncts sources) ≡ kinds_of decls (join_tree b decls sizes conjuncts sources)
  join_tree_kinds a b sizes conjuncts [] = refl
  join_tree_kinds a b sizes conjuncts (source ∷ sources) =
      let to = table_width decls source.table in
      let start = filtered (conjunction (own_conditions source.left 0 0 to conjuncts)) (scan_of decls source) in
      joins_kinds a b sizes (order_of (slice_get decls source.table)) start start 1 to
      (filter (λ conjunct. not (takes source.left 0 0 to conjunct)) conjuncts) sources refl

  sorted_kinds : (keys : List SortKey) (tree : Tree) → kinds_of decls (sort_if keys tree) ≡ kinds_of decls tree
  sorted_kinds [] tree = refl
  sorted_kinds (key ∷ keys) tree = refl

  grouped_kinds : (query : Query) (l m : Tree) → kinds_of decls l ≡ kinds_of decls m → kinds_of decls (group_if query l) ≡ kinds_of decls (group_if query m)
  grouped_kinds query l m same =
      let group : Tree → Tree = λ tree. Over (Group query.keys query.aggregates) tree in
      elim query.grouped as (λ t. kinds_of decls (if t then filtered query.having (group l) else l) ≡ kinds_of decls (if t then filtered query.having (group m) else m)) [
        | true ↦ filtered_kinds query.having (group l) ∙ ap (kinds_over (Group query.keys query.aggregates)) same ∙ sym (filtered_kinds query.having (group m))
        | false ↦ same
      ]

pub plan_kinds : (query : Query) (sizes : Sizes) (a b : Choice) → kinds_of (decls_in query) (tree_for query sizes a) ≡ kinds_of (decls_in query) (tree_for query sizes b)
plan_kinds query sizes a b =
    let decls = decls_in query in
    let rows : Choice → Tree = λ choice. group_if query (join_tree choice decls sizes query.conjuncts query.sources) in
    let same : kinds_of decls (rows a) ≡ kinds_of decls (rows b) =
    grouped_kinds decls query (join_tree a decls sizes query.conjuncts query.sources) (join_tree b decls sizes query.conjuncts query.sources)
    (join_tree_kinds decls a b sizes query.conjuncts query.sources) in
    let different : Tree → Tree = λ tree. Over (Group (numbers_from 0 query.outputs) []) (Over (Project query.outputs) tree) in
    let above : Tree → Tree = λ tree. sort_if (selected_orders query) (different tree) in
    let below : Tree → Tree = λ tree. Over (Project query.outputs) (sort_if query.orders tree) in
    elim query.distinct as (λ t. kinds_of decls (if t then above (rows a) else below (rows a)) ≡ kinds_of decls (if t then above (rows b) else below (rows b))) [
      | true ↦ sorted_kinds decls (selected_orders query) (different (rows a))
          ∙ ap (λ ks. kinds_over (Group (numbers_from 0 query.outputs) []) (kinds_over (Project query.outputs) ks)) same
          ∙ sym (sorted_kinds decls (selected_orders query) (different (rows b)))
      | false ↦ ap (kinds_over (Project query.outputs))
          (sorted_kinds decls query.orders (rows a) ∙ same ∙ sym (sorted_kinds decls query.orders (rows b)))
    ]
