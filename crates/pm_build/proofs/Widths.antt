-- how many columns the joins have, and how many nodes the tree of a query
use Rattle.std.proofs.Common.{◌≡◌, ◌≤◌, ◌+◌, ◌*◌, ℕ, Bool, true, false, not, List, [], ◌∷◌, ◌++◌, length, map, filter, Option, None, Some, slice_get, refl, ap, ◌∙◌, arith, length-append}
use Rattle.std.specs.Prelude.{if◌then◌else◌}
use Rattle.std.proofs.lemmas.List.{length-map}
use Rattle.pm_values.specs.declared.condition.Cond.{Cond}
use Rattle.pm_values.specs.Table.{Declaration}
use Rattle.pm_plan.specs.declared.plan.Pair.{Pair}
use Rattle.pm_plan.specs.declared.plan.SortKey.{SortKey}
use Rattle.pm_plan.specs.Tree.{Filter, Project, Sort, Group, Tree, Scan, Over, Join, Index, size}
use Rattle.pm_plan.specs.Kinds.{kinds_of, table_kinds, columns_of, table_width, width}
use Rattle.pm_plan.specs.Valid.{order_of}
use Rattle.pm_work.specs.First.{Sizes}
use Rattle.pm_query.specs.declared.query.QuerySource.{QuerySource}
use Rattle.pm_query.specs.declared.query.Conjunct.{Conjunct}
use Rattle.pm_query.specs.declared.query.Choice.{Choice}
use Rattle.pm_query.specs.declared.query.Query.{Query}
use Rattle.pm_query.specs.Answer.{selected_orders}
use Rattle.pm_query.specs.Columns.{shift_columns, conjunction}
use Rattle.pm_query.specs.Pairs.{own_conditions, pairs_of, takes}
use Rattle.pm_query.specs.Build.{Way, ByHash, ByMerge, ByIndex, decls_in, scan_of, filtered, way_of, is_small, joined, joins, join_tree, sort_if, group_if, numbers_from, tree_for}
use Rattle.pm_build.specs.Joins.{further}

-- ---- columns

filtered_kinds : (decls : List Declaration) (cond : Option Cond) (tree : Tree) → kinds_of decls (filtered cond tree) ≡ kinds_of decls tree
filtered_kinds decls None tree = refl
filtered_kinds decls (Some cond) tree = refl

pub filtered_width : (decls : List Declaration) (cond : Option Cond) (tree : Tree) → width decls (filtered cond tree) ≡ width decls tree
filtered_width decls cond tree = ap length (filtered_kinds decls cond tree)

table_wide : (decls : List Declaration) (table : ℕ) → length (table_kinds decls table) ≡ table_width decls table
table_wide decls table = length-map (columns_of decls table) (λ column. column.kind)

pub side_width : (decls : List Declaration) (cond : Option Cond) (source : QuerySource) → width decls (filtered cond (scan_of decls source)) ≡ table_width decls source.table
side_width decls cond source = filtered_width decls cond (scan_of decls source) ∙ table_wide decls source.table

pub joined_width : (way : Way) (decls : List Declaration) (left : Tree) (source : QuerySource) (from : ℕ) (own : List Cond) (pairs : List Pair)
    → width decls (joined way decls left source from own pairs) ≡ width decls left + table_width decls source.table
joined_width (ByHash pad) decls left source from own pairs =
    length-append (kinds_of decls left) (kinds_of decls (filtered (conjunction (map (shift_columns from) own)) (scan_of decls source)))
    ∙ ap (λ w. width decls left + w) (side_width decls (conjunction (map (shift_columns from) own)) source)
joined_width (ByMerge ordered) decls left source from own pairs =
    length-append (kinds_of decls left) (kinds_of decls (filtered (conjunction (map (shift_columns from) own)) (scan_of decls source)))
    ∙ ap (λ w. width decls left + w) (side_width decls (conjunction (map (shift_columns from) own)) source)
joined_width ByIndex decls left source from own pairs =
    length-append (kinds_of decls left) (table_kinds decls source.table) ∙ ap (λ w. width decls left + w) (table_wide decls source.table)

pub further_width : (choice : Choice) (decls : List Declaration) (sizes : Sizes) (first : List ℕ) (left : Tree) (position from to : ℕ) (conjuncts : List Conjunct) (source : QuerySource)
    → width decls (further choice decls sizes first left position from to conjuncts source) ≡ width decls left + table_width decls source.table
further_width choice decls sizes first left position from to conjuncts source =
    let pairs = pairs_of source.left position from to conjuncts in
    let way = way_of choice source.left first (slice_get decls source.table) pairs (is_small sizes left source) in
    joined_width way decls left source from (own_conditions source.left position from to conjuncts) pairs

-- ---- nodes

filtered_size : (cond : Option Cond) (tree : Tree) → size (filtered cond tree) ≤ 1 + size tree
filtered_size None tree = omega arith
filtered_size (Some cond) tree = omega arith

joined_size : (way : Way) (decls : List Declaration) (left : Tree) (source : QuerySource) (from : ℕ) (own : List Cond) (pairs : List Pair)
    → size (joined way decls left source from own pairs) ≤ 3 + size left
joined_size (ByHash pad) decls left source from own pairs = let h = filtered_size (conjunction (map (shift_columns from) own)) (scan_of decls source) in omega (arith, h)
joined_size (ByMerge ordered) decls left source from own pairs = let h = filtered_size (conjunction (map (shift_columns from) own)) (scan_of decls source) in omega (arith, h)
joined_size ByIndex decls left source from own pairs = omega arith

joins_size : (choice : Choice) (decls : List Declaration) (sizes : Sizes) (first : List ℕ) (left : Tree) (position from : ℕ) (conjuncts : List Conjunct) (sources : List QuerySource)
    → size (joins choice decls sizes first left position from conjuncts sources) ≤ 1 + size left + 3 * length sources
joins_size choice decls sizes first left position from conjuncts [] = let h = filtered_size (conjunction (map (λ conjunct. conjunct.cond) conjuncts)) left in omega (arith, h)
joins_size choice decls sizes first left position from conjuncts (source ∷ sources) =
    let to = from + table_width decls source.table in
    let pairs = pairs_of source.left position from to conjuncts in
    let way = way_of choice source.left first (slice_get decls source.table) pairs (is_small sizes left source) in
    let own = own_conditions source.left position from to conjuncts in
    let rest = filter (λ conjunct. not (takes source.left position from to conjunct)) conjuncts in
    let h = joined_size way decls left source from own pairs in
    let k = joins_size choice decls sizes first (joined way decls left source from own pairs) (position + 1) to rest sources in
    omega (arith, h, k)

join_tree_size : (choice : Choice) (decls : List Declaration) (sizes : Sizes) (conjuncts : List Conjunct) (sources : List QuerySource)
    → size (join_tree choice decls sizes conjuncts sources) ≤ 3 + 3 * length sources
join_tree_size choice decls sizes conjuncts [] = omega arith
join_tree_size choice decls sizes conjuncts (source ∷ sources) =
    let to = table_width decls source.table in
    let own = own_conditions source.left 0 0 to conjuncts in
    let rest = filter (λ conjunct. not (takes source.left 0 0 to conjunct)) conjuncts in
    let h = filtered_size (conjunction own) (scan_of decls source) in
    let k = joins_size choice decls sizes (order_of (slice_get decls source.table)) (filtered (conjunction own) (scan_of decls source)) 1 to rest sources in
    omega (arith, h, k)

sort_size : (keys : List SortKey) (tree : Tree) → size (sort_if keys tree) ≤ 1 + size tree
sort_size [] tree = omega arith
sort_size (key ∷ keys) tree = omega arith

group_size : (query : Query) (tree : Tree) → size (group_if query tree) ≤ 2 + size tree
group_size query tree = of query.grouped
  where
    of : (b : Bool) → size (if b then filtered query.having (Over (Group query.keys query.aggregates) tree) else tree) ≤ 2 + size tree
    of true = let h = filtered_size query.having (Over (Group query.keys query.aggregates) tree) in omega (arith, h)
    of false = omega arith

pub tree_size : (query : Query) (sizes : Sizes) (choice : Choice) → size (tree_for query sizes choice) ≤ 8 + 3 * length query.sources
tree_size query sizes choice = of query.distinct
  where
    joins_of : Tree
    joins_of = join_tree choice (decls_in query) sizes query.conjuncts query.sources

    rows : Tree
    rows = group_if query joins_of

    few : size rows ≤ 5 + 3 * length query.sources
    few = let h = group_size query joins_of in let k = join_tree_size choice (decls_in query) sizes query.conjuncts query.sources in omega (arith, h, k)

    of : (b : Bool)
        → size (if b then sort_if (selected_orders query) (Over (Group (numbers_from 0 query.outputs) []) (Over (Project query.outputs) rows)) else Over (Project query.outputs) (sort_if query.orders rows))
        ≤ 8 + 3 * length query.sources
    of true = let h = sort_size (selected_orders query) (Over (Group (numbers_from 0 query.outputs) []) (Over (Project query.outputs) rows)) in omega (arith, h, few)
    of false = let h = sort_size query.orders rows in omega (arith, h, few)
