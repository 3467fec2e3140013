-- the plan that is built for a query
use Rattle.std.specs.Prelude.{ℕ, ◌+◌, ◌*◌, Bool, true, false, not, ◌&&◌, nat_le, nat_eq, if◌then◌else◌, List, [], ◌∷◌, length, map, filter, take, Option, None, Some, slice_get}
use Rattle.pm_values.specs.declared.condition.Cond.{Cond}
use Rattle.pm_values.specs.Table.{Declaration}
use Rattle.pm_plan.specs.declared.plan.Label.{Label}
use Rattle.pm_plan.specs.declared.plan.Pair.{Pair}
use Rattle.pm_plan.specs.declared.plan.Plan.{Plan}
use Rattle.pm_plan.specs.declared.plan.SortKey.{SortKey}
use Rattle.pm_plan.specs.Joins.{right_columns}
use Rattle.pm_plan.specs.Tree.{Filter, Project, Sort, Group, Method, Hash, Merge, Tree, Scan, Over, Join, Index, Seek}
use Rattle.pm_plan.specs.Preorder.{nodes_of}
use Rattle.pm_plan.specs.Kinds.{kinds_of, table_width}
use Rattle.pm_plan.specs.Unique.{key_of, key_within}
use Rattle.pm_plan.specs.References.{paired, pairs_within}
use Rattle.pm_plan.specs.Flags.{join_flags, seek_flags}
use Rattle.pm_plan.specs.Valid.{order_of}
use Rattle.pm_work.specs.Formulas.{exact}
use Rattle.pm_work.specs.First.{Sizes, size_in, first_hi}
use Rattle.pm_query.specs.declared.query.QuerySource.{QuerySource}
use Rattle.pm_query.specs.declared.query.Conjunct.{Conjunct}
use Rattle.pm_query.specs.declared.query.Query.{Query}
use Rattle.pm_query.specs.declared.query.Choice.{Choice}
use Rattle.pm_query.specs.declared.query.Choice.TheVariants as choice
use Rattle.pm_query.specs.Answer.{selected_orders}
use Rattle.pm_query.specs.Columns.{shift_columns, conjunction}
use Rattle.pm_query.specs.Pairs.{takes, own_conditions, pairs_of}

abbrev pub decls_in : Query → List Declaration
decls_in query = map (λ table. table.decl) query.tables

abbrev pub name_of : Option Declaration → List ℕ
name_of None = []
name_of (Some decl) = decl.name

abbrev pub label_of : List Declaration → QuerySource → Label
label_of decls source = record { table = name_of (slice_get decls source.table); alias = source.alias }

abbrev pub scan_of : List Declaration → QuerySource → Tree
scan_of decls source = Scan source.table (label_of decls source)

-- under a filter, where there is a condition
abbrev pub filtered : Option Cond → Tree → Tree
filtered None tree = tree
filtered (Some cond) tree = Over (Filter cond) tree

-- how a source is joined to the tree of those before it
pub data Way : Type 0 where
  ByHash : (pad : Bool) → Way
  ByMerge : (pairs : List Pair) → Way
  ByIndex : Way

-- the i-th columns of two ORDERs, paired: as many as there are join pairs, where each of them is a join pair
abbrev pub merge_pairs : List ℕ → List ℕ → List Pair → Option (List Pair)
merge_pairs lefts rights pairs =
    let ordered = take (length pairs) (paired lefts rights) in
    if nat_eq (length ordered) (length pairs) && pairs_within ordered pairs then Some ordered else None

abbrev pub by_merge_or : Option (List Pair) → Way → Way
by_merge_or None way = way
by_merge_or (Some pairs) way = ByMerge pairs

abbrev pub by_index_if : Bool → Way
by_index_if true = ByIndex
by_index_if false = ByHash false

-- from the ORDER of the first source's table, the source's declaration and pairs, and whether the left side is small beside its table
abbrev pub chosen_way : Choice → List ℕ → Option Declaration → List Pair → Bool → Way
chosen_way choice.Auto first decl pairs is_small =
    by_merge_or (merge_pairs first (order_of decl) pairs) (by_index_if (key_within (right_columns pairs) (key_of decl) && is_small))
chosen_way choice.Hash first decl pairs is_small = ByHash false
chosen_way choice.Merge first decl pairs is_small = by_merge_or (merge_pairs first (order_of decl) pairs) (ByHash false)
chosen_way choice.Index first decl pairs is_small = ByIndex

-- a source after LEFT JOIN is joined by a hash join that pads, whatever the choice
abbrev pub way_of : Choice → Bool → List ℕ → Option Declaration → List Pair → Bool → Way
way_of choice true first decl pairs is_small = ByHash true
way_of choice false first decl pairs is_small = chosen_way choice first decl pairs is_small

-- a join of two trees with its flags
abbrev pub join_of : List Declaration → Method → Tree → Tree → List Pair → Tree
join_of decls method left right pairs = Join method (record { pairs = pairs; unique = join_flags decls method left right pairs }) left right

abbrev pub seek_of : List Declaration → Tree → QuerySource → List Pair → Seek
seek_of decls left source pairs =
    record {
      table = source.table;
      label = label_of decls source;
      on = record { pairs = pairs; unique = seek_flags decls left source.table pairs };
    }

-- the left side joined with one more source, whose columns begin at `from`
abbrev pub joined : Way → List Declaration → Tree → QuerySource → ℕ → List Cond → List Pair → Tree
joined (ByHash pad) decls left source from own pairs =
    join_of decls (Hash pad) left (filtered (conjunction (map (shift_columns from) own)) (scan_of decls source)) pairs
joined (ByMerge ordered) decls left source from own pairs =
    join_of decls Merge left (filtered (conjunction (map (shift_columns from) own)) (scan_of decls source)) ordered
joined ByIndex decls left source from own pairs = Index left (seek_of decls left source pairs) (conjunction own)

abbrev pub is_small : Sizes → Tree → QuerySource → Bool
is_small sizes left source = nat_le (8 * first_hi exact sizes left) (size_in sizes source.table)

-- a tree whose columns end before `from`, joined with the sources one by one, the first of which has this position: each takes its own
-- conditions and its pairs, and what nobody takes stands on top
abbrev pub joins : Choice → List Declaration → Sizes → List ℕ → Tree → ℕ → ℕ → List Conjunct → List QuerySource → Tree
joins choice decls sizes first left position from conjuncts [] = filtered (conjunction (map (λ conjunct. conjunct.cond) conjuncts)) left
joins choice decls sizes first left position from conjuncts (source ∷ sources) =
    let to = from + table_width decls source.table in
    let pairs = pairs_of source.left position from to conjuncts in
    let way = way_of choice source.left first (slice_get decls source.table) pairs (is_small sizes left source) in
    joins choice decls sizes first
    (joined way decls left source from (own_conditions source.left position from to conjuncts) pairs)
    (position + 1) to (filter (λ conjunct. not (takes source.left position from to conjunct)) conjuncts) sources

-- of all sources; a query has at least one
abbrev pub join_tree : Choice → List Declaration → Sizes → List Conjunct → List QuerySource → Tree
join_tree choice decls sizes conjuncts [] = Scan 0 (record { table = []; alias = [] })
join_tree choice decls sizes conjuncts (source ∷ sources) =
    let to = table_width decls source.table in
    joins choice decls sizes (order_of (slice_get decls source.table))
    (filtered (conjunction (own_conditions source.left 0 0 to conjuncts)) (scan_of decls source))
    1 to (filter (λ conjunct. not (takes source.left 0 0 to conjunct)) conjuncts) sources

abbrev pub sort_if : List SortKey → Tree → Tree
sort_if [] tree = tree
sort_if (key ∷ keys) tree = Over (Sort (key ∷ keys)) tree

abbrev pub group_if : Query → Tree → Tree
group_if query tree = if query.grouped then filtered query.having (Over (Group query.keys query.aggregates) tree) else tree

-- as many numbers as there are columns, from n on: the positions of selected columns in a row of them alone
abbrev pub numbers_from : ℕ → List ℕ → List ℕ
numbers_from n [] = []
numbers_from n (column ∷ columns) = n ∷ numbers_from (n + 1) columns

abbrev pub tree_for : Query → Sizes → Choice → Tree
tree_for query sizes choice =
    let rows = group_if query (join_tree choice (decls_in query) sizes query.conjuncts query.sources) in
    if query.distinct
    then sort_if (selected_orders query) (Over (Group (numbers_from 0 query.outputs) []) (Over (Project query.outputs) rows))
    else Over (Project query.outputs) (sort_if query.orders rows)

-- of a bound query over tables of these sizes
abbrev pub plan_for : Query → Sizes → Choice → Plan
plan_for query sizes choice =
    let tree = tree_for query sizes choice in
    record { nodes = nodes_of tree 1; heads = query.heads; kinds = kinds_of (decls_in query) tree }
