-- the built plan keeps the rules, and fits each database that meets the declarations
use Rattle.std.proofs.Common.{◌≡◌, ◌∙◌, ℕ, suc, ◌+◌, ◌*◌, ◌<◌, ◌≤◌, ◌^◌, true, false, not, ◌||◌, List, [], ◌∷◌, ◌++◌, length, map, refl, sym, ap, subst, arith, Option, None, Some, length-append}
use Rattle.std.specs.Prelude.{nat_eq, nat_lt, All, if◌then◌else◌}
use Rattle.std.specs.List.{list_all, list_any}
use Rattle.std.proofs.lemmas.Bool.{and_parts, and_from, lt-ltb, false≢true}
use Rattle.std.proofs.lemmas.List.{length-map, append-nil}
use Rattle.std.proofs.lemmas.List.Elements.{All-nil, All-cons}
use Rattle.pm_values.specs.declared.value.Kind.{Kind}
use Rattle.pm_values.specs.declared.condition.Cond.{Cond}
use Rattle.pm_values.specs.Table.{Declaration}
use Rattle.pm_plan.specs.declared.plan.SortKey.{SortKey}
use Rattle.pm_plan.specs.declared.plan.Plan.{Plan}
use Rattle.pm_plan.specs.Rows.{Db}
use Rattle.pm_plan.specs.Tree.{Unary, Filter, Project, Sort, Group, Tree, Over}
use Rattle.pm_plan.specs.Preorder.{tree_of, nodes_of}
use Rattle.pm_plan.specs.Kinds.{kinds_of, kinds_over, width, kind_at, kind_of_item, condition_fits_if}
use Rattle.pm_plan.specs.Valid.{are_below, IsValidTree, IsValidOver, has_group, tables_of, IsValid}
use Rattle.pm_plan.proofs.Preorders.{tree_of-nodes_of}
use Rattle.pm_work.specs.First.{Sizes, too_wide}
use Rattle.pm_work.specs.Fits.{sizes_of, ReferencesBetween, ReferencesHold, IsSound, Fits}
use Rattle.pm_query.specs.declared.query.Query.{Query}
use Rattle.pm_query.specs.declared.query.Choice.{Choice}
use Rattle.pm_query.specs.Answer.{position_of, selected_orders}
use Rattle.pm_query.specs.Bound.{source_kinds, grouped_or, row_kinds, IsBound}
use Rattle.pm_query.specs.Build.{decls_in, filtered, join_tree, sort_if, group_if, numbers_from, tree_for, plan_for}
use Rattle.pm_answers.specs.Databases.{MeetsDeclarations, IsNarrow}
use Rattle.pm_answers.proofs.Counting.{few-columns, few-aggregates}
use Rattle.pm_answers.proofs.ValidJoins.{Stands}
use Rattle.pm_answers.proofs.ValidTrees.{numbers-below, short-rows, stands-all}

-- a valid tree of so many tables with columns of these kinds
record Keeps (decls : List Declaration) (tree : Tree) (kinds : List Kind) (count : ℕ) : Type 0 where
  valid : IsValidTree decls tree
  columns : kinds_of decls tree ≡ kinds
  tables : length (tables_of tree) ≡ count

-- with so many columns
record KeepsWide (decls : List Declaration) (tree : Tree) (count wide : ℕ) : Type 0 where
  kinds : List Kind
  keeps : Keeps decls tree kinds count
  long : length kinds ≡ wide

module _ (decls : List Declaration) (count : ℕ) where
  keeps-over : (op : Unary) (tree : Tree) (kinds : List Kind) → Keeps decls tree kinds count → IsValidOver kinds (has_group tree) op → length (kinds_over op kinds) < 2 ^ 32
      → Keeps decls (Over op tree) (kinds_over op kinds) count
  keeps-over op tree kinds k valid narrow =
      record {
        valid = ((subst (λ ks. IsValidOver ks (has_group tree) op) (sym k.columns) valid, subst (λ ks. length (kinds_over op ks) < 2 ^ 32) (sym k.columns) narrow), k.valid);
        columns = ap (kinds_over op) k.columns;
        tables = k.tables;
      }

  keeps-filtered : (c : Option Cond) (tree : Tree) (kinds : List Kind) → Keeps decls tree kinds count → condition_fits_if kinds c ≡ true → length kinds < 2 ^ 32 → Keeps decls (filtered c tree) kinds count
  keeps-filtered None tree kinds k fit narrow = k
  keeps-filtered (Some c) tree kinds k fit narrow = keeps-over (Filter c) tree kinds k fit narrow

  keeps-sorted : (keys : List SortKey) (tree : Tree) (kinds : List Kind) → Keeps decls tree kinds count → are_below (length kinds) (map (λ key. key.column) keys) ≡ true → length kinds < 2 ^ 32 → Keeps decls (sort_if keys tree) kinds count
  keeps-sorted [] tree kinds k low narrow = k
  keeps-sorted (key ∷ keys) tree kinds k low narrow = keeps-over (Sort (key ∷ keys)) tree kinds k low narrow

position-below : (column : ℕ) (outputs : List ℕ) → list_any (nat_eq column) outputs ≡ true → position_of column outputs < length outputs
position-below column [] h = absurd (false≢true h)
position-below column (output ∷ outputs) h =
    elim (nat_eq column output) as (λ t. (t || list_any (nat_eq column) outputs) ≡ true → (if t then 0 else 1 + position_of column outputs) < suc (length outputs)) [
      | true ↦ λ e. omega arith
      | false ↦ λ e. omega (arith, position-below column outputs e)
    ]
    h

abbrev column_of : SortKey → ℕ
column_of key = key.column

abbrev selected_key : List ℕ → SortKey → SortKey
selected_key outputs key = record { column = position_of key.column outputs; descending = key.descending }

selected-below : (outputs : List ℕ) (n : ℕ) → length outputs ≡ n → (keys : List SortKey) → list_all (λ key. list_any (nat_eq key.column) outputs) keys ≡ true
    → are_below n (map column_of (map (selected_key outputs) keys)) ≡ true
selected-below outputs n long [] all = refl
selected-below outputs n long (key ∷ keys) all =
    let parts = and_parts (list_any (nat_eq key.column) outputs) (list_all (λ key. list_any (nat_eq key.column) outputs) keys) all in
    and_from (nat_lt (position_of key.column outputs) n) (are_below n (map column_of (map (selected_key outputs) keys)))
    (lt-ltb (position_of key.column outputs) n (omega (arith, long, position-below key.column outputs parts.0))) (selected-below outputs n long keys parts.1)

length-numbers : (n : ℕ) (columns : List ℕ) → length (numbers_from n columns) ≡ length columns
length-numbers n [] = refl
length-numbers n (column ∷ columns) = ap suc (length-numbers (n + 1) columns)

module _ (query : Query) (bound : IsBound query) (small : IsNarrow query) (c : Choice) (sizes : Sizes) where
  abbrev decls : List Declaration
  decls = decls_in query

  abbrev count : ℕ
  count = length query.sources

  abbrev joined : Tree
  joined = join_tree c decls sizes query.conjuncts query.sources

  short : length (source_kinds query) ≤ 512
  short = short-rows query bound small

  stands : (table : ℕ) × Stands decls joined (source_kinds query) table count
  stands = stands-all query bound short c sizes

  joined_keeps : Keeps decls joined (source_kinds query) count
  joined_keeps = record { valid = stands.1.valid; columns = stands.1.columns; tables = stands.1.tables }

  -- ---- groups

  abbrev group_kinds : List Kind
  group_kinds = map (kind_at (source_kinds query)) query.keys ++ map (kind_of_item (source_kinds query)) query.aggregates

  narrow_groups : length group_kinds < 2 ^ 32
  narrow_groups =
      let both : length group_kinds ≡ length query.keys + length query.aggregates =
      length-append (map (kind_at (source_kinds query)) query.keys) (map (kind_of_item (source_kinds query)) query.aggregates)
      ∙ ap (λ n. n + length (map (kind_of_item (source_kinds query)) query.aggregates)) (length-map query.keys (kind_at (source_kinds query)))
      ∙ ap (λ n. length query.keys + n) (length-map query.aggregates (kind_of_item (source_kinds query))) in
      let keys : length query.keys ≤ length (source_kinds query) = few-columns (length (source_kinds query)) query.keys bound.keys_once bound.keys in
      let items : length query.aggregates ≤ 1 + 4 * length (source_kinds query) = few-aggregates (source_kinds query) query.aggregates bound.items_once bound.items in
      omega (arith, both, keys, items, short)

  grouped_keeps : Keeps decls (Over (Group query.keys query.aggregates) joined) group_kinds count
  grouped_keeps =
      keeps-over decls count (Group query.keys query.aggregates) joined (source_kinds query) joined_keeps
      (record { columns = bound.keys; fit = bound.items; alone = λ grouped. absurd (false≢true (sym stands.1.ungrouped ∙ grouped)) }) narrow_groups

  narrow_rows : length (row_kinds query) < 2 ^ 32
  narrow_rows = elim query.grouped as (λ t. length (grouped_or t group_kinds (source_kinds query)) < 2 ^ 32) [ true ↦ narrow_groups | false ↦ omega (arith, short) ]

  abbrev rows : Tree
  rows = group_if query joined

  rows_keep : Keeps decls rows (row_kinds query) count
  rows_keep =
      elim query.grouped as (λ t. condition_fits_if (grouped_or t group_kinds (source_kinds query)) query.having ≡ true
      → Keeps decls (if t then filtered query.having (Over (Group query.keys query.aggregates) joined) else joined) (grouped_or t group_kinds (source_kinds query)) count) [
        | true ↦ λ fit. keeps-filtered decls count query.having (Over (Group query.keys query.aggregates) joined) group_kinds grouped_keeps fit narrow_groups
        | false ↦ λ fit. joined_keeps
      ]
      bound.having

  -- ---- what is selected

  abbrev selected : List Kind
  selected = map (kind_at (row_kinds query)) query.outputs

  long : length selected ≡ length query.outputs
  long = length-map query.outputs (kind_at (row_kinds query))

  project : (tree : Tree) → Keeps decls tree (row_kinds query) count → Keeps decls (Over (Project query.outputs) tree) selected count
  project tree k = keeps-over decls count (Project query.outputs) tree (row_kinds query) k bound.outputs (omega (arith, long, small.outputs))

  abbrev numbers : List ℕ
  numbers = numbers_from 0 query.outputs

  abbrev different_kinds : List Kind
  different_kinds = map (kind_at selected) numbers ++ []

  different_long : length different_kinds ≡ length query.outputs
  different_long = ap length (append-nil (map (kind_at selected) numbers)) ∙ length-map numbers (kind_at selected) ∙ length-numbers 0 query.outputs

  different : Keeps decls (Over (Group numbers []) (Over (Project query.outputs) rows)) different_kinds count
  different =
      keeps-over decls count (Group numbers []) (Over (Project query.outputs) rows) selected (project rows rows_keep)
      (record { columns = numbers-below 0 (length selected) query.outputs (omega (arith, long)); fit = refl; alone = λ grouped. refl }) (omega (arith, different_long, small.outputs))

  abbrev Built : Tree → Type 0
  Built tree = KeepsWide decls tree count (length query.outputs)

  tree_keeps : Built (tree_for query sizes c)
  tree_keeps =
      elim query.distinct as (λ t. (not t || list_all (λ key. list_any (nat_eq key.column) query.outputs) query.orders) ≡ true
      → Built (if t then sort_if (selected_orders query) (Over (Group numbers []) (Over (Project query.outputs) rows)) else Over (Project query.outputs) (sort_if query.orders rows))) [
        | true ↦ λ all.
            record {
              kinds = different_kinds;
              keeps =
                  keeps-sorted decls count (selected_orders query) (Over (Group numbers []) (Over (Project query.outputs) rows)) different_kinds different
                  (selected-below query.outputs (length different_kinds) (sym different_long) query.orders all) (omega (arith, different_long, small.outputs));
              long = different_long;
            }
        | false ↦ λ all.
            record {
              kinds = selected;
              keeps = project (sort_if query.orders rows) (keeps-sorted decls count query.orders rows (row_kinds query) rows_keep bound.orders narrow_rows);
              long = long;
            }
      ]
      bound.selected

  abbrev tree : Tree
  tree = tree_for query sizes c

  abbrev plan : Plan
  plan = plan_for query sizes c

  read_back : tree ≡ tree_of (nodes_of tree 1)
  read_back = sym (tree_of-nodes_of tree)

  -- the built plan keeps the rules for the tables of the query
  pub built-valid : IsValid plan decls
  built-valid =
      record {
        numbered = ap (λ t. nodes_of t 1) read_back;
        operators = subst (IsValidTree decls) read_back tree_keeps.keeps.valid;
        few = subst (λ t. length (tables_of t) ≤ 8) read_back (omega (arith, tree_keeps.keeps.tables, bound.few));
        heads = bound.heads ∙ sym tree_keeps.long ∙ ap length (sym tree_keeps.keeps.columns) ∙ ap (width decls) read_back;
        kinds = ap (kinds_of decls) read_back;
      }

  -- ---- over a database of the query's tables

  module _ (db : Db) (meets : MeetsDeclarations query db) where
    all_of : (P : ℕ → Type 0) → ((x : ℕ) → P x) → (xs : List ℕ) → All P xs
    all_of P each [] = All-nil P
    all_of P each (x ∷ xs) = All-cons P x xs (each x) (all_of P each xs)

    references : (t : Tree) → ReferencesHold db t
    references t = all_of (λ child. All (ReferencesBetween db child) (tables_of t)) (λ child. all_of (ReferencesBetween db child) (meets.references child) (tables_of t)) (tables_of t)

    pub built-sound : IsSound db tree
    built-sound = record { tables = meets.tables; operators = subst (λ d. IsValidTree d tree) (sym meets.declared) tree_keeps.keeps.valid; references = references tree }

    pub built-fits : too_wide (sizes_of db) tree ≡ None → Fits plan db
    built-fits narrow =
        record {
          valid = subst (λ d. IsValid plan d) (sym meets.declared) built-valid;
          narrow = ap (too_wide (sizes_of db)) (sym read_back) ∙ narrow;
          references = references (tree_of (nodes_of tree 1));
        }
