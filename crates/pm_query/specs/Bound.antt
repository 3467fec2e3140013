-- the queries that statements are bound to
use Rattle.std.specs.Prelude.{◌≡◌, ◌≢◌, ◌≤◌, ◌<◌, ℕ, ◌+◌, Bool, true, false, ◌&&◌, ◌||◌, nat_eq, nat_lt, nat_le, not, is_some, List, [], ◌∷◌, ◌++◌, length, map, filter, slice_get, Option, None, Some}
use Rattle.std.specs.List.{list_all, list_any, flat_map}
use Rattle.pm_values.specs.declared.value.Kind.{Kind}
use Rattle.pm_values.specs.declared.table.Reference.{Reference}
use Rattle.pm_values.specs.declared.condition.Cond.{Cond}
use Rattle.pm_values.specs.Table.{Declaration}
use Rattle.pm_values.specs.Keys.{once}
use Rattle.pm_plan.specs.declared.plan.Aggregate.{Aggregate}
use Rattle.pm_plan.specs.declared.plan.Aggregate.TheVariants as aggregate
use Rattle.pm_plan.specs.Kinds.{table_kinds, table_width, kind_at, kind_of_item, condition_fits, condition_fits_if, item_fits}
use Rattle.pm_plan.specs.Valid.{are_below}
use Rattle.pm_query.specs.declared.query.QuerySource.{QuerySource}
use Rattle.pm_query.specs.declared.query.Conjunct.{Conjunct}
use Rattle.pm_query.specs.declared.query.Query.{Query}
use Rattle.pm_query.specs.Answer.{stands_in}
use Rattle.pm_query.specs.Columns.{within}
use Rattle.pm_query.specs.Pairs.{takes, pairs_of}
use Rattle.pm_query.specs.Build.{decls_in, numbers_from}

-- no number stands twice
abbrev pub differ : List ℕ → Bool
differ [] = true
differ (x ∷ xs) = not (list_any (nat_eq x) xs) && differ xs

abbrev pub differ_if : Option (List ℕ) → Bool
differ_if None = true
differ_if (Some xs) = differ xs

-- no column stands twice in a KEY, an ORDER, or a list of a reference
abbrev pub names_once : Declaration → Bool
names_once decl =
    differ_if decl.key && differ_if decl.order && list_all (λ reference. differ reference.columns && differ reference.keys) decl.references

abbrev pub same_aggregate : Aggregate → Aggregate → Bool
same_aggregate aggregate.CountAll aggregate.CountAll = true
same_aggregate (aggregate.Count a) (aggregate.Count b) = nat_eq a b
same_aggregate (aggregate.Sum a) (aggregate.Sum b) = nat_eq a b
same_aggregate (aggregate.Min a) (aggregate.Min b) = nat_eq a b
same_aggregate (aggregate.Max a) (aggregate.Max b) = nat_eq a b
same_aggregate _ _ = false

abbrev pub aggregates_differ : List Aggregate → Bool
aggregates_differ [] = true
aggregates_differ (a ∷ items) = not (list_any (same_aggregate a) items) && aggregates_differ items

-- ---- the columns of the rows

-- of all sources in order
abbrev pub source_kinds : Query → List Kind
source_kinds query = flat_map (λ source. table_kinds (decls_in query) source.table) query.sources

abbrev pub grouped_or : Bool → List Kind → List Kind → List Kind
grouped_or true groups rows = groups
grouped_or false groups rows = rows

-- of the rows that are selected from: in a grouped query the keys and then the aggregates
abbrev pub row_kinds : Query → List Kind
row_kinds query =
    let kinds = source_kinds query in
    grouped_or query.grouped (map (kind_at kinds) query.keys ++ map (kind_of_item kinds) query.aggregates) kinds

-- ---- sources

-- a source at this position, whose columns stand from `from` up to below `to`: it has a join pair with those before it; each condition of its
-- ON reads columns up to its own; and after LEFT JOIN each is its own or a pair of it
pub record IsJoined (query : Query) (source : QuerySource) (position from to : ℕ) : Type 0 where
  pub paired : pairs_of source.left position from to query.conjuncts ≢ []
  pub known : list_all (λ conjunct. not (stands_in (Some position) conjunct) || within 0 to conjunct.cond) query.conjuncts ≡ true
  pub taken : list_all (λ conjunct. not (source.left && stands_in (Some position) conjunct) || takes source.left position from to conjunct) query.conjuncts ≡ true

-- the sources from this position on, whose columns begin at `from`
abbrev pub AreJoined : Query → List QuerySource → ℕ → ℕ → Type 0
AreJoined query [] position from = Unit {0}
AreJoined query (source ∷ sources) position from =
    let to = from + table_width (decls_in query) source.table in IsJoined query source position from to × AreJoined query sources (position + 1) to

-- the first source is a plain one, and each further one is joined
abbrev pub SourcesFit : Query → List QuerySource → Type 0
SourcesFit query [] = ⊥
SourcesFit query (source ∷ sources) = (source.left ≡ false) × AreJoined query sources 1 (table_width (decls_in query) source.table)

-- a conjunct stands in WHERE, or in the ON of a source after the first
abbrev pub on_fits : ℕ → Option ℕ → Bool
on_fits sources None = true
on_fits sources (Some position) = nat_le 1 position && nat_lt position sources

-- a query that is not grouped has no keys, no aggregates and no HAVING
abbrev pub is_plain : Bool → List ℕ → List Aggregate → Option Cond → Bool
is_plain true keys items having = true
is_plain false [] [] None = true
is_plain false _ _ _ = false

abbrev pub orders_selected : Query → Bool
orders_selected query = not query.distinct || list_all (λ key. list_any (nat_eq key.column) query.outputs) query.orders

pub record IsBound (query : Query) : Type 0 where
  -- from one to eight sources, the first of which is plain
  pub few : length query.sources ≤ 8
  pub sources : SourcesFit query query.sources
  -- the tables are those of the sources, each once, by first appearance; they are told by different positions of the schema, and no column stands
  -- twice in a KEY, an ORDER or a reference
  pub tables : once nat_eq (map (λ source. source.table) query.sources) ≡ numbers_from 0 (map (λ table. table.place) query.tables)
  pub places : differ (map (λ table. table.place) query.tables) ≡ true
  pub named_once : list_all names_once (decls_in query) ≡ true
  -- each condition fits the columns of all sources
  pub conjuncts : list_all (λ conjunct. on_fits (length query.sources) conjunct.on && condition_fits (source_kinds query) conjunct.cond) query.conjuncts ≡ true
  -- the keys and the aggregates are columns of these, each once, and there are none where the query is not grouped
  pub keys : are_below (length (source_kinds query)) query.keys ≡ true
  pub keys_once : differ query.keys ≡ true
  pub items : list_all (item_fits (source_kinds query)) query.aggregates ≡ true
  pub items_once : aggregates_differ query.aggregates ≡ true
  pub plain : is_plain query.grouped query.keys query.aggregates query.having ≡ true
  -- HAVING, the outputs and the orders read the rows that are selected from
  pub having : condition_fits_if (row_kinds query) query.having ≡ true
  pub some : query.outputs ≢ []
  pub outputs : are_below (length (row_kinds query)) query.outputs ≡ true
  pub heads : length query.heads ≡ length query.outputs
  pub orders : are_below (length (row_kinds query)) (map (λ key. key.column) query.orders) ≡ true
  -- with DISTINCT the rows are ordered by selected columns
  pub selected : orders_selected query ≡ true
