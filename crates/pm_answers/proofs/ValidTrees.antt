-- the tree of a query's sources, and what stands on it, keeps the rules of a valid plan
use Rattle.std.proofs.Common.{◌≡◌, ◌∙◌, ℕ, zero, suc, ◌+◌, ◌*◌, ◌≤◌, Bool, true, not, ◌&&◌, List, [], ◌∷◌, ◌++◌, length, map, filter, refl, sym, ap, subst, arith, length-append}
use Rattle.std.specs.Prelude.{nat_eq, nat_lt, All}
use Rattle.std.specs.List.{list_all, flat_map}
use Rattle.std.proofs.lemmas.Bool.{and_parts, and_from, eqb-true, ltb-true, lt-ltb}
use Rattle.std.proofs.lemmas.List.{length-map}
use Rattle.std.proofs.lemmas.List.Folds.{list_all-map}
use Rattle.std.proofs.lemmas.List.Elements.{All-head, All-tail}
use Rattle.pm_values.specs.declared.value.Kind.{Kind}
use Rattle.pm_values.specs.declared.condition.Cond.{Cond}
use Rattle.pm_values.specs.Table.{Declaration, IsDeclaration}
use Rattle.pm_plan.specs.Tree.{Tree}
use Rattle.pm_plan.specs.Kinds.{table_kinds, table_width, columns_of, condition_fits}
use Rattle.pm_work.specs.First.{Sizes}
use Rattle.pm_query.specs.declared.query.QuerySource.{QuerySource}
use Rattle.pm_query.specs.declared.query.Conjunct.{Conjunct}
use Rattle.pm_query.specs.declared.query.Query.{Query}
use Rattle.pm_query.specs.declared.query.Choice.{Choice}
use Rattle.pm_query.specs.Pairs.{may_take, takes, own_conditions}
use Rattle.pm_query.specs.Columns.{conjunction}
use Rattle.pm_query.specs.Bound.{on_fits, SourcesFit, source_kinds, IsBound}
use Rattle.pm_query.specs.Build.{decls_in, scan_of, filtered, join_tree, numbers_from}
use Rattle.pm_answers.specs.Databases.{IsNarrow}
use Rattle.pm_answers.proofs.Lists.{list_all-kept, list_all-weaker, list_all-once}
use Rattle.pm_answers.proofs.Joins.{conds_of}
use Rattle.pm_answers.proofs.FittingParts.{fits-front, own-fits, conjunction-fits}
use Rattle.pm_answers.proofs.ValidJoins.{Stands, stands-scan, stands-filtered}
use Rattle.pm_answers.proofs.ValidSources.{still_paired, stands-joins}

-- ---- the tables of the sources are tables of the query

pub numbers-below : (n end : ℕ) (columns : List ℕ) → n + length columns ≤ end → list_all (λ x. nat_lt x end) (numbers_from n columns) ≡ true
numbers-below n end [] low = refl
numbers-below n end (column ∷ columns) low =
    and_from (nat_lt n end) (list_all (λ x. nat_lt x end) (numbers_from (n + 1) columns)) (lt-ltb n end (omega arith)) (numbers-below (n + 1) end columns (omega arith))

tables-known : (query : Query) → IsBound query → list_all (λ source. nat_lt source.table (length (decls_in query))) query.sources ≡ true
tables-known query bound =
    let low : ℕ → Bool = λ x. nat_lt x (length (decls_in query)) in
    let places : List ℕ = map (λ table. table.place) query.tables in
    let many : length places ≡ length (decls_in query) = length-map query.tables (λ table. table.place) ∙ sym (length-map query.tables (λ table. table.decl)) in
    sym (list_all-map low (λ source. source.table) query.sources)
    ∙ sym (list_all-once nat_eq low (λ x y h. ap low (eqb-true x y h)) (map (λ source. source.table) query.sources))
    ∙ ap (list_all low) bound.tables
    ∙ numbers-below 0 (length (decls_in query)) places (omega (arith, many))

-- ---- eight tables have few columns

narrow-table : (decls : List Declaration) (table : ℕ) → All IsDeclaration decls → length (table_kinds decls table) ≤ 64
narrow-table [] table all = omega arith
narrow-table (decl ∷ decls) zero all =
    let here : IsDeclaration decl = All-head IsDeclaration decl decls all in
    let long : length (map (λ column. column.kind) decl.columns) ≡ length decl.columns = length-map decl.columns (λ column. column.kind) in
    omega (arith, long, here.narrow)
narrow-table (decl ∷ decls) (suc table) all = narrow-table decls table (All-tail IsDeclaration decl decls all)

narrow-sources : (decls : List Declaration) (sources : List QuerySource) → All IsDeclaration decls → length (flat_map (λ source. table_kinds decls source.table) sources) ≤ 64 * length sources
narrow-sources decls [] all = omega arith
narrow-sources decls (source ∷ sources) all =
    let long : length (flat_map (λ source. table_kinds decls source.table) (source ∷ sources)) ≡ length (table_kinds decls source.table) + length (flat_map (λ source. table_kinds decls source.table) sources) =
    length-append (table_kinds decls source.table) (flat_map (λ source. table_kinds decls source.table) sources) in
    omega (arith, long, narrow-table decls source.table all, narrow-sources decls sources all)

pub short-rows : (query : Query) → IsBound query → IsNarrow query → length (source_kinds query) ≤ 512
short-rows query bound narrow = omega (arith, bound.few, narrow-sources (decls_in query) query.sources narrow.tables)

-- ---- all sources

module _ (query : Query) (bound : IsBound query) (short : length (source_kinds query) ≤ 512) (c : Choice) (sizes : Sizes) where
  abbrev decls : List Declaration
  decls = decls_in query

  fit : list_all (λ x. condition_fits (source_kinds query) x.cond) query.conjuncts ≡ true
  fit =
      list_all-weaker (λ x. on_fits (length query.sources) x.on && condition_fits (source_kinds query) x.cond) (λ x. condition_fits (source_kinds query) x.cond)
      (λ x h. (and_parts (on_fits (length query.sources) x.on) (condition_fits (source_kinds query) x.cond) h).1) query.conjuncts bound.conjuncts

  by_sources : (sources : List QuerySource) → SourcesFit query sources → flat_map (λ source. table_kinds decls source.table) sources ≡ source_kinds query
      → list_all (λ source. nat_lt source.table (length decls)) sources ≡ true
      → (table : ℕ) × Stands decls (join_tree c decls sizes query.conjuncts sources) (source_kinds query) table (length sources)
  by_sources [] none is low = absurd none
  by_sources (source ∷ sources) on is low =
      let rights : List Kind = table_kinds decls source.table in
      let more : List Kind = flat_map (λ source. table_kinds decls source.table) sources in
      let to : ℕ = table_width decls source.table in
      let long : length rights ≡ to = length-map (columns_of decls source.table) (λ column. column.kind) in
      let all : length (source_kinds query) ≡ length rights + length more = ap length (sym is) ∙ length-append rights more in
      let ends : 0 + length rights ≡ to = omega (arith, long) in
      let lows = and_parts (nat_lt source.table (length decls)) (list_all (λ source. nat_lt source.table (length decls)) sources) low in
      let owns : List Cond = own_conditions source.left 0 0 to query.conjuncts in
      let kept : List Conjunct = filter (may_take source.left 0) query.conjuncts in
      let kept_fit : list_all (condition_fits (rights ++ more)) (conds_of kept) ≡ true =
      ap (λ kinds. list_all (condition_fits kinds) (conds_of kept)) is
      ∙ list_all-map (condition_fits (source_kinds query)) (λ x. x.cond) kept
      ∙ list_all-kept (λ x. condition_fits (source_kinds query) x.cond) (may_take source.left 0) query.conjuncts fit in
      let scanned : Tree = filtered (conjunction owns) (scan_of decls source) in
      let s : Stands decls scanned rights source.table 1 =
      stands-filtered decls rights source.table 1 (conjunction owns) (scan_of decls source)
      (conjunction-fits rights owns (own-fits [] rights more 0 to refl ends (condition_fits rights) (fits-front [] rights more 0 to refl ends) (conds_of kept) kept_fit))
      (stands-scan decls source (ltb-true source.table (length decls) lows.0) (omega (arith, all, short))) in
      let rest : List Conjunct = filter (λ x. not (takes source.left 0 0 to x)) query.conjuncts in (
        source.table,
        subst (λ n. Stands decls (join_tree c decls sizes query.conjuncts (source ∷ sources)) (source_kinds query) source.table n) (omega arith)
            (stands-joins query short c sizes source.table sources 1 to scanned rights 1 rest on.1 lows.1 s long is
            (list_all-kept (λ x. condition_fits (source_kinds query) x.cond) (λ x. not (takes source.left 0 0 to x)) query.conjuncts fit)
            (still_paired query short c sizes source.table source.left 0 0 to query.conjuncts (omega arith) (λ left position start end h. refl))),
      )

  pub stands-all : (table : ℕ) × Stands decls (join_tree c decls sizes query.conjuncts query.sources) (source_kinds query) table (length query.sources)
  stands-all = by_sources query.sources bound.sources refl (tables-known query bound)
