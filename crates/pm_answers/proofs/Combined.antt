-- the rows of the tree of all sources are those that the query combines
use Rattle.std.proofs.Common.{◌≡◌, ℕ, ◌+◌, ◌<◌, ◌≤◌, zero, suc, Bool, true, false, not, ◌&&◌, ◌||◌, List, [], ◌∷◌, ◌++◌, length, map, refl, sym, ap, subst, ◌∙◌, arith, Option, None, Some}
use Rattle.std.specs.Prelude.{nat_eq, nat_le, nat_lt, slice_get, if◌then◌else◌}
use Rattle.std.specs.List.{filter, flat_map, list_all, All}
use Rattle.std.proofs.lemmas.Bool.{and_parts, or_from, eqb-true, eqb-false, leb-true, ltb-true, ne_eqb}
use Rattle.std.proofs.lemmas.List.{append-nil, map-id}
use Rattle.std.proofs.lemmas.List.Elements.{filter_agree, All-filter, All-same, All-head, All-tail, All-nil}
use Rattle.pm_values.specs.declared.condition.Cond.{Cond}
use Rattle.pm_values.specs.Row.{Row}
use Rattle.pm_values.specs.Condition.{keeps}
use Rattle.pm_values.specs.Table.{Declaration}
use Rattle.pm_plan.specs.Rows.{Db, table_rows, decls_of}
use Rattle.pm_plan.specs.Joins.{or_padded}
use Rattle.pm_plan.specs.Kinds.{table_width, condition_fits}
use Rattle.pm_plan.specs.Valid.{order_of}
use Rattle.pm_plan.specs.Tree.{Tree}
use Rattle.pm_plan.specs.Outputs.{output}
use Rattle.pm_work.specs.First.{Sizes}
use Rattle.pm_query.specs.declared.query.QuerySource.{QuerySource}
use Rattle.pm_query.specs.declared.query.Conjunct.{Conjunct}
use Rattle.pm_query.specs.declared.query.Query.{Query}
use Rattle.pm_query.specs.declared.query.Choice.{Choice}
use Rattle.pm_query.specs.Answer.{meets, stands_in, conditions_in, entered, combinations, combined}
use Rattle.pm_query.specs.Pairs.{is_own, takes, own_conditions}
use Rattle.pm_query.specs.Build.{decls_in, scan_of, filtered, joins, join_tree}
use Rattle.pm_query.specs.Columns.{conjunction}
use Rattle.pm_query.specs.Bound.{AreJoined, SourcesFit, on_fits, differ, source_kinds, IsBound}
use Rattle.pm_answers.specs.Databases.{IsWide, IsDatabaseOf}
use Rattle.pm_answers.proofs.Lists.{filter-all, filter-filter, filter-same, list_all-weaker, list_all-both, list_all-either}
use Rattle.pm_answers.proofs.Taken.{is_taken, no_pair}
use Rattle.pm_answers.proofs.Merges.{order-differs}
use Rattle.pm_answers.proofs.Joins.{HasLength, conds_of, output-conjunction}
use Rattle.pm_answers.proofs.Entries.{meets-conds, on_of, loose, is_inner, inner_conds, combinations-loose}
use Rattle.pm_answers.proofs.Sources.{is_padded, is_free, on_taken, fits, later_taken, later_stay, tested_early, joins-rows}

-- ---- rows are as wide as their tables' declarations

pub table-wide : (db : Db) (decls : List Declaration) → decls_of db ≡ decls → All IsWide db → (table : ℕ) → All (HasLength (table_width decls table)) (table_rows db table)
table-wide db decls declared wide table = subst (λ d. All (HasLength (table_width d table)) (table_rows db table)) declared (own db wide table)
  where
    own : (db : Db) → All IsWide db → (table : ℕ) → All (HasLength (table_width (decls_of db) table)) (table_rows db table)
    own [] all table = All-nil (HasLength (table_width [] table))
    own (t ∷ db) all zero = All-head IsWide t db all
    own (t ∷ db) all (suc table) = own db (All-tail IsWide t db all) table

-- ---- each condition stands in WHERE, or in the ON of one source

-- in none of these ONs, where its position is an earlier one
none_before : (sources : List QuerySource) (position at : ℕ) (conjunct : Conjunct) → conjunct.on ≡ Some at → at < position
    → (is_padded position sources conjunct ≡ false) × (is_inner position sources conjunct ≡ false)
none_before [] position at conjunct on low = (refl, refl)
none_before (source ∷ sources) position at conjunct on low =
    let further = none_before sources (position + 1) at conjunct on (omega arith) in
    let off : stands_in (Some position) conjunct ≡ false = rw on (ne_eqb position at (λ e. omega (arith, e, low))) in
    let none : (left : Bool) → (left && stands_in (Some position) conjunct) ≡ false =
    λ left. ap (λ t. left && t) off ∙ elim left as (λ t. (t && false) ≡ false) [ true ↦ refl | false ↦ refl ] in (
      or_from (source.left && stands_in (Some position) conjunct) (is_padded (position + 1) sources conjunct) (none source.left) further.0,
      or_from (not source.left && stands_in (Some position) conjunct) (is_inner (position + 1) sources conjunct) (none (not source.left)) further.1,
    )

-- in one of them, where its position is one of theirs
one_of : (sources : List QuerySource) (position at : ℕ) (conjunct : Conjunct) → conjunct.on ≡ Some at → position ≤ at → at < position + length sources
    → is_free position sources conjunct ≡ is_inner position sources conjunct
one_of [] position at conjunct on low high = absurd (omega arith)
one_of (source ∷ sources) position at conjunct on low high =
    elim (nat_eq position at) as (λ b. (nat_eq position at ≡ b) → is_free position (source ∷ sources) conjunct ≡ is_inner position (source ∷ sources) conjunct) [
      | true ↦ λ e.
          let here : stands_in (Some position) conjunct ≡ true = rw on e in
          let none = none_before sources (position + 1) at conjunct on (omega (arith, eqb-true position at e)) in
          ap (λ b. not ((source.left && b) || is_padded (position + 1) sources conjunct)) here
          ∙ ap (λ b. not ((source.left && true) || b)) none.0
          ∙ elim source.left as (λ t. not ((t && true) || false) ≡ ((not t && true) || false)) [ true ↦ refl | false ↦ refl ]
          ∙ ap (λ b. (not source.left && true) || b) (sym none.1)
          ∙ ap (λ b. (not source.left && b) || is_inner (position + 1) sources conjunct) (sym here)
      | false ↦ λ e.
          let off : stands_in (Some position) conjunct ≡ false = rw on e in
          let apart : (position ≡ at) → ⊥ = eqb-false position at e in
          ap (λ b. not ((source.left && b) || is_padded (position + 1) sources conjunct)) off
          ∙ elim source.left as (λ t. not ((t && false) || is_padded (position + 1) sources conjunct) ≡ is_free (position + 1) sources conjunct) [ true ↦ refl | false ↦ refl ]
          ∙ one_of sources (position + 1) at conjunct on (omega (arith, apart)) (omega arith)
          ∙ elim source.left as (λ t. is_inner (position + 1) sources conjunct ≡ ((not t && false) || is_inner (position + 1) sources conjunct)) [ true ↦ refl | false ↦ refl ]
          ∙ ap (λ b. (not source.left && b) || is_inner (position + 1) sources conjunct) (sym off)
    ]
    refl

where_free : (sources : List QuerySource) (position : ℕ) (conjunct : Conjunct) → conjunct.on ≡ None → is_padded position sources conjunct ≡ false
where_free [] position conjunct on = refl
where_free (source ∷ sources) position conjunct on =
    let off : stands_in (Some position) conjunct ≡ false = rw on refl in
    or_from (source.left && stands_in (Some position) conjunct) (is_padded (position + 1) sources conjunct)
    (ap (λ b. source.left && b) off ∙ elim source.left as (λ t. (t && false) ≡ false) [ true ↦ refl | false ↦ refl ]) (where_free sources (position + 1) conjunct on)

or-true : (b : Bool) → true ≡ (b || true)
or-true true = refl
or-true false = refl

or-false : (b : Bool) → b ≡ (b || false)
or-false true = refl
or-false false = refl

-- the conditions that any source may take are those of WHERE and of the other ONs
free-is : (sources : List QuerySource) (conjunct : Conjunct) → on_fits (1 + length sources) conjunct.on ≡ true
    → is_free 1 sources conjunct ≡ (is_inner 1 sources conjunct || stands_in None conjunct)
free-is sources conjunct fit = by_on conjunct.on refl
  where
    by_on : (on : Option ℕ) → conjunct.on ≡ on → is_free 1 sources conjunct ≡ (is_inner 1 sources conjunct || stands_in None conjunct)
    by_on None e =
        let here : stands_in None conjunct ≡ true = rw e refl in
        ap not (where_free sources 1 conjunct e) ∙ or-true (is_inner 1 sources conjunct) ∙ ap (λ b. is_inner 1 sources conjunct || b) (sym here)
    by_on (Some at) e =
        let within : (nat_le 1 at && nat_lt at (1 + length sources)) ≡ true = ap (on_fits (1 + length sources)) (sym e) ∙ fit in
        let parts = and_parts (nat_le 1 at) (nat_lt at (1 + length sources)) within in
        let off : stands_in None conjunct ≡ false = rw e refl in
        one_of sources 1 at conjunct e (leb-true 1 at parts.0) (ltb-true at (1 + length sources) parts.1)
        ∙ or-false (is_inner 1 sources conjunct)
        ∙ ap (λ b. is_inner 1 sources conjunct || b) (sym off)

-- none stands in the ON of the first source
none_first : (sources : ℕ) (conjunct : Conjunct) → on_fits sources conjunct.on ≡ true → stands_in (Some 0) conjunct ≡ false
none_first sources conjunct fit = by_on conjunct.on refl
  where
    by_on : (on : Option ℕ) → conjunct.on ≡ on → stands_in (Some 0) conjunct ≡ false
    by_on None e = rw e refl
    by_on (Some at) e =
        let within : (nat_le 1 at && nat_lt at sources) ≡ true = ap (on_fits sources) (sym e) ∙ fit in
        let low : 1 ≤ at = leb-true 1 at (and_parts (nat_le 1 at) (nat_lt at sources) within).0 in
        rw e (ne_eqb 0 at (λ h. omega (arith, h, low)))

filter-none : (xs : List Conjunct) → filter (λ x. false) xs ≡ []
filter-none [] = refl
filter-none (x ∷ xs) = filter-none xs

-- ---- all sources

all_taken : (query : Query) (sources : List QuerySource) (position from : ℕ) → AreJoined query sources position from
    → list_all (on_taken (decls_in query) position from sources) query.conjuncts ≡ true
all_taken query [] position from joined = passes query.conjuncts
  where
    passes : (xs : List Conjunct) → list_all (λ x. true) xs ≡ true
    passes [] = refl
    passes (x ∷ xs) = passes xs
all_taken query (source ∷ sources) position from joined =
    let to : ℕ = from + table_width (decls_in query) source.table in
    list_all-both (λ x. not (source.left && stands_in (Some position) x) || takes source.left position from to x) (on_taken (decls_in query) (position + 1) to sources) query.conjuncts
    joined.0.taken (all_taken query sources (position + 1) to joined.1)

module _ (query : Query) (db : Db) (bound : IsBound query) (of : IsDatabaseOf query db) (c : Choice) (sizes : Sizes) where
  abbrev decls : List Declaration
  decls = decls_in query

  wide : (table : ℕ) → All (HasLength (table_width decls table)) (table_rows db table)
  wide = table-wide db decls of.declared of.wide

  ons_fit : (n : ℕ) → list_all (λ x. on_fits n x.on && condition_fits (source_kinds query) x.cond) query.conjuncts ≡ true → list_all (λ x. on_fits n x.on) query.conjuncts ≡ true
  ons_fit n all =
      list_all-weaker (λ x. on_fits n x.on && condition_fits (source_kinds query) x.cond) (λ x. on_fits n x.on)
      (λ x h. (and_parts (on_fits n x.on) (condition_fits (source_kinds query) x.cond) h).0) query.conjuncts all

  module _ (source : QuerySource) (sources : List QuerySource) (joined : AreJoined query sources 1 (table_width decls source.table))
      (fit : list_all (λ x. on_fits (1 + length sources) x.on) query.conjuncts ≡ true) where
    abbrev to : ℕ
    to = table_width decls source.table

    abbrev table : List Row
    table = table_rows db source.table

    abbrev free : List Cond
    free = conds_of (filter (is_free 1 sources) query.conjuncts)

    abbrev first : List ℕ
    first = order_of (slice_get decls source.table)

    differs : differ first ≡ true
    differs = order-differs decls source.table bound.named_once

    abbrev now_taken : Row → Bool
    now_taken = meets (filter (is_taken 0 to) (conds_of query.conjuncts))

    abbrev scanned : Tree
    scanned = filtered (conjunction (own_conditions false 0 0 to query.conjuncts)) (scan_of decls source)

    scanned_rows : output db scanned ≡ filter now_taken table
    scanned_rows =
        output-conjunction db (own_conditions false 0 0 to query.conjuncts) (scan_of decls source)
        ∙ ap (λ xs. filter (meets (filter (is_own 0 to) (conds_of xs))) table) (filter-all query.conjuncts)
        ∙ ap (λ xs. filter (meets xs) table) (filter_agree (is_own 0 to) (is_taken 0 to) (λ x. or-false (is_own 0 to x) ∙ ap (λ b. is_own 0 to x || b) (sym (no_pair to x))) (conds_of query.conjuncts))

    fits_first : list_all (fits query db of.declared wide c sizes first differs sources 0 0 to (omega arith) query.conjuncts false) query.conjuncts ≡ true
    fits_first = all_taken query sources 1 to joined

    plain_rows : output db (joins c decls sizes first scanned 1 to (filter (λ x. not (takes false 0 0 to x)) query.conjuncts) sources) ≡ filter (meets free) (loose query db 1 table sources)
    plain_rows =
        let order : 0 ≤ to = omega arith in
        joins-rows query db of.declared wide c sizes first differs sources 1 to scanned (filter (λ x. not (takes false 0 0 to x)) query.conjuncts)
        (later_taken query db of.declared wide c sizes first differs sources 0 0 to order query.conjuncts false fits_first refl)
        (later_stay query db of.declared wide c sizes first differs sources 0 0 to order query.conjuncts false fits_first refl)
        (All-same (HasLength to) (output db scanned) (filter now_taken table) scanned_rows (All-filter now_taken (HasLength to) table (wide source.table)))
        ∙ ap (λ x. filter (meets (conds_of (filter (λ y. not (is_padded 1 sources y)) (filter (λ x. not (takes false 0 0 to x)) query.conjuncts)))) (loose query db 1 x sources)) scanned_rows
        ∙ tested_early query db of.declared wide c sizes first differs sources 0 0 to order query.conjuncts fits_first table (wide source.table)

    -- and those that the query combines
    first_on : on_of query db 0 ≡ []
    first_on =
        ap conds_of (filter-same (λ x. on_fits (1 + length sources) x.on) (stands_in (Some 0)) (λ x. false) (none_first (1 + length sources)) query.conjuncts fit ∙ filter-none query.conjuncts)

    first_rows : source.left ≡ false → flat_map (entered db source (on_of query db 0)) ([] ∷ []) ≡ table
    first_rows plain =
        let found : List Row = filter (meets []) (map (λ r. [] ++ r) table) in
        ap (λ conds. entered db source conds [] ++ []) first_on
        ∙ append-nil (entered db source [] [])
        ∙ ap (λ t. if t then or_padded (table_width (decls_of db) source.table) [] found else found) plain
        ∙ filter-all (map (λ r. r) table)
        ∙ map-id table

    abbrev inner : Row → Bool
    inner = meets (inner_conds query db 1 sources)

    abbrev in_where : Row → Bool
    in_where = meets (conditions_in None query)

    free_tests : (x : Row) → (inner x && in_where x) ≡ meets free x
    free_tests x =
        let k : Conjunct → Bool = λ y. keeps y.cond x in
        ap (λ t. t && in_where x) (meets-conds x (filter (is_inner 1 sources) query.conjuncts))
        ∙ ap (λ t. list_all k (filter (is_inner 1 sources) query.conjuncts) && t) (meets-conds x (filter (stands_in None) query.conjuncts))
        ∙ sym (list_all-either k (is_inner 1 sources) (stands_in None) query.conjuncts)
        ∙ ap (list_all k) (sym (filter-same (λ y. on_fits (1 + length sources) y.on) (is_free 1 sources) (λ y. is_inner 1 sources y || stands_in None y) (free-is sources) query.conjuncts fit))
        ∙ sym (meets-conds x (filter (is_free 1 sources) query.conjuncts))

    combined_rows : source.left ≡ false → filter in_where (combinations query db 0 ([] ∷ []) (source ∷ sources)) ≡ filter (meets free) (loose query db 1 table sources)
    combined_rows plain =
        ap (λ rows. filter in_where (combinations query db 1 rows sources)) (first_rows plain)
        ∙ ap (filter in_where) (combinations-loose query db of.declared wide sources 1 to table joined (wide source.table))
        ∙ filter-filter in_where inner (loose query db 1 table sources)
        ∙ filter_agree (λ x. inner x && in_where x) (meets free) free_tests (loose query db 1 table sources)

    tree_rows : source.left ≡ false → output db (join_tree c decls sizes query.conjuncts (source ∷ sources)) ≡ filter in_where (combinations query db 0 ([] ∷ []) (source ∷ sources))
    tree_rows plain =
        ap (λ t. output db (joins c decls sizes first (filtered (conjunction (own_conditions t 0 0 to query.conjuncts)) (scan_of decls source)) 1 to (filter (λ x. not (takes t 0 0 to x)) query.conjuncts) sources)) plain
        ∙ plain_rows
        ∙ sym (combined_rows plain)

  by_sources : (sources : List QuerySource) → SourcesFit query sources → list_all (λ x. on_fits (length sources) x.on && condition_fits (source_kinds query) x.cond) query.conjuncts ≡ true
      → output db (join_tree c decls sizes query.conjuncts sources) ≡ filter (meets (conditions_in None query)) (combinations query db 0 ([] ∷ []) sources)
  by_sources [] none fit = absurd none
  by_sources (source ∷ sources) joined fit =
      tree_rows source sources joined.1 (subst (λ n. list_all (λ x. on_fits n x.on) query.conjuncts ≡ true) (omega arith) (ons_fit (length (source ∷ sources)) fit)) joined.0

  pub join_tree-rows : output db (join_tree c decls sizes query.conjuncts query.sources) ≡ combined query db
  join_tree-rows = by_sources query.sources bound.sources bound.conjuncts
