-- the rows of the sources where only the ON after LEFT JOIN is tested, and those where each ON is
use Rattle.std.proofs.Common.{◌≡◌, ℕ, ◌+◌, ◌≤◌, Bool, true, false, cond, not, ◌&&◌, ◌||◌, List, [], ◌∷◌, ◌++◌, length, refl, sym, ap, ◌∙◌, arith, Some, length-append}
use Rattle.std.specs.Prelude.{replicate, if◌then◌else◌}
use Rattle.std.specs.List.{filter, flat_map, list_all, All}
use Rattle.std.proofs.lemmas.Bool.{and_parts, and_from}
use Rattle.std.proofs.lemmas.List.{length-replicate}
use Rattle.std.proofs.lemmas.List.Folds.{list_all-map}
use Rattle.std.proofs.lemmas.List.Elements.{filter_agree, All-map, All-filter, All-weaker, All-cons, All-nil}
use Rattle.pm_values.specs.declared.value.Value.TheVariants as value
use Rattle.pm_values.specs.declared.condition.Cond.{Cond}
use Rattle.pm_values.specs.Row.{Row}
use Rattle.pm_values.specs.Condition.{is_yes, keeps}
use Rattle.pm_plan.specs.Rows.{Db, table_rows, decls_of}
use Rattle.pm_plan.specs.Joins.{padded_row, or_padded}
use Rattle.pm_plan.specs.Kinds.{table_width}
use Rattle.pm_query.specs.declared.query.QuerySource.{QuerySource}
use Rattle.pm_query.specs.declared.query.Conjunct.{Conjunct}
use Rattle.pm_query.specs.declared.query.Query.{Query}
use Rattle.pm_query.specs.Answer.{meets, stands_in, conditions_in, combinations}
use Rattle.pm_query.specs.Columns.{within}
use Rattle.pm_query.specs.Bound.{AreJoined}
use Rattle.pm_query.specs.Build.{decls_in}
use Rattle.pm_answers.proofs.Lists.{filter-filter, filter-flat_map, filter-constant, flat_map-same, flat_map-filter, list_all-either, All-flat_map}
use Rattle.pm_answers.proofs.Conditions.{truth-stable}
use Rattle.pm_answers.proofs.Joins.{HasLength, conds_of, followed}

pub meets-conds : (row : Row) (conjuncts : List Conjunct) → meets (conds_of conjuncts) row ≡ list_all (λ conjunct. keeps conjunct.cond row) conjuncts
meets-conds row conjuncts = list_all-map (λ c. keeps c row) (λ conjunct. conjunct.cond) conjuncts

-- a test that does not change by what follows the first values of a row, so many
abbrev pub Stable : ℕ → (Row → Bool) → Type 0
Stable n test = (l r : Row) → n ≤ length l → test (l ++ r) ≡ test l

pub known-stable : (to : ℕ) (conds : List Cond) → list_all (within 0 to) conds ≡ true → Stable to (meets conds)
known-stable to [] known l r long = refl
known-stable to (c ∷ conds) known l r long =
    let parts = and_parts (within 0 to c) (list_all (within 0 to) conds) known in
    ap (λ t. is_yes t && meets conds (l ++ r)) (truth-stable 0 to l r long c parts.0)
    ∙ ap (λ t. keeps c l && t) (known-stable to conds parts.1 l r long)

-- a row, followed by so many values
abbrev Extends : Row → ℕ → Row → Type 0
Extends l width x = (r : Row) × (x ≡ l ++ r) × (length r ≡ width)

All-or_padded : (P : Row → Type 0) (width : ℕ) (l : Row) (rows : List Row) → P (padded_row width l) → All P rows → All P (or_padded width l rows)
All-or_padded P width l [] alone all = All-cons P (padded_row width l) [] alone (All-nil P)
All-or_padded P width l (row ∷ rows) alone all = all

abbrev pub AtLeast : ℕ → Row → Type 0
AtLeast n l = n ≤ length l

pub at-least : (n : ℕ) (rows : List Row) → All (HasLength n) rows → All (AtLeast n) rows
at-least n rows all = All-weaker (HasLength n) (AtLeast n) (λ l h. omega (arith, h)) rows all

-- it stands in the ON of one of these sources that is not after LEFT JOIN
abbrev pub is_inner : ℕ → List QuerySource → Conjunct → Bool
is_inner position [] conjunct = false
is_inner position (source ∷ sources) conjunct = (not source.left && stands_in (Some position) conjunct) || is_inner (position + 1) sources conjunct

module _ (query : Query) (db : Db) where
  abbrev pub on_of : ℕ → List Cond
  on_of position = conditions_in (Some position) query

  -- the rows of an entry after LEFT JOIN or not, where only the ON after LEFT JOIN is tested
  abbrev pub extended_by : Bool → ℕ → List Cond → Row → List Row
  extended_by left table on l = if left then or_padded (table_width (decls_of db) table) l (filter (meets on) (followed db table l)) else followed db table l

  abbrev pub loose : ℕ → List Row → List QuerySource → List Row
  loose position rows [] = rows
  loose position rows (source ∷ sources) = loose (position + 1) (flat_map (extended_by source.left source.table (on_of position)) rows) sources

  abbrev pub inner_conds : ℕ → List QuerySource → List Cond
  inner_conds position sources = conds_of (filter (is_inner position sources) query.conjuncts)

  module _ (declared : decls_of db ≡ decls_in query) (wide : (table : ℕ) → All (HasLength (table_width (decls_in query) table)) (table_rows db table)) where
    abbrev wide_of : ℕ → ℕ
    wide_of table = table_width (decls_in query) table

    extended-rows : (left : Bool) (table : ℕ) (on : List Cond) (l : Row) → All (Extends l (wide_of table)) (extended_by left table on l)
    extended-rows left table on l =
        let found : List Row = followed db table l in
        let all : All (Extends l (wide_of table)) found =
        All-map (Extends l (wide_of table)) (λ r. l ++ r) (table_rows db table) (All-weaker (HasLength (wide_of table)) (λ r. Extends l (wide_of table) (l ++ r)) (λ r h. (r, refl, h)) (table_rows db table) (wide table)) in
        let nulls : Row = replicate (table_width (decls_of db) table) value.Null in
        elim left as (λ t. All (Extends l (wide_of table)) (extended_by t table on l)) [
          | true ↦
              All-or_padded (Extends l (wide_of table)) (table_width (decls_of db) table) l (filter (meets on) found)
              (nulls, refl, length-replicate (table_width (decls_of db) table) value.Null ∙ ap (λ decls. table_width decls table) declared)
              (All-filter (meets on) (Extends l (wide_of table)) found all)
          | false ↦ all
        ]

    pub step-lengths : (left : Bool) (table : ℕ) (on : List Cond) (from : ℕ) (rows : List Row) → All (HasLength from) rows
        → All (HasLength (from + wide_of table)) (flat_map (extended_by left table on) rows)
    step-lengths left table on from rows long =
        All-flat_map (HasLength from) (HasLength (from + wide_of table)) (extended_by left table on)
        (λ l h. All-weaker (Extends l (wide_of table)) (HasLength (from + wide_of table))
        (λ x g. ap length g.1 ∙ length-append l g.0 ∙ omega (arith, g.2, h)) (extended_by left table on l) (extended-rows left table on l))
        rows long

    step-longer : (left : Bool) (table : ℕ) (on : List Cond) (n : ℕ) (rows : List Row) → All (AtLeast n) rows → All (AtLeast n) (flat_map (extended_by left table on) rows)
    step-longer left table on n rows long =
        All-flat_map (AtLeast n) (AtLeast n) (extended_by left table on)
        (λ l h. All-weaker (Extends l (wide_of table)) (AtLeast n)
        (λ x g. let e : length x ≡ length l + length g.0 = ap length g.1 ∙ length-append l g.0 in omega (arith, e, h)) (extended_by left table on l) (extended-rows left table on l))
        rows long

    -- such a test may come before an entry or after it
    step-filter : (left : Bool) (table : ℕ) (on : List Cond) (n : ℕ) (test : Row → Bool) (rows : List Row) → Stable n test → All (AtLeast n) rows
        → flat_map (extended_by left table on) (filter test rows) ≡ filter test (flat_map (extended_by left table on) rows)
    step-filter left table on n test rows stable long =
        let entry : Row → List Row = extended_by left table on in
        flat_map-filter entry test rows
        ∙ flat_map-same (AtLeast n) (λ l. cond (test l) (entry l) []) (λ l. filter test (entry l))
        (λ l h. sym (filter-constant test (test l) (entry l)
        (All-weaker (Extends l (wide_of table)) (λ x. test x ≡ test l) (λ x g. ap test g.1 ∙ stable l g.0 h) (entry l) (extended-rows left table on l)))) rows long
        ∙ sym (filter-flat_map test entry rows)

    pub loose-filter : (n : ℕ) (test : Row → Bool) (sources : List QuerySource) (position : ℕ) (rows : List Row) → Stable n test → All (AtLeast n) rows
        → loose position (filter test rows) sources ≡ filter test (loose position rows sources)
    loose-filter n test [] position rows stable long = refl
    loose-filter n test (source ∷ sources) position rows stable long =
        ap (λ x. loose (position + 1) x sources) (step-filter source.left source.table (on_of position) n test rows stable long)
        ∙ loose-filter n test sources (position + 1) (flat_map (extended_by source.left source.table (on_of position)) rows) stable (step-longer source.left source.table (on_of position) n rows long)

    -- the conditions of an ON read columns up to its source
    on-within : (on : Conjunct → Bool) (to : ℕ) (conjuncts : List Conjunct) → list_all (λ conjunct. not (on conjunct) || within 0 to conjunct.cond) conjuncts ≡ true
        → list_all (within 0 to) (conds_of (filter on conjuncts)) ≡ true
    on-within on to [] all = refl
    on-within on to (c ∷ conjuncts) all =
        let parts = and_parts (not (on c) || within 0 to c.cond) (list_all (λ conjunct. not (on conjunct) || within 0 to conjunct.cond) conjuncts) all in
        elim (on c) as (λ t. (not t || within 0 to c.cond) ≡ true → list_all (within 0 to) (conds_of (cond t (c ∷ filter on conjuncts) (filter on conjuncts))) ≡ true) [
          | true ↦ λ h. and_from (within 0 to c.cond) (list_all (within 0 to) (conds_of (filter on conjuncts))) h (on-within on to conjuncts parts.1)
          | false ↦ λ h. on-within on to conjuncts parts.1
        ]
        parts.0

    -- each other ON may be tested at the end
    pub combinations-loose : (sources : List QuerySource) (position from : ℕ) (rows : List Row) → AreJoined query sources position from → All (HasLength from) rows
        → combinations query db position rows sources ≡ filter (meets (inner_conds position sources)) (loose position rows sources)
    combinations-loose [] position from rows joined long = sym (filter-constant (meets (conds_of (filter (λ c. false) query.conjuncts))) true rows (none rows))
      where
        nothing : (conjuncts : List Conjunct) (row : Row) → meets (conds_of (filter (λ c. false) conjuncts)) row ≡ true
        nothing [] row = refl
        nothing (c ∷ conjuncts) row = nothing conjuncts row

        none : (rows : List Row) → All (λ row. meets (conds_of (filter (λ c. false) query.conjuncts)) row ≡ true) rows
        none [] = All-nil (λ row. meets (conds_of (filter (λ c. false) query.conjuncts)) row ≡ true)
        none (row ∷ rows) = All-cons (λ row. meets (conds_of (filter (λ c. false) query.conjuncts)) row ≡ true) row rows (nothing query.conjuncts row) (none rows)
    combinations-loose (source ∷ sources) position from rows joined long =
        let table : ℕ = source.table in
        let to : ℕ = from + wide_of table in
        let on : List Cond = on_of position in
        let stands : Conjunct → Bool = stands_in (Some position) in
        let inner : Conjunct → Bool = is_inner (position + 1) sources in
        let later : Row → Bool = meets (inner_conds (position + 1) sources) in
        let all : (t : Bool) → All (HasLength to) (flat_map (extended_by t table on) rows) = λ t. step-lengths t table on from rows long in
        let after_left : List Row = flat_map (extended_by true table on) rows in
        let plain : List Row = flat_map (extended_by false table on) rows in
        let found : Row → List Row = λ l. filter (meets on) (followed db table l) in
        elim source.left as (λ t. combinations query db (position + 1) (flat_map (λ l. cond t (or_padded (table_width (decls_of db) table) l (found l)) (found l)) rows) sources
        ≡ filter (meets (conds_of (filter (λ c. (not t && stands c) || inner c) query.conjuncts))) (loose (position + 1) (flat_map (extended_by t table on) rows) sources)) [
          | true ↦ combinations-loose sources (position + 1) to after_left joined.1 (all true)
          | false ↦
              ap (λ x. combinations query db (position + 1) x sources) (sym (filter-flat_map (meets on) (followed db table) rows))
              ∙ combinations-loose sources (position + 1) to (filter (meets on) plain) joined.1 (All-filter (meets on) (HasLength to) plain (all false))
              ∙ ap (filter later) (loose-filter to (meets on) sources (position + 1) plain (known-stable to on (on-within stands to query.conjuncts joined.0.known)) (at-least to plain (all false)))
              ∙ filter-filter later (meets on) (loose (position + 1) plain sources)
              ∙ filter_agree (λ x. meets on x && later x) (meets (conds_of (filter (λ c. stands c || inner c) query.conjuncts)))
              (λ x.
              ap (λ t. t && later x) (meets-conds x (filter stands query.conjuncts))
              ∙ ap (λ t. list_all (λ c. keeps c.cond x) (filter stands query.conjuncts) && t) (meets-conds x (filter inner query.conjuncts))
              ∙ sym (list_all-either (λ c. keeps c.cond x) stands inner query.conjuncts)
              ∙ sym (meets-conds x (filter (λ c. stands c || inner c) query.conjuncts)))
              (loose (position + 1) plain sources)
        ]
