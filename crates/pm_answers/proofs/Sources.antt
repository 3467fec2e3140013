-- the rows of the joined sources are the combinations that meet the conditions
use Rattle.std.proofs.Common.{◌≡◌, ℕ, ◌+◌, ◌≤◌, Bool, true, false, cond, not, ◌&&◌, ◌||◌, List, [], ◌∷◌, refl, sym, ap, subst, ◌∙◌, arith, Some}
use Rattle.std.specs.Prelude.{slice_get}
use Rattle.std.specs.List.{filter, flat_map, list_all, All}
use Rattle.std.proofs.lemmas.Bool.{and_parts, and_from, or_from, false_from_ne_true, false≢true}
use Rattle.std.proofs.lemmas.List.Elements.{filter_agree, All-filter, All-same}
use Rattle.pm_values.specs.declared.condition.Cond.{Cond}
use Rattle.pm_values.specs.Row.{Row}
use Rattle.pm_values.specs.Condition.{keeps}
use Rattle.pm_values.specs.Table.{Declaration}
use Rattle.pm_plan.specs.declared.plan.Pair.{Pair}
use Rattle.pm_plan.specs.Rows.{Db, table_rows, decls_of}
use Rattle.pm_plan.specs.Kinds.{table_width}
use Rattle.pm_plan.specs.Tree.{Tree}
use Rattle.pm_plan.specs.Outputs.{output}
use Rattle.pm_work.specs.First.{Sizes}
use Rattle.pm_query.specs.declared.query.QuerySource.{QuerySource}
use Rattle.pm_query.specs.declared.query.Conjunct.{Conjunct}
use Rattle.pm_query.specs.declared.query.Query.{Query}
use Rattle.pm_query.specs.declared.query.Choice.{Choice}
use Rattle.pm_query.specs.Answer.{meets, stands_in}
use Rattle.pm_query.specs.Pairs.{may_take, takes, own_conditions, pairs_of}
use Rattle.pm_query.specs.Build.{Way, ByHash, decls_in, joined, joins, way_of, is_small}
use Rattle.pm_query.specs.Bound.{differ}
use Rattle.pm_answers.proofs.Lists.{and-comm, filter-all, filter-filter, filter-map, filter-same, list_all-kept, list_all-weaker, list_all-split}
use Rattle.pm_answers.proofs.Taken.{is_taken, taken-stable, taken_once}
use Rattle.pm_answers.proofs.Merges.{WayFits, way-fits}
use Rattle.pm_answers.proofs.Joins.{HasLength, conds_of, pairs_in, pairs_of-conds, joined-rows, padded-rows, output-conjunction}
use Rattle.pm_answers.proofs.Entries.{meets-conds, at-least, on_of, extended_by, loose, step-lengths, loose-filter}

-- ---- conjuncts and sources

-- it stands in the ON of one of these sources that is after LEFT JOIN
abbrev pub is_padded : ℕ → List QuerySource → Conjunct → Bool
is_padded position [] conjunct = false
is_padded position (source ∷ sources) conjunct = (source.left && stands_in (Some position) conjunct) || is_padded (position + 1) sources conjunct

abbrev pub is_free : ℕ → List QuerySource → Conjunct → Bool
is_free position sources conjunct = not (is_padded position sources conjunct)

implied : (b t : Bool) → (not b || t) ≡ true → b ≡ true → t ≡ true
implied true t h e = h
implied false t h e = absurd (false≢true e)

absorbed : (a b : Bool) → ((a || b) && b) ≡ b
absorbed true b = refl
absorbed false true = refl
absorbed false false = refl

absorbed_left : (a b : Bool) → ((a || b) && a) ≡ a
absorbed_left true b = refl
absorbed_left false true = refl
absorbed_left false false = refl

neither : (a b : Bool) → (not a && not b) ≡ not (a || b)
neither true b = refl
neither false b = refl

pub taken_if : (left : Bool) (position from to : ℕ) (c : Conjunct) → takes left position from to c ≡ true → is_taken from to c.cond ≡ true
taken_if left position from to c h = (and_parts (may_take left position c) (is_taken from to c.cond) h).1

module _ (decls : List Declaration) where
  -- each condition of an ON after LEFT JOIN is taken by its source
  abbrev pub on_taken : ℕ → ℕ → List QuerySource → Conjunct → Bool
  on_taken position from [] conjunct = true
  on_taken position from (source ∷ sources) conjunct =
      let to = from + table_width decls source.table in
      (not (source.left && stands_in (Some position) conjunct) || takes source.left position from to conjunct) && on_taken (position + 1) to sources conjunct

  -- what an earlier source takes stands in none of these ONs
  pub none_padded : (sources : List QuerySource) (position start : ℕ) (conjunct : Conjunct) (from to : ℕ) → from ≤ to → to ≤ start
      → is_taken from to conjunct.cond ≡ true → on_taken position start sources conjunct ≡ true → is_padded position sources conjunct ≡ false
  none_padded [] position start conjunct from to order apart taken on = refl
  none_padded (source ∷ sources) position start conjunct from to order apart taken on =
      let end : ℕ = start + table_width decls source.table in
      let stands : Bool = source.left && stands_in (Some position) conjunct in
      let parts = and_parts (not stands || takes source.left position start end conjunct) (on_taken (position + 1) end sources conjunct) on in
      or_from stands (is_padded (position + 1) sources conjunct)
      (false_from_ne_true stands (λ here.
      false≢true (sym (taken_once from to start end order apart conjunct.cond taken)
      ∙ taken_if source.left position start end conjunct (implied stands (takes source.left position start end conjunct) parts.0 here))))
      (none_padded sources (position + 1) end conjunct from to order (omega arith) taken parts.1)

-- ---- one more source

module _ (query : Query) (db : Db) (declared : decls_of db ≡ decls_in query) (wide : (table : ℕ) → All (HasLength (table_width (decls_in query) table)) (table_rows db table))
    (c : Choice) (sizes : Sizes) (first : List ℕ) (once : differ first ≡ true) where
  abbrev wide_of : ℕ → ℕ
  wide_of table = table_width (decls_in query) table

  abbrev each_taken : ℕ → ℕ → List QuerySource → Conjunct → Bool
  each_taken = on_taken (decls_in query)

  abbrev loose_rows : ℕ → List Row → List QuerySource → List Row
  loose_rows = loose query db

  -- of the conditions that are left, those of the ONs after LEFT JOIN are the query's
  abbrev Stay : (Conjunct → Bool) → List Conjunct → Type 0
  Stay padded conjuncts = filter padded conjuncts ≡ filter padded query.conjuncts

  abbrev AreRows : ℕ → ℕ → List QuerySource → Tree → List Conjunct → Type 0
  AreRows position from sources left conjuncts =
      output db (joins c (decls_in query) sizes first left position from conjuncts sources)
      ≡ filter (meets (conds_of (filter (is_free position sources) conjuncts))) (loose_rows position (output db left) sources)

  -- what is taken at the sources before these, of which the last one has this position and these columns
  module _ (sources : List QuerySource) (position from to : ℕ) (order : from ≤ to) (conjuncts : List Conjunct) where
    abbrev pub rest : Bool → List Conjunct
    rest t = filter (λ conjunct. not (takes t position from to conjunct)) conjuncts

    abbrev pub later : Conjunct → Bool
    later = is_padded (position + 1) sources

    abbrev pub padded : Bool → Conjunct → Bool
    padded t conjunct = (t && stands_in (Some position) conjunct) || later conjunct

    abbrev pub fits : Bool → Conjunct → Bool
    fits t conjunct = (not (t && stands_in (Some position) conjunct) || takes t position from to conjunct) && each_taken (position + 1) to sources conjunct

    fits_here : (t : Bool) (x : Conjunct) → fits t x ≡ true → (not (t && stands_in (Some position) x) || takes t position from to x) ≡ true
    fits_here t x h = (and_parts (not (t && stands_in (Some position) x) || takes t position from to x) (each_taken (position + 1) to sources x) h).0

    -- what is taken stands in no later ON after LEFT JOIN
    taken_not_later : (t : Bool) (x : Conjunct) → fits t x ≡ true → takes t position from to x ≡ true → later x ≡ false
    taken_not_later t x h e =
        none_padded (decls_in query) sources (position + 1) to x from to order (omega arith) (taken_if t position from to x e)
        (and_parts (not (t && stands_in (Some position) x) || takes t position from to x) (each_taken (position + 1) to sources x) h).1

    module _ (t : Bool) (taken : list_all (fits t) conjuncts ≡ true) (stay : Stay (padded t) conjuncts) where
      pub later_taken : list_all (each_taken (position + 1) to sources) (rest t) ≡ true
      later_taken =
          list_all-kept (each_taken (position + 1) to sources) (λ conjunct. not (takes t position from to conjunct)) conjuncts
          (list_all-weaker (fits t) (each_taken (position + 1) to sources)
          (λ x h. (and_parts (not (t && stands_in (Some position) x) || takes t position from to x) (each_taken (position + 1) to sources x) h).1) conjuncts taken)

      still_later : (x : Conjunct) → fits t x ≡ true → (not (takes t position from to x) && later x) ≡ later x
      still_later x h =
          elim (takes t position from to x) as (λ b. (takes t position from to x ≡ b) → (not b && later x) ≡ later x)
          [ true ↦ λ e. sym (taken_not_later t x h e) | false ↦ λ e. refl ]
          refl

      within_padded : (xs : List Conjunct) → filter later (filter (padded t) xs) ≡ filter later xs
      within_padded xs = filter-filter later (padded t) xs ∙ filter_agree (λ x. padded t x && later x) later (λ x. absorbed (t && stands_in (Some position) x) (later x)) xs

      pub later_stay : Stay later (rest t)
      later_stay =
          filter-filter later (λ x. not (takes t position from to x)) conjuncts
          ∙ filter-same (fits t) (λ x. not (takes t position from to x) && later x) later still_later conjuncts taken
          ∙ sym (within_padded conjuncts)
          ∙ ap (filter later) stay
          ∙ within_padded query.conjuncts

    -- by a plain source
    abbrev takes_now : Conjunct → Bool
    takes_now = takes false position from to

    abbrev pub now : Row → Bool
    now = meets (filter (is_taken from to) (conds_of conjuncts))

    taken_free : (y : Conjunct) → fits false y ≡ true → (not (later y) && takes_now y) ≡ takes_now y
    taken_free y h =
        elim (takes_now y) as (λ b. (takes_now y ≡ b) → (not (later y) && b) ≡ b) [
          | true ↦ λ e. ap (λ b. not b && true) (taken_not_later false y h e)
          | false ↦ λ e. elim (later y) as (λ b. (not b && false) ≡ false) [ true ↦ refl | false ↦ refl ]
        ]
        refl

    both_tests : list_all (fits false) conjuncts ≡ true → (x : Row)
        → (now x && meets (conds_of (filter (λ y. not (later y)) (rest false))) x) ≡ meets (conds_of (filter (λ y. not (later y)) conjuncts)) x
    both_tests taken x =
        let k : Conjunct → Bool = λ y. keeps y.cond x in
        let free : Conjunct → Bool = λ y. not (later y) in
        let untaken : Conjunct → Bool = λ y. not (takes_now y) in
        let here : filter takes_now conjuncts ≡ filter takes_now (filter free conjuncts) =
        sym (filter-filter takes_now free conjuncts ∙ filter-same (fits false) (λ y. free y && takes_now y) takes_now taken_free conjuncts taken) in
        let there : filter free (rest false) ≡ filter untaken (filter free conjuncts) =
        filter-filter free untaken conjuncts ∙ filter_agree (λ y. untaken y && free y) (λ y. free y && untaken y) (λ y. and-comm (untaken y) (free y)) conjuncts ∙ sym (filter-filter untaken free conjuncts) in
        ap (λ cs. meets cs x && meets (conds_of (filter free (rest false))) x) (filter-map (is_taken from to) (λ conjunct. conjunct.cond) conjuncts)
        ∙ ap (λ t. t && meets (conds_of (filter free (rest false))) x) (meets-conds x (filter takes_now conjuncts))
        ∙ ap (λ t. list_all k (filter takes_now conjuncts) && t) (meets-conds x (filter free (rest false)))
        ∙ ap (λ ys. list_all k ys && list_all k (filter free (rest false))) here
        ∙ ap (λ ys. list_all k (filter takes_now (filter free conjuncts)) && list_all k ys) there
        ∙ sym (list_all-split k takes_now (filter free conjuncts))
        ∙ sym (meets-conds x (filter free conjuncts))

    -- what it takes may be tested before the further sources
    pub tested_early : list_all (fits false) conjuncts ≡ true → (rows : List Row) → All (HasLength to) rows
        → filter (meets (conds_of (filter (λ y. not (later y)) (rest false)))) (loose_rows (position + 1) (filter now rows) sources)
        ≡ filter (meets (conds_of (filter (λ y. not (later y)) conjuncts))) (loose_rows (position + 1) rows sources)
    tested_early taken rows long =
        let after : Row → Bool = meets (conds_of (filter (λ y. not (later y)) (rest false))) in
        ap (filter after) (loose-filter query db declared wide to now sources (position + 1) rows (λ l r e. taken-stable from to order l r e (conds_of conjuncts)) (at-least to rows long))
        ∙ filter-filter after now (loose_rows (position + 1) rows sources)
        ∙ filter_agree (λ x. now x && after x) (meets (conds_of (filter (λ y. not (later y)) conjuncts))) (both_tests taken) (loose_rows (position + 1) rows sources)

    -- by a source after LEFT JOIN
    abbrev stands : Conjunct → Bool
    stands = stands_in (Some position)

    on-is : Stay (padded true) conjuncts → conds_of (filter stands conjuncts) ≡ on_of query db position
    on-is stay =
        let within : (xs : List Conjunct) → filter stands (filter (padded true) xs) ≡ filter stands xs =
        λ xs. filter-filter stands (padded true) xs ∙ filter_agree (λ x. padded true x && stands x) stands (λ x. absorbed_left (stands x) (later x)) xs in
        ap conds_of (sym (within conjuncts) ∙ ap (filter stands) stay ∙ within query.conjuncts)

    on_all_taken : (xs : List Conjunct) → list_all (fits true) xs ≡ true → list_all (is_taken from to) (conds_of (filter stands xs)) ≡ true
    on_all_taken [] h = refl
    on_all_taken (x ∷ xs) h =
        let parts = and_parts (fits true x) (list_all (fits true) xs) h in
        elim (stands x) as (λ b. (stands x ≡ b) → list_all (is_taken from to) (conds_of (cond b (x ∷ filter stands xs) (filter stands xs))) ≡ true) [
          | true ↦ λ e.
              and_from (is_taken from to x.cond) (list_all (is_taken from to) (conds_of (filter stands xs)))
              (taken_if true position from to x (implied (stands x) (takes true position from to x) (fits_here true x parts.0) e)) (on_all_taken xs parts.1)
          | false ↦ λ e. on_all_taken xs parts.1
        ]
        refl

    free_left : list_all (fits true) conjuncts ≡ true → filter (λ x. not (later x)) (rest true) ≡ filter (λ x. not (padded true x)) conjuncts
    free_left taken =
        filter-filter (λ x. not (later x)) (λ x. not (takes true position from to x)) conjuncts
        ∙ filter-same (fits true) (λ x. not (takes true position from to x) && not (later x)) (λ x. not (padded true x))
        (λ x h. ap (λ b. not b && not (later x)) (takes_all (stands x) (is_taken from to x.cond) (fits_here true x h)) ∙ neither (stands x) (later x)) conjuncts taken
      where
        takes_all : (s k : Bool) → (not s || (s && k)) ≡ true → (s && k) ≡ s
        takes_all true k h = h
        takes_all false k h = refl

    -- the source's join
    module _ (source : QuerySource) (ends : to ≡ from + wide_of source.table) (left : Tree) (long : All (HasLength from) (output db left)) where
      abbrev next : Bool → Tree
      next t =
          joined (way_of c t first (slice_get (decls_in query) source.table) (pairs_of t position from to conjuncts) (is_small sizes left source)) (decls_in query) left source from
          (own_conditions t position from to conjuncts) (pairs_of t position from to conjuncts)

      abbrev rows : Bool → List Row
      rows t = flat_map (extended_by query db t source.table (on_of query db position)) (output db left)

      lengths : (t : Bool) → All (HasLength to) (rows t)
      lengths t = subst (λ n. All (HasLength n) (rows t)) (sym ends) (step-lengths query db declared wide t source.table (on_of query db position) from (output db left) long)

      next-rows : output db (next false) ≡ filter now (rows false)
      next-rows =
          let kept : List Conjunct = filter (may_take false position) conjuncts in
          let pairs : List Pair = pairs_of false position from to conjuncts in
          let same : pairs ≡ pairs_in from to (conds_of kept) = pairs_of-conds false position from to conjuncts in
          let way : Way = way_of c false first (slice_get (decls_in query) source.table) pairs (is_small sizes left source) in
          let way_is : WayFits way pairs = way-fits c first (slice_get (decls_in query) source.table) pairs (is_small sizes left source) once in
          ap (λ ps. output db (joined way (decls_in query) left source from (own_conditions false position from to conjuncts) ps)) same
          ∙ joined-rows db from to (conds_of kept) (decls_in query) left source long way (subst (WayFits way) same way_is)
          ∙ ap (λ xs. filter (meets (filter (is_taken from to) (conds_of xs))) (rows false)) (filter-all conjuncts)

      padded_next : list_all (fits true) conjuncts ≡ true → Stay (padded true) conjuncts → output db (next true) ≡ rows true
      padded_next taken stay =
          let on : List Cond = conds_of (filter stands conjuncts) in
          ap (λ ps. output db (joined (ByHash true) (decls_in query) left source from (own_conditions true position from to conjuncts) ps)) (pairs_of-conds true position from to conjuncts)
          ∙ padded-rows db from to on (decls_in query) left source long (on_all_taken conjuncts taken)
          ∙ ap (λ cs. flat_map (extended_by query db true source.table cs) (output db left)) (on-is stay)

      -- with the rows of the further sources
      module _ (further : (tree : Tree) (rest : List Conjunct) → list_all (each_taken (position + 1) to sources) rest ≡ true → Stay later rest
          → All (HasLength to) (output db tree) → AreRows (position + 1) to sources tree rest) where
        step : (t : Bool) → list_all (fits t) conjuncts ≡ true → Stay (padded t) conjuncts
            → output db (joins c (decls_in query) sizes first (next t) (position + 1) to (rest t) sources)
            ≡ filter (meets (conds_of (filter (λ x. not (padded t x)) conjuncts))) (loose_rows (position + 1) (rows t) sources)
        step true taken stay =
            further (next true) (rest true) (later_taken true taken stay) (later_stay true taken stay)
            (All-same (HasLength to) (output db (next true)) (rows true) (padded_next taken stay) (lengths true))
            ∙ ap (λ x. filter (meets (conds_of (filter (λ y. not (later y)) (rest true)))) (loose_rows (position + 1) x sources)) (padded_next taken stay)
            ∙ ap (λ xs. filter (meets (conds_of xs)) (loose_rows (position + 1) (rows true) sources)) (free_left taken)
        step false taken stay =
            further (next false) (rest false) (later_taken false taken stay) (later_stay false taken stay)
            (All-same (HasLength to) (output db (next false)) (filter now (rows false)) next-rows (All-filter now (HasLength to) (rows false) (lengths false)))
            ∙ ap (λ x. filter (meets (conds_of (filter (λ y. not (later y)) (rest false)))) (loose_rows (position + 1) x sources)) next-rows
            ∙ tested_early taken (rows false) (lengths false)

  pub joins-rows : (sources : List QuerySource) (position from : ℕ) (left : Tree) (conjuncts : List Conjunct)
      → list_all (each_taken position from sources) conjuncts ≡ true → Stay (is_padded position sources) conjuncts → All (HasLength from) (output db left) → AreRows position from sources left conjuncts
  joins-rows [] position from left conjuncts taken stay long =
      output-conjunction db (conds_of conjuncts) left ∙ ap (λ xs. filter (meets (conds_of xs)) (output db left)) (sym (filter-all conjuncts))
  joins-rows (source ∷ sources) position from left conjuncts taken stay long =
      step sources position from (from + wide_of source.table) (omega arith) conjuncts source refl left long
      (λ tree rest on same wide_rows. joins-rows sources (position + 1) (from + wide_of source.table) tree rest on same wide_rows) source.left taken stay
