-- the tree of all sources keeps the rules of a valid plan
use Rattle.std.proofs.Common.{◌≡◌, ◌∙◌, ℕ, ◌+◌, ◌*◌, ◌<◌, ◌≤◌, ◌^◌, Bool, true, false, cond, not, ◌&&◌, List, [], ◌∷◌, ◌++◌, length, map, take, filter, refl, sym, ap, subst, arith, Option, None, Some, length-append, append_assoc}
use Rattle.std.specs.Prelude.{◌≢◌, slice_get, nat_eq, nat_lt, is_some}
use Rattle.std.specs.List.{list_all, flat_map, filter_map, cons_option}
use Rattle.std.proofs.lemmas.Bool.{and_parts, or_parts, eqb-true, ltb-true, not-false, true≢false}
use Rattle.std.proofs.lemmas.Nat.{mul-le}
use Rattle.std.proofs.lemmas.List.{length-map, append-nil, nil_from_length}
use Rattle.std.proofs.lemmas.List.Folds.{list_all-map}
use Rattle.pm_values.specs.declared.value.Kind.{Kind}
use Rattle.pm_values.specs.declared.condition.Cond.{Cond}
use Rattle.pm_values.specs.Table.{Declaration}
use Rattle.pm_values.specs.Keys.{once}
use Rattle.pm_plan.specs.declared.plan.Pair.{Pair}
use Rattle.pm_plan.specs.Joins.{left_columns, right_columns}
use Rattle.pm_plan.specs.Tree.{Hash, Merge, Tree}
use Rattle.pm_plan.specs.Kinds.{table_kinds, table_width, columns_of, kind_at, same_kind, condition_fits, pair_fits}
use Rattle.pm_plan.specs.Unique.{key_of, key_within}
use Rattle.pm_plan.specs.References.{paired, same_pair, pairs_within}
use Rattle.pm_plan.specs.Valid.{PairsFit, order_of}
use Rattle.pm_work.specs.First.{Sizes}
use Rattle.pm_query.specs.declared.query.QuerySource.{QuerySource}
use Rattle.pm_query.specs.declared.query.Conjunct.{Conjunct}
use Rattle.pm_query.specs.declared.query.Query.{Query}
use Rattle.pm_query.specs.declared.query.Choice.{Choice}
use Rattle.pm_query.specs.declared.query.Choice.TheVariants as choice
use Rattle.pm_query.specs.Pairs.{is_own, pair_of, may_take, takes, own_conditions, pairs_of}
use Rattle.pm_query.specs.Columns.{shift_columns, conjunction}
use Rattle.pm_query.specs.Bound.{AreJoined, source_kinds}
use Rattle.pm_query.specs.Build.{Way, ByHash, ByMerge, ByIndex, decls_in, scan_of, filtered, joined, joins, merge_pairs, by_merge_or, by_index_if, way_of, is_small}
use Rattle.pm_answers.proofs.Lists.{list_all-kept, list_all-weaker}
use Rattle.pm_answers.proofs.Members.{pair-same, members-pass, once-distinct}
use Rattle.pm_answers.proofs.Counting.{few-pairs}
use Rattle.pm_answers.proofs.Taken.{taken_once}
use Rattle.pm_answers.proofs.Joins.{conds_of, pairs_in, pairs_of-conds}
use Rattle.pm_answers.proofs.Sources.{taken_if}
use Rattle.pm_answers.proofs.FittingParts.{fits-rest, fits-front, own-fits, pairs-fit, conjunction-fits}
use Rattle.pm_answers.proofs.ValidJoins.{Stands, lefts-paired, rights-paired, stands-scan, stands-filtered, source-filtered, stands-join, stands-index}

-- ---- the pairs of a merge join

pub record AreOrdered (ordered : List Pair) (first second : List ℕ) (pairs : List Pair) : Type 0 where
  pub many : length ordered ≡ length pairs
  pub within : pairs_within ordered pairs ≡ true
  pub lefts : left_columns ordered ≡ take (length ordered) first
  pub rights : right_columns ordered ≡ take (length ordered) second

abbrev OrderedIf : Option (List Pair) → List ℕ → List ℕ → List Pair → Type 0
OrderedIf None first second pairs = Unit {0}
OrderedIf (Some ordered) first second pairs = AreOrdered ordered first second pairs

abbrev pub WayOrdered : Way → List ℕ → List ℕ → List Pair → Type 0
WayOrdered (ByHash pad) first second pairs = Unit {0}
WayOrdered (ByMerge ordered) first second pairs = AreOrdered ordered first second pairs
WayOrdered ByIndex first second pairs = Unit {0}

merge_pairs-ordered : (first second : List ℕ) (pairs : List Pair) → OrderedIf (merge_pairs first second pairs) first second pairs
merge_pairs-ordered first second pairs =
    let ordered : List Pair = take (length pairs) (paired first second) in
    let tests : Bool = nat_eq (length ordered) (length pairs) && pairs_within ordered pairs in
    let some : Option (List Pair) = Some ordered in
    elim tests as (λ t. (tests ≡ t) → OrderedIf (cond t some None) first second pairs) [
      | true ↦ λ h.
          let parts = and_parts (nat_eq (length ordered) (length pairs)) (pairs_within ordered pairs) h in
          let long : length ordered ≡ length pairs = eqb-true (length ordered) (length pairs) parts.0 in
          record {
            many = long;
            within = parts.1;
            lefts = lefts-paired (length pairs) first second long ∙ ap (λ n. take n first) (sym long);
            rights = rights-paired (length pairs) first second long ∙ ap (λ n. take n second) (sym long);
          }
      | false ↦ λ h. tt
    ]
    refl

by_merge_or-ordered : (o : Option (List Pair)) (way : Way) (first second : List ℕ) (pairs : List Pair) → OrderedIf o first second pairs → WayOrdered way first second pairs → WayOrdered (by_merge_or o way) first second pairs
by_merge_or-ordered None way first second pairs f g = g
by_merge_or-ordered (Some ordered) way first second pairs f g = f

by_index_if-ordered : (b : Bool) (first second : List ℕ) (pairs : List Pair) → WayOrdered (by_index_if b) first second pairs
by_index_if-ordered true first second pairs = tt
by_index_if-ordered false first second pairs = tt

way-ordered : (c : Choice) (left : Bool) (first : List ℕ) (decl : Option Declaration) (pairs : List Pair) (is_small : Bool) → WayOrdered (way_of c left first decl pairs is_small) first (order_of decl) pairs
way-ordered c true first decl pairs is_small = tt
way-ordered choice.Auto false first decl pairs is_small =
    by_merge_or-ordered (merge_pairs first (order_of decl) pairs) (by_index_if (key_within (right_columns pairs) (key_of decl) && is_small)) first (order_of decl) pairs
    (merge_pairs-ordered first (order_of decl) pairs) (by_index_if-ordered (key_within (right_columns pairs) (key_of decl) && is_small) first (order_of decl) pairs)
way-ordered choice.Hash false first decl pairs is_small = tt
way-ordered choice.Merge false first decl pairs is_small =
    by_merge_or-ordered (merge_pairs first (order_of decl) pairs) (ByHash false) first (order_of decl) pairs (merge_pairs-ordered first (order_of decl) pairs) tt
way-ordered choice.Index false first decl pairs is_small = tt

-- ---- one more source

module _ (query : Query) (short : length (source_kinds query) ≤ 512) (c : Choice) (sizes : Sizes) (table : ℕ) where
  abbrev decls : List Declaration
  decls = decls_in query

  abbrev first : List ℕ
  first = order_of (slice_get decls table)

  abbrev conjunct_fits : Conjunct → Bool
  conjunct_fits x = condition_fits (source_kinds query) x.cond

  module _ (source : QuerySource) (low : source.table < length decls) (position from : ℕ) (left : Tree) (lefts more : List Kind) (count : ℕ)
      (s : Stands decls left lefts table count) (begins : length lefts ≡ from) (is : lefts ++ (table_kinds decls source.table ++ more) ≡ source_kinds query)
      (conjuncts : List Conjunct) (fit : list_all conjunct_fits conjuncts ≡ true)
      (some : pairs_of source.left position from (from + table_width decls source.table) conjuncts ≢ []) where
    abbrev rights : List Kind
    rights = table_kinds decls source.table

    abbrev to : ℕ
    to = from + table_width decls source.table

    abbrev kept : List Cond
    kept = conds_of (filter (may_take source.left position) conjuncts)

    abbrev owns : List Cond
    owns = own_conditions source.left position from to conjuncts

    abbrev pairs : List Pair
    pairs = pairs_of source.left position from to conjuncts

    ends : from + length rights ≡ to
    ends = ap (λ n. from + n) (length-map (columns_of decls source.table) (λ column. column.kind))

    long : length (source_kinds query) ≡ length lefts + length rights + length more
    long = ap length (sym is) ∙ length-append lefts (rights ++ more) ∙ ap (λ n. length lefts + n) (length-append rights more) ∙ omega arith

    narrow : length (lefts ++ rights) < 2 ^ 32
    narrow = let both : length (lefts ++ rights) ≡ length lefts + length rights = length-append lefts rights in omega (arith, both, long, short)

    kept_fit : list_all (condition_fits (lefts ++ (rights ++ more))) kept ≡ true
    kept_fit =
        ap (λ kinds. list_all (condition_fits kinds) kept) is
        ∙ list_all-map (condition_fits (source_kinds query)) (λ x. x.cond) (filter (may_take source.left position) conjuncts)
        ∙ list_all-kept conjunct_fits (may_take source.left position) conjuncts fit

    pairs_is : pairs ≡ pairs_in from to kept
    pairs_is = pairs_of-conds source.left position from to conjuncts

    all_fit : list_all (pair_fits lefts rights) pairs ≡ true
    all_fit = ap (list_all (pair_fits lefts rights)) pairs_is ∙ pairs-fit lefts rights more from to begins ends kept kept_fit

    few : length pairs < 2 ^ 32
    few =
        let in_range : list_all (λ p. nat_lt p.left (length lefts) && nat_lt p.right (length rights)) pairs ≡ true =
        list_all-weaker (pair_fits lefts rights) (λ p. nat_lt p.left (length lefts) && nat_lt p.right (length rights))
        (λ p h. (and_parts (nat_lt p.left (length lefts) && nat_lt p.right (length rights)) (same_kind (kind_at lefts p.left) (kind_at rights p.right)) h).0) pairs all_fit in
        let most : length pairs ≤ length rights * length lefts =
        few-pairs (length rights) (length lefts) pairs in_range
        (once-distinct same_pair pair-same (filter_map (λ x. pair_of from to x.cond) (filter (may_take source.left position) conjuncts))) in
        let size : length rights * length lefts ≤ 512 * 512 = mul-le (length rights) (length lefts) 512 512 (omega (arith, long, short)) (omega (arith, long, short)) in
        omega (arith, most, size)

    fitting : PairsFit lefts rights pairs
    fitting = record { some = some; few = few; fit = all_fit }

    ordered_fit : (ordered : List Pair) → AreOrdered ordered first (order_of (slice_get decls source.table)) pairs → PairsFit lefts rights ordered
    ordered_fit ordered o =
        record {
          some = λ none. some (nil_from_length pairs (sym o.many ∙ ap length none));
          few = omega (arith, o.many, few);
          fit = members-pass same_pair pair-same (pair_fits lefts rights) ordered pairs o.within all_fit;
        }

    abbrev side : Tree
    side = filtered (conjunction (map (shift_columns from) owns)) (scan_of decls source)

    side_stands : Stands decls side rights source.table 1
    side_stands =
        stands-filtered decls rights source.table 1 (conjunction (map (shift_columns from) owns)) (scan_of decls source)
        (conjunction-fits rights (map (shift_columns from) owns)
        (list_all-map (condition_fits rights) (shift_columns from) owns
        ∙ own-fits lefts rights more from to begins ends (λ x. condition_fits rights (shift_columns from x)) (fits-rest lefts rights more from to begins ends) kept kept_fit))
        (stands-scan decls source low (omega (arith, long, short)))

    next_stands : (way : Way) → WayOrdered way first (order_of (slice_get decls source.table)) pairs → Stands decls (joined way decls left source from owns pairs) (lefts ++ rights) table (count + 1)
    next_stands (ByHash pad) o =
        stands-join decls lefts rights table count left s pairs fitting narrow (Hash pad) side source.table side_stands (source-filtered decls (conjunction (map (shift_columns from) owns)) source) tt
    next_stands (ByMerge ordered) o =
        stands-join decls lefts rights table count left s ordered (ordered_fit ordered o) narrow Merge side source.table side_stands (source-filtered decls (conjunction (map (shift_columns from) owns)) source)
        (record {
          lefts = o.lefts ∙ ap (λ t. take (length ordered) (order_of (slice_get decls t))) (sym s.leftmost);
          rights = o.rights ∙ ap (λ t. take (length ordered) (order_of (slice_get decls t))) (sym side_stands.leftmost);
        })
    next_stands ByIndex o =
        stands-index decls lefts rights table count left s pairs fitting narrow source (conjunction owns) refl low
        (conjunction-fits (lefts ++ rights) owns (own-fits lefts rights more from to begins ends (condition_fits (lefts ++ rights)) (fits-front lefts rights more from to begins ends) kept kept_fit))

  -- ---- the further sources

  -- the pairs of further sources are those of the query's conditions
  abbrev KeepsPairs : ℕ → List Conjunct → Type 0
  KeepsPairs from conjuncts = (left : Bool) (position start end : ℕ) → from ≤ start → pairs_of left position start end conjuncts ≡ pairs_of left position start end query.conjuncts

  none_from : (o : Option Pair) → is_some o ≡ false → o ≡ None
  none_from None h = refl
  none_from (Some p) h = absurd (true≢false h)

  filter_map-skips : (h : Conjunct → Option Pair) (f g : Conjunct → Bool) → ((x : Conjunct) → g x ≡ false → h x ≡ None) → (xs : List Conjunct) → filter_map h (filter f (filter g xs)) ≡ filter_map h (filter f xs)
  filter_map-skips h f g skips [] = refl
  filter_map-skips h f g skips (x ∷ xs) =
      let rest : filter_map h (filter f (filter g xs)) ≡ filter_map h (filter f xs) = filter_map-skips h f g skips xs in
      elim (g x) as (λ t. (g x ≡ t) → filter_map h (filter f (cond t (x ∷ filter g xs) (filter g xs))) ≡ filter_map h (filter f (x ∷ xs))) [
        | true ↦ λ e. elim (f x) as (λ t. filter_map h (cond t (x ∷ filter f (filter g xs)) (filter f (filter g xs))) ≡ filter_map h (cond t (x ∷ filter f xs) (filter f xs))) [ true ↦ ap (cons_option (h x)) rest | false ↦ rest ]
        | false ↦ λ e.
            elim (f x) as (λ t. filter_map h (filter f (filter g xs)) ≡ filter_map h (cond t (x ∷ filter f xs) (filter f xs)))
            [ true ↦ rest ∙ ap (λ o. cons_option o (filter_map h (filter f xs))) (sym (skips x e)) | false ↦ rest ]
      ]
      refl

  pub still_paired : (left : Bool) (position from to : ℕ) (conjuncts : List Conjunct) → from ≤ to → KeepsPairs from conjuncts → KeepsPairs to (filter (λ x. not (takes left position from to x)) conjuncts)
  still_paired left position from to conjuncts order keeps other at start end apart =
      ap (once same_pair) (filter_map-skips (λ x. pair_of start end x.cond) (may_take other at) (λ x. not (takes left position from to x))
      (λ x h. none_from (pair_of start end x.cond)
      (or_parts (is_own start end x.cond) (is_some (pair_of start end x.cond))
      (taken_once from to start end order apart x.cond (taken_if left position from to x (not-false (takes left position from to x) h)))).1) conjuncts)
      ∙ keeps other at start end (omega arith)

  abbrev kinds_from : List QuerySource → List Kind
  kinds_from sources = flat_map (λ source. table_kinds decls source.table) sources

  pub stands-joins : (sources : List QuerySource) (position from : ℕ) (left : Tree) (lefts : List Kind) (count : ℕ) (conjuncts : List Conjunct)
      → AreJoined query sources position from → list_all (λ x. nat_lt x.table (length decls)) sources ≡ true → Stands decls left lefts table count → length lefts ≡ from
      → lefts ++ kinds_from sources ≡ source_kinds query → list_all conjunct_fits conjuncts ≡ true → KeepsPairs from conjuncts
      → Stands decls (joins c decls sizes first left position from conjuncts sources) (source_kinds query) table (count + length sources)
  stands-joins [] position from left lefts count conjuncts on low s begins is fit keeps =
      let all : lefts ≡ source_kinds query = sym (append-nil lefts) ∙ is in
      stands-filtered decls (source_kinds query) table (count + 0) (conjunction (conds_of conjuncts)) left
      (conjunction-fits (source_kinds query) (conds_of conjuncts) (list_all-map (condition_fits (source_kinds query)) (λ x. x.cond) conjuncts ∙ fit))
      (subst (λ n. Stands decls left (source_kinds query) table n) (omega arith) (subst (λ kinds. Stands decls left kinds table count) all s))
  stands-joins (source ∷ sources) position from left lefts count conjuncts on low s begins is fit keeps =
      let rights : List Kind = table_kinds decls source.table in
      let to : ℕ = from + table_width decls source.table in
      let lows = and_parts (nat_lt source.table (length decls)) (list_all (λ x. nat_lt x.table (length decls)) sources) low in
      let pairs : List Pair = pairs_of source.left position from to conjuncts in
      let some : pairs ≢ [] = λ none. on.0.paired (sym (keeps source.left position from to (omega arith)) ∙ none) in
      let way : Way = way_of c source.left first (slice_get decls source.table) pairs (is_small sizes left source) in
      let both : length (lefts ++ rights) ≡ to = length-append lefts rights ∙ ap (λ n. n + length rights) begins ∙ ap (λ n. from + n) (length-map (columns_of decls source.table) (λ column. column.kind)) in
      let rest : List Conjunct = filter (λ x. not (takes source.left position from to x)) conjuncts in
      let next : Tree = joined way decls left source from (own_conditions source.left position from to conjuncts) pairs in
      let stands : Stands decls next (lefts ++ rights) table (count + 1) =
      next_stands source (ltb-true source.table (length decls) lows.0) position from left lefts (kinds_from sources) count s begins is conjuncts fit some
      way (way-ordered c source.left first (slice_get decls source.table) pairs (is_small sizes left source)) in
      subst (λ n. Stands decls (joins c decls sizes first next (position + 1) to rest sources) (source_kinds query) table n) (omega arith)
      (stands-joins sources (position + 1) to next (lefts ++ rights) (count + 1) rest on.1 lows.1 stands both
      (append_assoc lefts rights (kinds_from sources) ∙ is) (list_all-kept conjunct_fits (λ x. not (takes source.left position from to x)) conjuncts fit)
      (still_paired source.left position from to conjuncts (omega arith) keeps))
