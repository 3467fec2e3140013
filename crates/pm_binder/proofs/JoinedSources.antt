-- The sources of a bound query are joined.
use Rattle.std.proofs.Common.{◌≡◌, ◌≢◌, ◌+◌, ℕ, Bool, true, false, not, ◌&&◌, ◌||◌, cond, List, [], ◌∷◌, ◌++◌, length, map, filter, take, Option, None, Some, is_some, refl, ap, sym, ◌∙◌, subst, arith, nat_eq, append_assoc, append-nil, length-append}
use Rattle.std.specs.List.{filter_map, find, list_any, list_all, AllByRecursion}
use Rattle.std.proofs.lemmas.Bool.{eqb-true}
use Rattle.std.proofs.lemmas.List.{length-map}
use Rattle.std.proofs.lemmas.Grind.{flat_map-append}
use Rattle.std.proofs.Math.Seq.{take-append_seam}
use Rattle.pm_syntax.specs.declared.tree.Source.{Source}
use Rattle.pm_syntax.specs.declared.tree.Select.{Select}
use Rattle.pm_values.specs.Keys.{once}
use Rattle.pm_values.specs.Table.{Declaration}
use Rattle.pm_plan.specs.Kinds.{columns_or_none, table_width}
use Rattle.pm_plan.specs.References.{same_pair}
use Rattle.pm_query.specs.declared.query.Conjunct.{Conjunct}
use Rattle.pm_query.specs.declared.query.QuerySource.{QuerySource}
use Rattle.pm_query.specs.Answer.{stands_in}
use Rattle.pm_query.specs.Pairs.{pair_of, may_take, takes, pairs_of}
use Rattle.pm_query.specs.Bound.{IsJoined, AreJoined}
use Rattle.pm_names.specs.declared.fault.BindBad.TheVariants as bad
use Rattle.pm_names.specs.Breaches.{bad_if, each_from}
use Rattle.pm_names.specs.Sources.{alias_of, is_named, known_column, source_columns, known_columns, known_at, table_places, query_source}
use Rattle.pm_binder.specs.Conjuncts.{is_pair, is_stray, joined_breaches, later_breaches, conjuncts}
use Rattle.pm_binder.specs.Bound.{ons_breaches, query}
use Rattle.pm_binder.specs.Laws.{formed_if}
use Rattle.pm_binder.proofs.Few.{empty_left, empty_right}
use Rattle.pm_binder.proofs.BoundTables.{no_bad, not_false, HasColumns, decls_bound}
use Rattle.pm_binder.proofs.OnRows.{all_read}

-- ---- a pair is among the pairs

some_left : {A B : Type 0} (may : A → Bool) (g : A → Option B) (xs : List A) → filter_map g (filter may xs) ≡ [] → list_any (λ x. may x && is_some (g x)) xs ≡ false
some_left may g [] h = refl
some_left {B = B} may g (x ∷ xs) h = of (some_left may g xs) (may x) (g x) refl refl h
  where
    of : (filter_map g (filter may xs) ≡ [] → list_any (λ x. may x && is_some (g x)) xs ≡ false) → (b : Bool) (o : Option B) → may x ≡ b → g x ≡ o
        → filter_map g (filter may (x ∷ xs)) ≡ [] → ((may x && is_some (g x)) || list_any (λ x. may x && is_some (g x)) xs) ≡ false
    of rest false o e f h = rw e (rest (rw e at h))
    of rest true None e f h = rw (e, f) (rest (rw (e, f) at h))
    of rest true (Some y) e f h = absurd (cc (rw (e, f) at h))

once_some : {A : Type 0} (same : A → A → Bool) (xs : List A) → once same xs ≡ [] → xs ≡ []
once_some same [] h = refl
once_some same (x ∷ xs) h = absurd (cc h)

pub has_pairs : (left : Bool) (position from to : ℕ) (cs : List Conjunct) → list_any (is_pair left position from to) cs ≡ true → pairs_of left position from to cs ≢ []
has_pairs left position from to cs h none =
    let off = some_left (may_take left position) (λ conjunct. pair_of from to conjunct.cond) cs (once_some same_pair (filter_map (λ conjunct. pair_of from to conjunct.cond) (filter (may_take left position) cs)) none) in
    cc (sym off ∙ h)

-- ---- what a left join cannot take stands in no ON of its own

pub none_stray : (left : Bool) (position from to : ℕ) (cs : List Conjunct) → (left && list_any (is_stray position from to) cs) ≡ false
    → list_all (λ conjunct. not (left && stands_in (Some position) conjunct) || takes left position from to conjunct) cs ≡ true
none_stray left position from to [] h = refl
none_stray false position from to (c ∷ cs) h = none_stray false position from to cs refl
none_stray true position from to (c ∷ cs) h = of (none_stray true position from to cs) (stands_in (Some position) c) (takes true position from to c) h
  where
    of : (list_any (is_stray position from to) cs ≡ false → list_all (λ conjunct. not (stands_in (Some position) conjunct) || takes true position from to conjunct) cs ≡ true)
        → (s t : Bool) → ((s && not t) || list_any (is_stray position from to) cs) ≡ false
        → ((not s || t) && list_all (λ conjunct. not (stands_in (Some position) conjunct) || takes true position from to conjunct) cs) ≡ true
    of rest true true h = rest h
    of rest true false h = absurd (cc h)
    of rest false true h = rest h
    of rest false false h = rest h

-- ---- widths

width_is : (schema : List Declaration) (sources : List Source) (source : Source) → HasColumns schema sources source
    → table_width (decls_bound schema sources) (query_source schema (table_places schema sources) source).table ≡ length (source_columns schema source)
width_is schema sources source h = ap length h ∙ sym (length-map (columns_or_none (find (is_named source.table.text) schema)) (known_column (alias_of source).text))

-- the columns before a source, and those up to it
before : (schema : List Declaration) (ys xs : List Source) → known_columns schema (take (length ys) (ys ++ xs)) ≡ known_columns schema ys
before schema ys xs = ap (known_columns schema) (take-append_seam ys xs)

up_to : (schema : List Declaration) (ys : List Source) (x : Source) (xs : List Source) → known_at schema (ys ++ (x ∷ xs)) (length ys) ≡ known_columns schema ys ++ source_columns schema x
up_to schema ys x xs =
    let moved : ys ++ (x ∷ xs) ≡ (ys ++ x ∷ []) ++ xs = sym (append_assoc ys (x ∷ []) xs) in
    let long : length ys + 1 ≡ length (ys ++ x ∷ []) = sym (length-append ys (x ∷ [])) in
    ap (λ s. known_columns schema (take (length ys + 1) s)) moved ∙ ap (λ n. known_columns schema (take n ((ys ++ x ∷ []) ++ xs))) long ∙ ap (known_columns schema) (take-append_seam (ys ++ x ∷ []) xs)
    ∙ flat_map-append (source_columns schema) ys (x ∷ []) ∙ ap (λ cs. known_columns schema ys ++ cs) (append-nil (source_columns schema x))

-- ---- each further source is joined

module _ (schema : List Declaration) (select : Select) (formed : list_all (λ source. formed_if false source.on) select.sources ≡ true) (off : ons_breaches schema select.sources ≡ []) where
  abbrev found : List Conjunct
  found = conjuncts schema select.sources select.filter

  abbrev bound_source : Source → QuerySource
  bound_source = query_source schema (table_places schema select.sources)

  is_joined : (i : ℕ) (source : Source) → i ≢ 0 → later_breaches schema select.sources found i source ≡ []
      → IsJoined (query schema select) (bound_source source) i (length (known_columns schema (take i select.sources))) (length (known_at schema select.sources i))
  is_joined i source later none =
      let from = length (known_columns schema (take i select.sources)) in
      let to = length (known_at schema select.sources i) in
      let here : joined_breaches source i from to found ≡ [] = of (nat_eq i 0) refl none in
      let first = bad_if (not (list_any (is_pair source.left i from to) found)) (bad.NoJoinKey source.table.at) in
      let second = bad_if (source.left && list_any (is_stray i from to) found) (bad.LeftOn source.table.at) in
      record {
        paired = has_pairs source.left i from to found (not_false (list_any (is_pair source.left i from to) found) (no_bad (not (list_any (is_pair source.left i from to) found)) (bad.NoJoinKey source.table.at) (empty_left first second here)));
        known = all_read schema select.sources i select.filter off formed;
        taken = none_stray source.left i from to found (no_bad (source.left && list_any (is_stray i from to) found) (bad.LeftOn source.table.at) (empty_right first second here));
      }
    where
      of : (b : Bool) → nat_eq i 0 ≡ b
          → cond b [] (joined_breaches source i (length (known_columns schema (take i select.sources))) (length (known_at schema select.sources i)) found) ≡ []
          → joined_breaches source i (length (known_columns schema (take i select.sources))) (length (known_at schema select.sources i)) found ≡ []
      of true e h = absurd (later (eqb-true i 0 e))
      of false e h = h

  pub are_joined : (ys xs : List Source) → select.sources ≡ ys ++ xs → length ys ≢ 0 → AllByRecursion (HasColumns schema select.sources) xs
      → each_from (later_breaches schema select.sources found) (length ys) xs ≡ [] → AreJoined (query schema select) (map bound_source xs) (length ys) (length (known_columns schema ys))
  are_joined ys [] is some has none = tt
  are_joined ys (x ∷ xs) is some has none =
      let i = length ys in
      let front : length (known_columns schema (take i select.sources)) ≡ length (known_columns schema ys) = ap length (ap (λ s. known_columns schema (take i s)) is ∙ before schema ys (x ∷ xs)) in
      let wide : table_width (decls_bound schema select.sources) (bound_source x).table ≡ length (source_columns schema x) = width_is schema select.sources x has.0 in
      let whole : length (known_at schema select.sources i) ≡ length (known_columns schema ys) + table_width (decls_bound schema select.sources) (bound_source x).table =
      ap length (ap (λ s. known_at schema s i) is ∙ up_to schema ys x xs) ∙ length-append (known_columns schema ys) (source_columns schema x) ∙ ap (λ n. length (known_columns schema ys) + n) (sym wide) in
      let here = is_joined i x some (empty_left (later_breaches schema select.sources found i x) (each_from (later_breaches schema select.sources found) (i + 1) xs) none) in
      let next : length (ys ++ x ∷ []) ≡ i + 1 = length-append ys (x ∷ []) in
      let grown : length (known_columns schema (ys ++ x ∷ [])) ≡ length (known_columns schema ys) + table_width (decls_bound schema select.sources) (bound_source x).table =
      ap length (flat_map-append (source_columns schema) ys (x ∷ []) ∙ ap (λ cs. known_columns schema ys ++ cs) (append-nil (source_columns schema x))) ∙ length-append (known_columns schema ys) (source_columns schema x) ∙ ap (λ n. length (known_columns schema ys) + n) (sym wide) in
      let further =
      are_joined (ys ++ x ∷ []) xs (is ∙ sym (append_assoc ys (x ∷ []) xs)) (λ e. absurd (omega (arith, next, e))) has.1
      (subst (λ n. each_from (later_breaches schema select.sources found) n xs ≡ []) (sym next) (empty_right (later_breaches schema select.sources found i x) (each_from (later_breaches schema select.sources found) (i + 1) xs) none)) in (
        subst (λ to. IsJoined (query schema select) (bound_source x) i (length (known_columns schema ys)) to) whole (subst (λ from. IsJoined (query schema select) (bound_source x) i from (length (known_at schema select.sources i))) front here),
        subst (λ from. AreJoined (query schema select) (map bound_source xs) (i + 1) from) grown (subst (λ n. AreJoined (query schema select) (map bound_source xs) n (length (known_columns schema (ys ++ x ∷ [])))) next further),
      )
