-- The conjuncts of a bound query fit the columns of its sources, and those of an ON read the columns that are known there.
use Rattle.std.proofs.Common.{◌≡◌, ◌≤◌, ◌+◌, ℕ, Bool, true, false, not, ◌&&◌, ◌||◌, List, [], ◌∷◌, ◌++◌, length, map, take, drop, Option, None, Some, refl, ap, sym, ◌∙◌, subst, arith, nat_eq, nat_lt, nat_le, append-nil}
use Rattle.std.specs.List.{flat_map, list_all, AllByRecursion}
use Rattle.std.proofs.lemmas.Bool.{eqb-true}
use Rattle.std.proofs.lemmas.Bool.Decides.{nat_tests}
use Rattle.std.proofs.lemmas.List.{length-map, map-append, take-append-drop}
use Rattle.std.proofs.lemmas.List.Folds.{list_all-append}
use Rattle.std.proofs.lemmas.Grind.{flat_map-append}
use Rattle.pm_syntax.specs.declared.tree.Expr.{Expr}
use Rattle.pm_syntax.specs.declared.tree.Source.{Source}
use Rattle.pm_syntax.specs.declared.tree.Test.{Test}
use Rattle.pm_values.specs.declared.value.Kind.{Kind}
use Rattle.pm_values.specs.declared.condition.Cond.{Cond}
use Rattle.pm_values.specs.Table.{Declaration}
use Rattle.pm_values.proofs.Folds.{fold_all as cond_all}
use Rattle.pm_plan.specs.Kinds.{condition_layer, condition_fits}
use Rattle.pm_query.specs.declared.query.Conjunct.{Conjunct}
use Rattle.pm_query.specs.Answer.{stands_in}
use Rattle.pm_query.specs.Columns.{within_layer, within}
use Rattle.pm_query.specs.Bound.{on_fits}
use Rattle.pm_names.specs.declared.terms.KnownColumn.{KnownColumn}
use Rattle.pm_names.specs.Breaches.{each_from}
use Rattle.pm_names.specs.Sources.{source_columns, known_columns, known_at}
use Rattle.pm_names.specs.Names.{kinds_of}
use Rattle.pm_names.specs.Kinds.{test_breaches}
use Rattle.pm_names.specs.Conditions.{whole_row, cond_of, exprs_of}
use Rattle.pm_binder.specs.Conjuncts.{split, conjuncts_if, on_conjuncts, conjuncts}
use Rattle.pm_binder.specs.Bound.{test_breaches_if, on_breaches, ons_breaches}
use Rattle.pm_binder.specs.Laws.{test_formed, formed_if}
use Rattle.pm_binder.proofs.Few.{empty_left, empty_right}
use Rattle.pm_binder.proofs.Typed.{and_left, and_right, both_true, typed}
use Rattle.pm_binder.proofs.ReadColumns.{fits_within, conjuncts_kept, fits_front}

abbrev pub Any : Expr → Type 0
Any e = Unit {0}

pub all_any : (es : List Expr) → AllByRecursion Any es
all_any [] = tt
all_any (e ∷ es) = (tt, all_any es)

-- a condition of columns fits each row that begins with the known columns
test_fits : (known : List KnownColumn) (more : List Kind) (test : Test) → test_breaches known test ≡ [] → test_formed false test ≡ true → condition_fits (kinds_of known ++ more) (cond_of known whole_row test) ≡ true
test_fits known more test none formed =
    typed false known whole_row (kinds_of known ++ more) Any (λ e _ off is. fits_front known more e off is) test none (all_any (exprs_of test)) formed

test_within : (known : List KnownColumn) (test : Test) → test_breaches known test ≡ [] → test_formed false test ≡ true → within 0 (length known) (cond_of known whole_row test) ≡ true
test_within known test none formed =
    let fits : condition_fits (kinds_of known) (cond_of known whole_row test) ≡ true = subst (λ ks. condition_fits ks (cond_of known whole_row test) ≡ true) (append-nil (kinds_of known)) (test_fits known [] test none formed) in
    subst (λ n. within 0 n (cond_of known whole_row test) ≡ true) (length-map known (λ column. column.kind)) (fits_within (kinds_of known) (cond_of known whole_row test) fits)

abbrev fits_kinds : List Kind → Conjunct → Bool
fits_kinds kinds conjunct = condition_fits kinds conjunct.cond

abbrev reads_known : ℕ → Conjunct → Bool
reads_known n conjunct = within 0 n conjunct.cond

pub if_fits : (known : List KnownColumn) (more : List Kind) (on : Option ℕ) (test : Option Test) → test_breaches_if known test ≡ [] → formed_if false test ≡ true → list_all (fits_kinds (kinds_of known ++ more)) (conjuncts_if known on test) ≡ true
if_fits known more on None none formed = refl
if_fits known more on (Some test) none formed =
    conjuncts_kept (condition_fits (kinds_of known ++ more)) (λ cs. cond_all (condition_layer (kinds_of known ++ more)) cs) known on test (test_fits known more test none formed)

pub if_within : (known : List KnownColumn) (on : Option ℕ) (test : Option Test) → test_breaches_if known test ≡ [] → formed_if false test ≡ true → list_all (reads_known (length known)) (conjuncts_if known on test) ≡ true
if_within known on None none formed = refl
if_within known on (Some test) none formed =
    conjuncts_kept (within 0 (length known)) (λ cs. cond_all (within_layer 0 (length known)) cs) known on test (test_within known test none formed)

-- the columns that are known in an ON are the first ones of all
pub known_front : (schema : List Declaration) (sources : List Source) (i : ℕ) → (more : List Kind) × (kinds_of (known_columns schema sources) ≡ kinds_of (known_at schema sources i) ++ more)
known_front schema sources i =
    let split = ap (flat_map (source_columns schema)) (sym (take-append-drop (i + 1) sources)) ∙ flat_map-append (source_columns schema) (take (i + 1) sources) (drop (i + 1) sources) in
    (kinds_of (known_columns schema (drop (i + 1) sources)), ap kinds_of split ∙ map-append (λ column. column.kind) (known_at schema sources i) (known_columns schema (drop (i + 1) sources)))

pub on_source_fits : (schema : List Declaration) (sources : List Source) (i : ℕ) (source : Source) → on_breaches schema sources i source ≡ [] → formed_if false source.on ≡ true
    → list_all (fits_kinds (kinds_of (known_columns schema sources))) (on_conjuncts schema sources i source) ≡ true
on_source_fits schema sources i source none formed =
    let front = known_front schema sources i in
    rw front.1 (if_fits (known_at schema sources i) front.0 (Some i) source.on none formed)

-- ---- where conjuncts stand

-- each of these stands in the ON of the source at this position
pub each_stands : (R : Conjunct → Bool) (on : Option ℕ) (cs : List Cond) → ((c : Cond) → R (record { on = on; cond = c }) ≡ true) → list_all R (map (λ c. record { on = on; cond = c }) cs) ≡ true
each_stands R on [] h = refl
each_stands R on (c ∷ cs) h = both_true (R (record { on = on; cond = c })) (list_all R (map (λ c. record { on = on; cond = c }) cs)) (h c) (each_stands R on cs h)

pub if_stands : (R : Conjunct → Bool) (known : List KnownColumn) (on : Option ℕ) (test : Option Test) → ((c : Cond) → R (record { on = on; cond = c }) ≡ true) → list_all R (conjuncts_if known on test) ≡ true
if_stands R known on None h = refl
if_stands R known on (Some test) h = each_stands R on (split known test).members h

pub list_both : {A : Type 0} (p q : A → Bool) (xs : List A) → list_all p xs ≡ true → list_all q xs ≡ true → list_all (λ x. p x && q x) xs ≡ true
list_both p q [] h k = refl
list_both p q (x ∷ xs) h k =
    both_true (p x && q x) (list_all (λ x. p x && q x) xs) (both_true (p x) (q x) (and_left (p x) (list_all p xs) h) (and_left (q x) (list_all q xs) k)) (list_both p q xs (and_right (p x) (list_all p xs) h) (and_right (q x) (list_all q xs) k))

pub list_append : {A : Type 0} (p : A → Bool) (xs ys : List A) → list_all p xs ≡ true → list_all p ys ≡ true → list_all p (xs ++ ys) ≡ true
list_append p xs ys h k = list_all-append p xs ys ∙ both_true (list_all p xs) (list_all p ys) h k

-- ---- all conjuncts fit the row of all columns, and stand in WHERE or in the ON of a source after the first

module _ (schema : List Declaration) (sources : List Source) where
  abbrev pub fitting : Conjunct → Bool
  fitting conjunct = on_fits (length sources) conjunct.on && condition_fits (kinds_of (known_columns schema sources)) conjunct.cond

  ons_fit : (i : ℕ) (xs : List Source) → 1 ≤ i → i + length xs ≤ length sources → each_from (on_breaches schema sources) i xs ≡ [] → list_all (λ source. formed_if false source.on) xs ≡ true
      → list_all fitting (each_from (on_conjuncts schema sources) i xs) ≡ true
  ons_fit i [] low high none formed = refl
  ons_fit i (x ∷ xs) low high none formed =
      let off = empty_left (on_breaches schema sources i x) (each_from (on_breaches schema sources) (i + 1) xs) none in
      let is = and_left (formed_if false x.on) (list_all (λ source. formed_if false source.on) xs) formed in
      let stands : on_fits (length sources) (Some i) ≡ true = both_true (nat_le 1 i) (nat_lt i (length sources)) (grind (arith, nat_tests)) (grind (arith, nat_tests)) in
      list_append fitting (on_conjuncts schema sources i x) (each_from (on_conjuncts schema sources) (i + 1) xs)
      (list_both (λ conjunct. on_fits (length sources) conjunct.on) (fits_kinds (kinds_of (known_columns schema sources))) (on_conjuncts schema sources i x)
      (if_stands (λ conjunct. on_fits (length sources) conjunct.on) (known_at schema sources i) (Some i) x.on (λ c. stands)) (on_source_fits schema sources i x off is))
      (ons_fit (i + 1) xs (omega arith) (omega arith) (empty_right (on_breaches schema sources i x) (each_from (on_breaches schema sources) (i + 1) xs) none) (and_right (formed_if false x.on) (list_all (λ source. formed_if false source.on) xs) formed))

  where_fits : (filter : Option Test) → test_breaches_if (known_columns schema sources) filter ≡ [] → formed_if false filter ≡ true → list_all fitting (conjuncts_if (known_columns schema sources) None filter) ≡ true
  where_fits filter none formed =
      list_both (λ conjunct. on_fits (length sources) conjunct.on) (fits_kinds (kinds_of (known_columns schema sources))) (conjuncts_if (known_columns schema sources) None filter)
      (if_stands (λ conjunct. on_fits (length sources) conjunct.on) (known_columns schema sources) None filter (λ c. refl))
      (subst (λ ks. list_all (fits_kinds ks) (conjuncts_if (known_columns schema sources) None filter) ≡ true) (append-nil (kinds_of (known_columns schema sources))) (if_fits (known_columns schema sources) [] None filter none formed))

  -- ---- the conjuncts of the ON at a position read the columns that are known there

  abbrev reading : ℕ → Conjunct → Bool
  reading p conjunct = not (stands_in (Some p) conjunct) || within 0 (length (known_at schema sources p)) conjunct.cond

  or_true : (a b : Bool) → b ≡ true → (a || b) ≡ true
  or_true true b h = refl
  or_true false b h = h

  weaker : (p : ℕ) (cs : List Conjunct) → list_all (reads_known (length (known_at schema sources p))) cs ≡ true → list_all (reading p) cs ≡ true
  weaker p [] h = refl
  weaker p (c ∷ cs) h =
      let n = length (known_at schema sources p) in
      both_true (reading p c) (list_all (reading p) cs) (or_true (not (stands_in (Some p) c)) (within 0 n c.cond) (and_left (within 0 n c.cond) (list_all (reads_known n) cs) h)) (weaker p cs (and_right (within 0 n c.cond) (list_all (reads_known n) cs) h))

  on_reads : (p i : ℕ) (x : Source) → on_breaches schema sources i x ≡ [] → formed_if false x.on ≡ true → list_all (reading p) (on_conjuncts schema sources i x) ≡ true
  on_reads p i x none formed = of (nat_eq p i) refl
    where
      of : (b : Bool) → nat_eq p i ≡ b → list_all (reading p) (on_conjuncts schema sources i x) ≡ true
      of true e =
          let same : i ≡ p = sym (eqb-true p i e) in
          weaker p (on_conjuncts schema sources i x) (subst (λ j. list_all (reads_known (length (known_at schema sources j))) (on_conjuncts schema sources i x) ≡ true) same (if_within (known_at schema sources i) (Some i) x.on none formed))
      of false e = if_stands (reading p) (known_at schema sources i) (Some i) x.on (λ c. rw e refl)

  ons_read : (p i : ℕ) (xs : List Source) → each_from (on_breaches schema sources) i xs ≡ [] → list_all (λ source. formed_if false source.on) xs ≡ true → list_all (reading p) (each_from (on_conjuncts schema sources) i xs) ≡ true
  ons_read p i [] none formed = refl
  ons_read p i (x ∷ xs) none formed =
      list_append (reading p) (on_conjuncts schema sources i x) (each_from (on_conjuncts schema sources) (i + 1) xs)
      (on_reads p i x (empty_left (on_breaches schema sources i x) (each_from (on_breaches schema sources) (i + 1) xs) none) (and_left (formed_if false x.on) (list_all (λ source. formed_if false source.on) xs) formed))
      (ons_read p (i + 1) xs (empty_right (on_breaches schema sources i x) (each_from (on_breaches schema sources) (i + 1) xs) none) (and_right (formed_if false x.on) (list_all (λ source. formed_if false source.on) xs) formed))

  pub all_read : (p : ℕ) (filter : Option Test) → ons_breaches schema sources ≡ [] → list_all (λ source. formed_if false source.on) sources ≡ true → list_all (reading p) (conjuncts schema sources filter) ≡ true
  all_read p filter none formed =
      list_append (reading p) (each_from (on_conjuncts schema sources) 0 sources) (conjuncts_if (known_columns schema sources) None filter) (ons_read p 0 sources none formed)
      (if_stands (reading p) (known_columns schema sources) None filter (λ c. refl))

-- the first source has no ON
pub all_fitting : (schema : List Declaration) (first : Source) (rest : List Source) (filter : Option Test) → first.on ≡ None
    → ons_breaches schema (first ∷ rest) ≡ [] → list_all (λ source. formed_if false source.on) (first ∷ rest) ≡ true
    → test_breaches_if (known_columns schema (first ∷ rest)) filter ≡ [] → formed_if false filter ≡ true
    → list_all (fitting schema (first ∷ rest)) (conjuncts schema (first ∷ rest) filter) ≡ true
all_fitting schema first rest filter alone none formed off is =
    let sources = first ∷ rest in
    let nothing : on_conjuncts schema sources 0 first ≡ [] = rw alone refl in
    list_append (fitting schema sources) (each_from (on_conjuncts schema sources) 0 sources) (conjuncts_if (known_columns schema sources) None filter)
    (list_append (fitting schema sources) (on_conjuncts schema sources 0 first) (each_from (on_conjuncts schema sources) 1 rest) (rw nothing refl)
    (ons_fit schema sources 1 rest (omega arith) (omega arith) (empty_right (on_breaches schema sources 0 first) (each_from (on_breaches schema sources) 1 rest) none) (and_right (formed_if false first.on) (list_all (λ source. formed_if false source.on) rest) formed)))
    (where_fits schema sources filter off is)
