-- The tables of a bound query are those of its sources.
use Rattle.std.proofs.Common.{◌≡◌, ◌<◌, ◌+◌, ℕ, zero, suc, Bool, true, false, not, ◌||◌, cond, ◌==◌, take, List, [], ◌∷◌, ◌++◌, length, map, filter, Some, refl, ap, sym, ◌∙◌, subst, arith, nat_eq}
use Rattle.std.specs.Prelude.{slice_get}
use Rattle.std.specs.List.{list_any, flat_map, find, position_or_len, AllByRecursion}
use Rattle.std.proofs.lemmas.Bool.{eqb-true, eq-eqb}
use Rattle.std.proofs.lemmas.List.{map-append}
use Rattle.std.proofs.lemmas.List.Folds.{find_at}
use Rattle.pm_syntax.specs.declared.tree.Source.{Source}
use Rattle.pm_values.specs.declared.table.ColumnDecl.{ColumnDecl}
use Rattle.pm_values.specs.Keys.{once}
use Rattle.pm_values.specs.Table.{Declaration}
use Rattle.pm_plan.specs.Kinds.{columns_or_none, columns_of, table_kinds}
use Rattle.pm_names.specs.declared.fault.BindBad.{BindBad}
use Rattle.pm_names.specs.declared.fault.BindBad.TheVariants as bad
use Rattle.pm_names.specs.Breaches.{bad_if, each_from}
use Rattle.pm_names.specs.Sources.{alias_of, is_named, has_alias, source_breaches, from_breaches, place_in, table_places, table_if, tables_at, query_source, known_column, source_columns, known_columns}
use Rattle.pm_names.specs.Names.{kinds_of}
use Rattle.pm_binder.proofs.Few.{empty_left, empty_right, below_once}

-- where there is no breach along a list, each item is right
pub each_right : {A : Type 0} (f : ℕ → A → List BindBad) (P : A → Type 0) → ((i : ℕ) (x : A) → f i x ≡ [] → P x) → (i : ℕ) (xs : List A) → each_from f i xs ≡ [] → AllByRecursion P xs
each_right f P holds i [] none = tt
each_right f P holds i (x ∷ xs) none = (holds i x (empty_left (f i x) (each_from f (i + 1) xs) none), each_right f P holds (i + 1) xs (empty_right (f i x) (each_from f (i + 1) xs) none))

pub no_bad : (b : Bool) (breach : BindBad) → bad_if b breach ≡ [] → b ≡ false
no_bad true breach h = cc h
no_bad false breach h = refl

pub not_false : (b : Bool) → not b ≡ false → b ≡ true
not_false true h = refl
not_false false h = cc h

-- the schema has the table of each source
has_table : (schema : List Declaration) (sources : List Source) (i : ℕ) (source : Source) → source_breaches schema sources i source ≡ [] → list_any (is_named source.table.text) schema ≡ true
has_table schema sources i source none =
    let first = bad_if (i == 8) (bad.TooManyTables source.table.at) in
    let second = bad_if (not (list_any (is_named source.table.text) schema)) (bad.NoTable source.table.at) in
    let third = bad_if (has_alias (take i sources) (alias_of source).text) (bad.DoubleAlias (alias_of source).at) in
    not_false (list_any (is_named source.table.text) schema) (no_bad (not (list_any (is_named source.table.text) schema)) (bad.NoTable source.table.at) (empty_right first second (empty_left (first ++ second) third none)))

pub position_below : {A : Type 0} (p : A → Bool) (xs : List A) → list_any p xs ≡ true → position_or_len p xs < length xs
position_below p [] h = absurd (cc h)
position_below p (x ∷ xs) h = of (position_below p xs) (p x) h
  where
    of : (list_any p xs ≡ true → position_or_len p xs < length xs) → (b : Bool) → (b || list_any p xs) ≡ true → cond (not b) (1 + position_or_len p xs) 0 < length (x ∷ xs)
    of further true h = omega arith
    of further false h = let low : position_or_len p xs < length xs = further h in omega arith

pub places_below : (schema : List Declaration) (sources : List Source) → from_breaches schema sources ≡ [] → AllByRecursion (λ source. place_in schema source < length schema) sources
places_below schema sources none =
    each_right (source_breaches schema sources) (λ source. place_in schema source < length schema) (λ i source off. position_below (is_named source.table.text) schema (has_table schema sources i source off)) 0 sources none

mapped_below : (schema : List Declaration) (sources : List Source) → AllByRecursion (λ source. place_in schema source < length schema) sources → AllByRecursion (λ p. p < length schema) (map (place_in schema) sources)
mapped_below schema [] h = tt
mapped_below schema (source ∷ sources) h = (h.0, mapped_below schema sources h.1)

pub table_places_below : (schema : List Declaration) (sources : List Source) → from_breaches schema sources ≡ [] → AllByRecursion (λ p. p < length schema) (table_places schema sources)
table_places_below schema sources none = below_once (length schema) (map (place_in schema) sources) (mapped_below schema sources (places_below schema sources none))

-- a place of the schema has a table
there : {A : Type 0} (xs : List A) (i : ℕ) → i < length xs → (x : A) × (slice_get xs i ≡ Some x)
there [] i h = absurd (omega arith)
there (x ∷ xs) zero h = (x, refl)
there (x ∷ xs) (suc i) h = there xs i (omega arith)

pub one_table : (schema : List Declaration) (p : ℕ) → p < length schema → (decl : Declaration) × (slice_get schema p ≡ Some decl) × (table_if p (slice_get schema p) ≡ record { place = p; decl = decl } ∷ [])
one_table schema p h = let x = there schema p h in (x.0, x.1, rw x.1 refl)

-- the declaration of the table at the position of a place is the schema's there
pub table_got : (schema : List Declaration) (places : List ℕ) → AllByRecursion (λ p. p < length schema) places → (p : ℕ) → list_any (nat_eq p) places ≡ true
    → slice_get (map (λ table. table.decl) (tables_at schema places)) (position_or_len (nat_eq p) places) ≡ slice_get schema p
table_got schema [] below p h = absurd (cc h)
table_got schema (q ∷ places) below p h =
    let one = one_table schema q below.0 in
    of one.0 one.1 (rw one.2 refl) (table_got schema places below.1 p) (nat_eq p q) refl h
  where
    of : (decl : Declaration) → slice_get schema q ≡ Some decl → map (λ table. table.decl) (tables_at schema (q ∷ places)) ≡ decl ∷ map (λ table. table.decl) (tables_at schema places)
        → (list_any (nat_eq p) places ≡ true → slice_get (map (λ table. table.decl) (tables_at schema places)) (position_or_len (nat_eq p) places) ≡ slice_get schema p)
        → (b : Bool) → nat_eq p q ≡ b → (b || list_any (nat_eq p) places) ≡ true
        → slice_get (map (λ table. table.decl) (tables_at schema (q ∷ places))) (cond (not b) (1 + position_or_len (nat_eq p) places) 0) ≡ slice_get schema p
    of decl at tables further true same h = let is : p ≡ q = eqb-true p q same in ap (λ ds. slice_get ds 0) tables ∙ sym (ap (slice_get schema) is ∙ at)
    of decl at tables further false other h =
        let next : 1 + position_or_len (nat_eq p) places ≡ suc (position_or_len (nat_eq p) places) = omega arith in
        ap (λ ds. slice_get ds (1 + position_or_len (nat_eq p) places)) tables ∙ ap (slice_get (decl ∷ map (λ table. table.decl) (tables_at schema places))) next ∙ further h

-- what is in a list is among its different items
kept : (p x : ℕ) (zs : List ℕ) → nat_eq p x ≡ false → list_any (nat_eq p) (filter (λ y. not (nat_eq x y)) zs) ≡ list_any (nat_eq p) zs
kept p x [] off = refl
kept p x (z ∷ zs) off = of (kept p x zs off) (nat_eq x z) refl
  where
    of : list_any (nat_eq p) (filter (λ y. not (nat_eq x y)) zs) ≡ list_any (nat_eq p) zs → (b : Bool) → nat_eq x z ≡ b
        → list_any (nat_eq p) (cond (not b) (z ∷ filter (λ y. not (nat_eq x y)) zs) (filter (λ y. not (nat_eq x y)) zs)) ≡ (nat_eq p z || list_any (nat_eq p) zs)
    of rest false e = ap (λ r. nat_eq p z || r) rest
    of rest true e = let none : nat_eq p z ≡ false = subst (λ w. nat_eq p w ≡ false) (eqb-true x z e) off in rw none rest

pub any_once : (p : ℕ) (xs : List ℕ) → list_any (nat_eq p) (once nat_eq xs) ≡ list_any (nat_eq p) xs
any_once p [] = refl
any_once p (x ∷ xs) = of (any_once p xs) (nat_eq p x) refl
  where
    of : list_any (nat_eq p) (once nat_eq xs) ≡ list_any (nat_eq p) xs → (b : Bool) → nat_eq p x ≡ b
        → (b || list_any (nat_eq p) (filter (λ y. not (nat_eq x y)) (once nat_eq xs))) ≡ (b || list_any (nat_eq p) xs)
    of rest true e = refl
    of rest false e = kept p x (once nat_eq xs) e ∙ rest

or_right : (a b : Bool) → b ≡ true → (a || b) ≡ true
or_right true b h = refl
or_right false b h = h

-- each value of f is among these
pub all_among : {A : Type 0} (f : A → ℕ) (ws : List ℕ) (xs : List A) → ((q : ℕ) → list_any (nat_eq q) (map f xs) ≡ true → list_any (nat_eq q) ws ≡ true) → AllByRecursion (λ x. list_any (nat_eq (f x)) ws ≡ true) xs
all_among f ws [] h = tt
all_among f ws (x ∷ xs) h =
    (h (f x) (rw (eq-eqb (f x) (f x) refl) refl), all_among f ws xs (λ q e. h q (or_right (nat_eq q (f x)) (list_any (nat_eq q) (map f xs)) e)))

pub places_among : (schema : List Declaration) (sources : List Source) → AllByRecursion (λ source. list_any (nat_eq (place_in schema source)) (table_places schema sources) ≡ true) sources
places_among schema sources = all_among (place_in schema) (table_places schema sources) sources (λ q e. any_once q (map (place_in schema) sources) ∙ e)

abbrev pub decls_bound : List Declaration → List Source → List Declaration
decls_bound schema sources = map (λ table. table.decl) (tables_at schema (table_places schema sources))

-- the columns of a source's table are those of the table of its name
abbrev pub HasColumns : List Declaration → List Source → Source → Type 0
HasColumns schema sources source =
    columns_of (decls_bound schema sources) (query_source schema (table_places schema sources) source).table ≡ columns_or_none (find (is_named source.table.text) schema)

columns_got : (schema : List Declaration) (sources xs : List Source) → from_breaches schema sources ≡ [] → AllByRecursion (λ source. list_any (nat_eq (place_in schema source)) (table_places schema sources) ≡ true) xs → AllByRecursion (HasColumns schema sources) xs
columns_got schema sources [] none h = tt
columns_got schema sources (x ∷ xs) none h =
    (ap columns_or_none (table_got schema (table_places schema sources) (table_places_below schema sources none) (place_in schema x) h.0 ∙ sym (find_at (is_named x.table.text) schema)), columns_got schema sources xs none h.1)

pub columns_bound : (schema : List Declaration) (sources : List Source) → from_breaches schema sources ≡ [] → AllByRecursion (HasColumns schema sources) sources
columns_bound schema sources none = columns_got schema sources sources none (places_among schema sources)

-- the kinds of the sources' columns are those of the columns that names may mean
kinds_one : (alias : List ℕ) (columns : List ColumnDecl) → map (λ column. column.kind) columns ≡ kinds_of (map (known_column alias) columns)
kinds_one alias [] = refl
kinds_one alias (column ∷ columns) = ap (λ ks. column.kind ∷ ks) (kinds_one alias columns)

kinds_all : (schema : List Declaration) (sources xs : List Source) → AllByRecursion (HasColumns schema sources) xs
    → flat_map (λ source. table_kinds (decls_bound schema sources) source.table) (map (query_source schema (table_places schema sources)) xs) ≡ kinds_of (known_columns schema xs)
kinds_all schema sources [] h = refl
kinds_all schema sources (x ∷ xs) h =
    ap (λ cs. map (λ column. column.kind) cs ++ flat_map (λ source. table_kinds (decls_bound schema sources) source.table) (map (query_source schema (table_places schema sources)) xs)) h.0
    ∙ ap (λ ks. ks ++ flat_map (λ source. table_kinds (decls_bound schema sources) source.table) (map (query_source schema (table_places schema sources)) xs)) (kinds_one (alias_of x).text (columns_or_none (find (is_named x.table.text) schema)))
    ∙ ap (λ ks. kinds_of (source_columns schema x) ++ ks) (kinds_all schema sources xs h.1)
    ∙ sym (map-append (λ column. column.kind) (source_columns schema x) (known_columns schema xs))

pub source_kinds_bound : (schema : List Declaration) (sources : List Source) → from_breaches schema sources ≡ []
    → flat_map (λ source. table_kinds (decls_bound schema sources) source.table) (map (query_source schema (table_places schema sources)) sources) ≡ kinds_of (known_columns schema sources)
source_kinds_bound schema sources none = kinds_all schema sources sources (columns_bound schema sources none)
