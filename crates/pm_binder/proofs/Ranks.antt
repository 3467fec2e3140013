-- Positions among different numbers, and lists in which no number stands twice.
use Rattle.std.proofs.Common.{◌≡◌, ◌<◌, ◌+◌, ℕ, zero, suc, Bool, true, false, not, ◌||◌, cond, List, [], ◌∷◌, ◌++◌, length, map, filter, refl, ap, sym, ◌∙◌, arith, nat_eq, get_or, append_assoc, length-append, Some}
use Rattle.std.specs.Prelude.{slice_get}
use Rattle.std.proofs.lemmas.List.Folds.{list_any-append}
use Rattle.pm_syntax.specs.declared.tree.Source.{Source}
use Rattle.std.specs.List.{list_any, list_all, position_or_len, AllByRecursion, IsDistinct}
use Rattle.std.proofs.lemmas.Bool.{eqb-true, eq-eqb}
use Rattle.pm_values.specs.Keys.{once}
use Rattle.pm_values.specs.Table.{Declaration}
use Rattle.pm_query.specs.Build.{numbers_from}
use Rattle.pm_query.specs.Bound.{differ}
use Rattle.pm_names.specs.Sources.{place_in, table_places, query_source, tables_at}
use Rattle.pm_binder.proofs.Few.{distinct_once}
use Rattle.pm_binder.proofs.BoundTables.{places_among, one_table}
use Rattle.pm_binder.proofs.Typed.{and_left, and_right, both_true}

-- ---- no number twice

none_same : (x : ℕ) (xs : List ℕ) → AllByRecursion (λ y. nat_eq x y ≡ false) xs → list_any (nat_eq x) xs ≡ false
none_same x [] h = refl
none_same x (y ∷ xs) h = rw (h.0, none_same x xs h.1) refl

pub differ_distinct : (xs : List ℕ) → IsDistinct nat_eq xs → differ xs ≡ true
unfolding IsDistinct
differ_distinct [] h = refl
differ_distinct (x ∷ xs) h = rw (none_same x xs h.0, differ_distinct xs h.1) refl

pub differ_once : (xs : List ℕ) → differ (once nat_eq xs) ≡ true
differ_once xs = differ_distinct (once nat_eq xs) (distinct_once xs)

-- ---- what tells numbers apart may be taken before or after

module _ (g : ℕ → ℕ) (ws : List ℕ) (tells : (a b : ℕ) → list_any (nat_eq a) ws ≡ true → list_any (nat_eq b) ws ≡ true → nat_eq (g a) (g b) ≡ nat_eq a b) where
  filter_mapped : (a : ℕ) (zs : List ℕ) → list_any (nat_eq a) ws ≡ true → AllByRecursion (λ z. list_any (nat_eq z) ws ≡ true) zs → filter (λ n. not (nat_eq (g a) n)) (map g zs) ≡ map g (filter (λ n. not (nat_eq a n)) zs)
  filter_mapped a [] h hs = refl
  filter_mapped a (z ∷ zs) h hs = rw (tells a z h hs.0) (of (filter_mapped a zs h hs.1) (nat_eq a z))
    where
      of : filter (λ n. not (nat_eq (g a) n)) (map g zs) ≡ map g (filter (λ n. not (nat_eq a n)) zs) → (b : Bool)
          → cond (not b) (g z ∷ filter (λ n. not (nat_eq (g a) n)) (map g zs)) (filter (λ n. not (nat_eq (g a) n)) (map g zs))
          ≡ map g (cond (not b) (z ∷ filter (λ n. not (nat_eq a n)) zs) (filter (λ n. not (nat_eq a n)) zs))
      of rest true = rest
      of rest false = ap (λ r. g z ∷ r) rest

  among_filter : (p : ℕ → Bool) (zs : List ℕ) → AllByRecursion (λ z. list_any (nat_eq z) ws ≡ true) zs → AllByRecursion (λ z. list_any (nat_eq z) ws ≡ true) (filter p zs)
  among_filter p [] h = tt
  among_filter p (z ∷ zs) h = of (among_filter p zs h.1) (p z)
    where
      of : AllByRecursion (λ z. list_any (nat_eq z) ws ≡ true) (filter p zs) → (b : Bool) → AllByRecursion (λ z. list_any (nat_eq z) ws ≡ true) (cond b (z ∷ filter p zs) (filter p zs))
      of rest true = (h.0, rest)
      of rest false = rest

  among_once : (xs : List ℕ) → AllByRecursion (λ z. list_any (nat_eq z) ws ≡ true) xs → AllByRecursion (λ z. list_any (nat_eq z) ws ≡ true) (once nat_eq xs)
  among_once [] h = tt
  among_once (x ∷ xs) h = (h.0, among_filter (λ y. not (nat_eq x y)) (once nat_eq xs) (among_once xs h.1))

  pub once_mapped : (xs : List ℕ) → AllByRecursion (λ z. list_any (nat_eq z) ws ≡ true) xs → once nat_eq (map g xs) ≡ map g (once nat_eq xs)
  once_mapped [] h = refl
  once_mapped (x ∷ xs) h = ap (λ r. g x ∷ r) (ap (filter (λ n. not (nat_eq (g x) n))) (once_mapped xs h.1) ∙ filter_mapped x (once nat_eq xs) h.0 (among_once xs h.1))

-- ---- positions tell what is there apart

position_at : (x : ℕ) (xs : List ℕ) → list_any (nat_eq x) xs ≡ true → get_or xs (position_or_len (nat_eq x) xs) 0 ≡ x
position_at x [] h = absurd (cc h)
position_at x (y ∷ xs) h = of (position_at x xs) (nat_eq x y) refl h
  where
    of : (list_any (nat_eq x) xs ≡ true → get_or xs (position_or_len (nat_eq x) xs) 0 ≡ x) → (b : Bool) → nat_eq x y ≡ b → (b || list_any (nat_eq x) xs) ≡ true → get_or (y ∷ xs) (cond (not b) (1 + position_or_len (nat_eq x) xs) 0) 0 ≡ x
    of rest true e h = sym (eqb-true x y e)
    of rest false e h = let next : 1 + position_or_len (nat_eq x) xs ≡ suc (position_or_len (nat_eq x) xs) = omega arith in ap (λ n. get_or (y ∷ xs) n 0) next ∙ rest h

pub position_tells : (ws : List ℕ) (a b : ℕ) → list_any (nat_eq a) ws ≡ true → list_any (nat_eq b) ws ≡ true → nat_eq (position_or_len (nat_eq a) ws) (position_or_len (nat_eq b) ws) ≡ nat_eq a b
position_tells ws a b h k = of (nat_eq (position_or_len (nat_eq a) ws) (position_or_len (nat_eq b) ws)) (nat_eq a b) refl refl
  where
    of : (x y : Bool) → nat_eq (position_or_len (nat_eq a) ws) (position_or_len (nat_eq b) ws) ≡ x → nat_eq a b ≡ y → x ≡ y
    of true true e f = refl
    of false false e f = refl
    of true false e f =
        let same : a ≡ b = sym (position_at a ws h) ∙ ap (λ n. get_or ws n 0) (eqb-true (position_or_len (nat_eq a) ws) (position_or_len (nat_eq b) ws) e) ∙ position_at b ws k in
        absurd (cc (sym f ∙ eq-eqb a b same))
    of false true e f =
        let same : a ≡ b = eqb-true a b f in
        absurd (cc (sym e ∙ eq-eqb (position_or_len (nat_eq a) ws) (position_or_len (nat_eq b) ws) (ap (λ n. position_or_len (nat_eq n) ws) same)))

-- the positions of different numbers among themselves are 0, 1, ..
past : (x : ℕ) (zs xs : List ℕ) → list_any (nat_eq x) zs ≡ false → position_or_len (nat_eq x) (zs ++ x ∷ xs) ≡ length zs
past x [] xs h = rw (eq-eqb x x refl) refl
past x (z ∷ zs) xs h = of (past x zs xs) (nat_eq x z) refl h
  where
    of : (list_any (nat_eq x) zs ≡ false → position_or_len (nat_eq x) (zs ++ x ∷ xs) ≡ length zs) → (b : Bool) → nat_eq x z ≡ b → (b || list_any (nat_eq x) zs) ≡ false
        → cond (not b) (1 + position_or_len (nat_eq x) (zs ++ x ∷ xs)) 0 ≡ length (z ∷ zs)
    of rest true e h = absurd (cc h)
    of rest false e h = let long : position_or_len (nat_eq x) (zs ++ x ∷ xs) ≡ length zs = rest h in omega arith

same_turned : (x y : ℕ) → nat_eq x y ≡ false → nat_eq y x ≡ false
same_turned x y h = of (nat_eq y x) refl
  where
    of : (b : Bool) → nat_eq y x ≡ b → b ≡ false
    of true e = absurd (cc (sym h ∙ eq-eqb x y (sym (eqb-true y x e))))
    of false e = refl

apart_more : (zs : List ℕ) (x : ℕ) (xs : List ℕ) → AllByRecursion (λ y. list_any (nat_eq y) zs ≡ false) xs → AllByRecursion (λ y. nat_eq x y ≡ false) xs → AllByRecursion (λ y. list_any (nat_eq y) (zs ++ x ∷ []) ≡ false) xs
apart_more zs x [] h k = tt
apart_more zs x (y ∷ xs) h k = (list_any-append (nat_eq y) zs (x ∷ []) ∙ rw (h.0, same_turned x y k.0) refl, apart_more zs x xs h.1 k.1)

ranked : (zs xs : List ℕ) → IsDistinct nat_eq xs → AllByRecursion (λ y. list_any (nat_eq y) zs ≡ false) xs → map (λ y. position_or_len (nat_eq y) (zs ++ xs)) xs ≡ numbers_from (length zs) xs
unfolding IsDistinct
ranked zs [] d h = refl
ranked zs (x ∷ xs) d h =
    let moved : zs ++ (x ∷ xs) ≡ (zs ++ x ∷ []) ++ xs = sym (append_assoc zs (x ∷ []) xs) in
    let long : length (zs ++ x ∷ []) ≡ length zs + 1 = length-append zs (x ∷ []) in
    ap (λ n. n ∷ map (λ y. position_or_len (nat_eq y) (zs ++ (x ∷ xs))) xs) (past x zs xs h.0)
    ∙ ap (λ r. length zs ∷ r) (ap (λ ws. map (λ y. position_or_len (nat_eq y) ws) xs) moved ∙ ranked (zs ++ x ∷ []) xs d.1 (apart_more zs x xs h.1 d.0) ∙ ap (λ n. numbers_from n xs) long)

all_none : (xs : List ℕ) → AllByRecursion (λ y. list_any (nat_eq y) [] ≡ false) xs
all_none [] = tt
all_none (x ∷ xs) = (refl, all_none xs)

ranks : (xs : List ℕ) → map (λ y. position_or_len (nat_eq y) (once nat_eq xs)) (once nat_eq xs) ≡ numbers_from 0 (once nat_eq xs)
ranks xs = ranked [] (once nat_eq xs) (distinct_once xs) (all_none (once nat_eq xs))

-- ---- the tables of sources

among_places : {A : Type 0} (f : A → ℕ) (ws : List ℕ) (xs : List A) → AllByRecursion (λ x. list_any (nat_eq (f x)) ws ≡ true) xs → AllByRecursion (λ z. list_any (nat_eq z) ws ≡ true) (map f xs)
among_places f ws [] h = tt
among_places f ws (x ∷ xs) h = (h.0, among_places f ws xs h.1)

numbered : (schema : List Declaration) (places : List ℕ) (xs : List Source) → map (λ source. source.table) (map (query_source schema places) xs) ≡ map (λ p. position_or_len (nat_eq p) places) (map (place_in schema) xs)
numbered schema places [] = refl
numbered schema places (x ∷ xs) = ap (λ r. position_or_len (nat_eq (place_in schema x)) places ∷ r) (numbered schema places xs)

pub table_numbers : (schema : List Declaration) (sources : List Source) → once nat_eq (map (λ source. source.table) (map (query_source schema (table_places schema sources)) sources)) ≡ numbers_from 0 (table_places schema sources)
table_numbers schema sources =
    let places = table_places schema sources in
    ap (once nat_eq) (numbered schema places sources)
    ∙ once_mapped (λ p. position_or_len (nat_eq p) places) places (position_tells places) (map (place_in schema) sources) (among_places (place_in schema) places sources (places_among schema sources))
    ∙ ranks (map (place_in schema) sources)

pub places_of_tables : (schema : List Declaration) (places : List ℕ) → AllByRecursion (λ p. p < length schema) places → map (λ table. table.place) (tables_at schema places) ≡ places
places_of_tables schema [] h = refl
places_of_tables schema (p ∷ places) h =
    ap (λ ts. map (λ table. table.place) (ts ++ tables_at schema places)) (one_table schema p h.0).2 ∙ ap (λ r. p ∷ r) (places_of_tables schema places h.1)

pub got_all : {A : Type 0} (q : A → Bool) (xs : List A) (i : ℕ) (x : A) → list_all q xs ≡ true → slice_get xs i ≡ Some x → q x ≡ true
got_all q [] i x h e = absurd (cc e)
got_all q (y ∷ xs) zero x h e = let same : y ≡ x = cc e in rw (← same) (and_left (q y) (list_all q xs) h)
got_all q (y ∷ xs) (suc i) x h e = got_all q xs i x (and_right (q y) (list_all q xs) h) e

pub decls_keep : (q : Declaration → Bool) (schema : List Declaration) (places : List ℕ) → list_all q schema ≡ true → AllByRecursion (λ p. p < length schema) places → list_all q (map (λ table. table.decl) (tables_at schema places)) ≡ true
decls_keep q schema [] h below = refl
decls_keep q schema (p ∷ places) h below =
    let one = one_table schema p below.0 in
    ap (λ ts. list_all q (map (λ table. table.decl) (ts ++ tables_at schema places))) one.2
    ∙ both_true (q one.0) (list_all q (map (λ table. table.decl) (tables_at schema places))) (got_all q schema p one.0 h one.1) (decls_keep q schema places h below.1)
