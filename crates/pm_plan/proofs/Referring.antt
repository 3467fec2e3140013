-- the pairs of references, and the entries of the two sides of a join
use Rattle.std.proofs.Common.{◌≡◌, ◌<◌, ◌≤◌, ℕ, suc, zero, ◌-◌, Bool, true, false, ◌&&◌, ◌||◌, not, List, [], ◌∷◌, ◌++◌, length, map, min, Some, None, refl, sym, ap, ◌∙◌, arith}
use Rattle.std.specs.Prelude.{slice_get, nat_le, All}
use Rattle.std.specs.List.{list_any, list_all}
use Rattle.std.proofs.lemmas.Bool.Decides.{nat_tests}
use Rattle.std.proofs.lemmas.List.Folds.{list_all-map, list_any-append}
use Rattle.std.proofs.lemmas.List.Elements.{All-head, All-tail}
use Rattle.pm_values.specs.Table.{Declaration}
use Rattle.pm_plan.specs.declared.plan.Pair.{Pair}
use Rattle.pm_plan.specs.References.{Entry, padded_if, paired, pairs_within, same_pair, is_required, reads_required, refers_by, refers_to, references_or_none}
use Rattle.pm_plan.specs.Kinds.{columns_of}
use Rattle.pm_plan.specs.Fitting.{unpadded, shifted}

pub length-paired : (columns keys : List ℕ) → length (paired columns keys) ≤ length columns
length-paired [] keys = omega arith
length-paired (column ∷ columns) [] = omega arith
length-paired (column ∷ columns) (key ∷ keys) = omega (arith, length-paired columns keys)

pub paired-some : (columns keys : List ℕ) (i column key : ℕ) → Some column ≡ slice_get columns i → Some key ≡ slice_get keys i
    → Some (record { left = column; right = key }) ≡ slice_get (paired columns keys) i
paired-some [] keys i column key e k = absurd cc
paired-some (c ∷ columns) [] i column key e k = absurd cc
paired-some (c ∷ columns) (d ∷ keys) zero column key e k = let p : column ≡ c = cc in let q : key ≡ d = cc in rw (p, q) refl
paired-some (c ∷ columns) (d ∷ keys) (suc i) column key e k = paired-some columns keys i column key e k

pub paired-none_left : (columns keys : List ℕ) (i : ℕ) → None ≡ slice_get columns i → None ≡ slice_get (paired columns keys) i
paired-none_left [] keys i e = refl
paired-none_left (c ∷ columns) [] i e = refl
paired-none_left (c ∷ columns) (d ∷ keys) zero e = absurd cc
paired-none_left (c ∷ columns) (d ∷ keys) (suc i) e = paired-none_left columns keys i e

pub paired-none_right : (columns keys : List ℕ) (i : ℕ) → None ≡ slice_get keys i → None ≡ slice_get (paired columns keys) i
paired-none_right [] keys i e = refl
paired-none_right (c ∷ columns) [] i e = refl
paired-none_right (c ∷ columns) (d ∷ keys) zero e = absurd cc
paired-none_right (c ∷ columns) (d ∷ keys) (suc i) e = paired-none_right columns keys i e

list_any-map : {A B : Type 0} (f : B → Bool) (g : A → B) (xs : List A) → list_any f (map g xs) ≡ list_any (λ x. f (g x)) xs
list_any-map f g [] = refl
list_any-map f g (x ∷ xs) = ap (λ b. f (g x) || b) (list_any-map f g xs)

-- in two lists that are the same everywhere
list_all-same : {A : Type 0} (f g : A → Bool) (xs : List A) → ((x : A) → f x ≡ g x) → list_all f xs ≡ list_all g xs
list_all-same f g [] e = refl
list_all-same f g (x ∷ xs) e = rw (e x) (ap (λ b. g x && b) (list_all-same f g xs e))

-- entries that a left join pads are never referred from; the others stay
none_padded : (decls : List Declaration) (target : ℕ) (pairs : List Pair) (entries : List Entry) → list_any (refers_to decls target pairs) (padded_if true entries) ≡ false
none_padded decls target pairs [] = refl
none_padded decls target pairs (entry ∷ entries) = none_padded decls target pairs entries

padded_if-false : (entries : List Entry) → padded_if false entries ≡ entries
padded_if-false [] = refl
padded_if-false (entry ∷ entries) = ap (λ es. entry ∷ es) (padded_if-false entries)

-- columns are counted from a number past all of them as from any other such
cut_shifted : (most from first : ℕ) (pairs : List Pair) → from ≡ min first most → All (λ pair. pair.left < most) pairs → map (shifted from) pairs ≡ map (shifted first) pairs
cut_shifted most from first [] e small = refl
cut_shifted most from first (pair ∷ pairs) e small =
    let low : pair.left < most = All-head (λ p. p.left < most) pair pairs small in
    let same : pair.left - from ≡ pair.left - first = omega (arith, e, low) in
    let here : shifted from pair ≡ shifted first pair = ap (λ k. record { left = k; right = pair.right }) same in
    let more = cut_shifted most from first pairs e (All-tail (λ p. p.left < most) pair pairs small) in cc

cut_required : (decls : List Declaration) (most table from first : ℕ) (pairs : List Pair) → from ≡ min first most → All (λ pair. pair.left < most) pairs
    → list_all (reads_required decls (unpadded table from)) pairs ≡ list_all (reads_required decls (unpadded table first)) pairs
cut_required decls most table from first [] e small = refl
cut_required decls most table from first (pair ∷ pairs) e small =
    let low : pair.left < most = All-head (λ p. p.left < most) pair pairs small in
    let same : pair.left - from ≡ pair.left - first = omega (arith, e, low) in
    let near : nat_le from pair.left ≡ nat_le first pair.left = grind (arith, nat_tests, e, low) in
    let here : reads_required decls (unpadded table from) pair ≡ reads_required decls (unpadded table first) pair =
    ap (λ b. b && is_required (slice_get (columns_of decls table) (pair.left - from))) near
    ∙ ap (λ k. nat_le first pair.left && is_required (slice_get (columns_of decls table) k)) same in
    let more = cut_required decls most table from first pairs e (All-tail (λ p. p.left < most) pair pairs small) in cc

pub refers_to-cut : (decls : List Declaration) (most target table from first : ℕ) (pairs : List Pair) → from ≡ min first most → All (λ pair. pair.left < most) pairs
    → refers_to decls target pairs (unpadded table from) ≡ refers_to decls target pairs (unpadded table first)
refers_to-cut decls most target table from first pairs e small =
    ap (λ b. b && list_any (refers_by decls target (map (shifted from) pairs)) (references_or_none (slice_get decls table))) (cut_required decls most table from first pairs e small)
    ∙ ap (λ ps. list_all (reads_required decls (unpadded table first)) pairs && list_any (refers_by decls target ps) (references_or_none (slice_get decls table)))
    (cut_shifted most from first pairs e small)

-- one of the pairs, as a test of each
pub pairs_within-left : (from : ℕ) (pairs all : List Pair) → list_all (λ pair. list_any (same_pair (shifted from pair)) all) pairs ≡ pairs_within (map (shifted from) pairs) all
pairs_within-left from pairs all = sym (list_all-map (λ p. list_any (same_pair p) all) (shifted from) pairs)

pub pairs_within-right : (from : ℕ) (pairs all : List Pair) → list_all (λ other. list_any (λ pair. same_pair other (shifted from pair)) pairs) all ≡ pairs_within all (map (shifted from) pairs)
pairs_within-right from pairs all =
    list_all-same (λ other. list_any (λ pair. same_pair other (shifted from pair)) pairs) (λ other. list_any (same_pair other) (map (shifted from) pairs)) all
    (λ other. sym (list_any-map (same_pair other) (shifted from) pairs))

-- ---- which entry refers

module _ (decls : List Declaration) (target : ℕ) (pairs : List Pair) where
  -- one of these entries refers
  abbrev pub any_refers : List Entry → Bool
  any_refers entries = list_any (refers_to decls target pairs) entries

  pub one_refers : (entry : Entry) → refers_to decls target pairs entry ≡ any_refers (entry ∷ [])
  one_refers entry = elim (refers_to decls target pairs entry) as (λ b. b ≡ (b || false)) [ true ↦ refl | false ↦ refl ]

  -- of two sides
  pub any_refers-append : (left right : List Entry) → any_refers (left ++ right) ≡ (any_refers left || any_refers right)
  any_refers-append left right = list_any-append (refers_to decls target pairs) left right

  pub any_refers-padded : (pad : Bool) (entries : List Entry) → any_refers (padded_if pad entries) ≡ (not pad && any_refers entries)
  any_refers-padded true entries = none_padded decls target pairs entries
  any_refers-padded false entries = ap any_refers (padded_if-false entries)
