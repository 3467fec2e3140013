-- a merge join compares all pairs: as many different ones of them as there are, are all of them
use Rattle.std.proofs.Common.{◌≡◌, ℕ, ◌≤◌, zero, suc, Bool, true, false, cond, not, ◌&&◌, List, [], ◌∷◌, length, take, refl, ap, ◌∙◌, ⊎_elim, arith, Option, None, Some}
use Rattle.std.specs.Prelude.{nat_eq, slice_get}
use Rattle.std.specs.List.{list_all, list_any, AllByRecursion, IsDistinct}
use Rattle.std.proofs.lemmas.Bool.{and_parts, and_left, or_parts, or_cases, eqb-true, true_from_ne_false, not-true}
use Rattle.std.proofs.lemmas.Map.Made.{length-le_from_is_member}
use Rattle.pm_values.specs.Row.{Row}
use Rattle.pm_values.specs.Table.{Declaration}
use Rattle.pm_plan.specs.declared.plan.Pair.{Pair}
use Rattle.pm_plan.specs.Joins.{right_columns}
use Rattle.pm_plan.specs.Unique.{key_of, key_within}
use Rattle.pm_plan.specs.References.{paired, same_pair, pairs_within}
use Rattle.pm_plan.specs.Valid.{order_or_none, order_of}
use Rattle.pm_query.specs.declared.query.Choice.{Choice}
use Rattle.pm_query.specs.declared.query.Choice.TheVariants as choice
use Rattle.pm_query.specs.Bound.{differ, differ_if, names_once}
use Rattle.pm_query.specs.Build.{Way, ByHash, ByMerge, ByIndex, merge_pairs, by_merge_or, by_index_if, way_of}
use Rattle.pm_answers.proofs.Lists.{list_all-weaker, same_tests}
use Rattle.pm_answers.proofs.Taken.{meets_pair}
use Rattle.pm_answers.proofs.Members.{pair-same, pairs_alike, member-passes, members-pass, own-members, not_member}

-- ---- counting

module _ (ps qs : List Pair) (different : IsDistinct same_pair ps) (many : length qs ≤ length ps) (within : pairs_within ps qs ≡ true) where
  no_room : (q : Pair) → list_any (same_pair q) qs ≡ true → list_any (same_pair q) ps ≡ false → ⊥
  unfolding IsDistinct
  no_room q there missing =
      let more : length (q ∷ ps) ≤ length qs =
      length-le_from_is_member pairs_alike (q ∷ ps) qs (not_member same_pair pair-same pairs_alike q ps missing, different)
      (λ x h. ⊎_elim
      (λ e. ap (λ z. list_any (same_pair z) qs) (pair-same x q e) ∙ there)
      (λ e. member-passes same_pair pair-same (λ z. list_any (same_pair z) qs) x ps e within)
      (or_cases (same_pair x q) (list_any (same_pair x) ps) h)) in
      omega (arith, more, many)

  covered : pairs_within qs ps ≡ true
  covered =
      list_all-weaker (λ q. list_any (same_pair q) qs) (λ q. list_any (same_pair q) ps)
      (λ q there. true_from_ne_false (list_any (same_pair q) ps) (no_room q there)) qs (own-members same_pair pair-same pairs_alike qs)

-- ---- the pairs of two ORDERs

-- these pairs compare the same columns
abbrev pub SamePairs : List Pair → List Pair → Type 0
SamePairs ps qs = (l r : Row) → list_all (meets_pair l r) ps ≡ list_all (meets_pair l r) qs

same_pairs : (ps qs : List Pair) → IsDistinct same_pair ps → length qs ≤ length ps → pairs_within ps qs ≡ true → SamePairs ps qs
same_pairs ps qs different many within l r =
    same_tests (list_all (meets_pair l r) ps) (list_all (meets_pair l r) qs)
    (members-pass same_pair pair-same (meets_pair l r) qs ps (covered ps qs different many within))
    (members-pass same_pair pair-same (meets_pair l r) ps qs within)

lefts_apart : (x y k : ℕ) (xs ys : List ℕ) → list_any (nat_eq x) xs ≡ false → AllByRecursion (λ p. same_pair (record { left = x; right = y }) p ≡ false) (take k (paired xs ys))
lefts_apart x y zero xs ys h = tt
lefts_apart x y (suc k) [] ys h = tt
lefts_apart x y (suc k) (z ∷ xs) [] h = tt
lefts_apart x y (suc k) (z ∷ xs) (w ∷ ys) h =
    let parts = or_parts (nat_eq x z) (list_any (nat_eq x) xs) h in
    (and_left (nat_eq x z) (nat_eq y w) parts.0, lefts_apart x y k xs ys parts.1)

paired-different : (k : ℕ) (xs ys : List ℕ) → differ xs ≡ true → IsDistinct same_pair (take k (paired xs ys))
unfolding IsDistinct
paired-different zero xs ys d = tt
paired-different (suc k) [] ys d = tt
paired-different (suc k) (x ∷ xs) [] d = tt
paired-different (suc k) (x ∷ xs) (y ∷ ys) d =
    let parts = and_parts (not (list_any (nat_eq x) xs)) (differ xs) d in
    (lefts_apart x y k xs ys (not-true (list_any (nat_eq x) xs) parts.0), paired-different k xs ys parts.1)

-- the ORDER of a declared table names no column twice
pub order-differs : (decls : List Declaration) (table : ℕ) → list_all names_once decls ≡ true → differ (order_of (slice_get decls table)) ≡ true
order-differs [] table all = refl
order-differs (decl ∷ decls) zero all =
    let here = and_parts (names_once decl) (list_all names_once decls) all in
    if_some decl.order (and_parts (differ_if decl.key) (differ_if decl.order) (and_parts (differ_if decl.key && differ_if decl.order) (list_all (λ reference. differ reference.columns && differ reference.keys) decl.references) here.0).0).1
  where
    if_some : (o : Option (List ℕ)) → differ_if o ≡ true → differ (order_or_none o) ≡ true
    if_some None h = refl
    if_some (Some order) h = h
order-differs (decl ∷ decls) (suc table) all = order-differs decls table (and_parts (names_once decl) (list_all names_once decls) all).1

-- ---- the way of joining compares the pairs, and pads no row

abbrev pub PairsFitIf : Option (List Pair) → List Pair → Type 0
PairsFitIf None pairs = Unit {0}
PairsFitIf (Some ordered) pairs = SamePairs ordered pairs

abbrev pub WayFits : Way → List Pair → Type 0
WayFits (ByHash pad) pairs = pad ≡ false
WayFits (ByMerge ordered) pairs = SamePairs ordered pairs
WayFits ByIndex pairs = Unit {0}

merge_pairs-fit : (lefts rights : List ℕ) (pairs : List Pair) → differ lefts ≡ true → PairsFitIf (merge_pairs lefts rights pairs) pairs
merge_pairs-fit lefts rights pairs once =
    let ordered : List Pair = take (length pairs) (paired lefts rights) in
    let tests : Bool = nat_eq (length ordered) (length pairs) && pairs_within ordered pairs in
    let some : Option (List Pair) = Some ordered in
    elim tests as (λ t. (tests ≡ t) → PairsFitIf (cond t some None) pairs) [
      | true ↦ λ h.
          let parts = and_parts (nat_eq (length ordered) (length pairs)) (pairs_within ordered pairs) h in
          let long : length ordered ≡ length pairs = eqb-true (length ordered) (length pairs) parts.0 in
          same_pairs ordered pairs (paired-different (length pairs) lefts rights once) (omega (arith, long)) parts.1
      | false ↦ λ h. tt
    ]
    refl

by_merge_or-fits : (o : Option (List Pair)) (way : Way) (pairs : List Pair) → PairsFitIf o pairs → WayFits way pairs → WayFits (by_merge_or o way) pairs
by_merge_or-fits None way pairs f g = g
by_merge_or-fits (Some ordered) way pairs f g = f

by_index_if-fits : (b : Bool) (pairs : List Pair) → WayFits (by_index_if b) pairs
by_index_if-fits true pairs = tt
by_index_if-fits false pairs = refl

pub way-fits : (c : Choice) (first : List ℕ) (decl : Option Declaration) (pairs : List Pair) (is_small : Bool) → differ first ≡ true → WayFits (way_of c false first decl pairs is_small) pairs
way-fits choice.Auto first decl pairs is_small once =
    by_merge_or-fits (merge_pairs first (order_of decl) pairs) (by_index_if (key_within (right_columns pairs) (key_of decl) && is_small)) pairs
    (merge_pairs-fit first (order_of decl) pairs once) (by_index_if-fits (key_within (right_columns pairs) (key_of decl) && is_small) pairs)
way-fits choice.Hash first decl pairs is_small once = refl
way-fits choice.Merge first decl pairs is_small once =
    by_merge_or-fits (merge_pairs first (order_of decl) pairs) (ByHash false) pairs (merge_pairs-fit first (order_of decl) pairs once) refl
way-fits choice.Index first decl pairs is_small once = tt
