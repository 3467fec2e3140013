-- how many different items there are at most
use Rattle.std.proofs.Common.{◌≡◌, ℕ, zero, suc, ◌+◌, ◌*◌, ◌<◌, ◌≤◌, Bool, true, false, not, ◌&&◌, ◌||◌, List, [], ◌∷◌, ◌++◌, length, map, refl, sym, ap, ◌∙◌, subst, arith}
use Rattle.std.specs.Prelude.{nat_eq, nat_lt}
use Rattle.std.specs.List.{list_all, list_any, AllByRecursion, IsDistinct}
use Rattle.std.specs.Cmp.{IsEquivalence}
use Rattle.std.proofs.lemmas.Bool.{and_parts, and_from, or_left, or_right, eqb-true, ne_eqb, eq-eqb, ltb-true, lt-ltb, cases_eq, not-true, true≢false}
use Rattle.std.proofs.lemmas.Bool.Decides.{nat_tests}
use Rattle.std.proofs.lemmas.List.{length-map}
use Rattle.std.proofs.lemmas.List.Folds.{list_any-append}
use Rattle.std.proofs.lemmas.Nat.{mul-add-lt, same_from_place}
use mathlib.Core.Logic.{inl, inr}
use Rattle.pm_values.specs.declared.value.Kind.{Kind}
use Rattle.pm_plan.specs.declared.plan.Aggregate.{Aggregate}
use Rattle.pm_plan.specs.declared.plan.Aggregate.TheVariants as aggregate
use Rattle.pm_plan.specs.declared.plan.Pair.{Pair}
use Rattle.pm_plan.specs.References.{same_pair}
use Rattle.pm_plan.specs.Kinds.{kind_at, is_number, item_fits}
use Rattle.pm_plan.specs.Valid.{are_below}
use Rattle.pm_query.specs.Bound.{differ, same_aggregate, aggregates_differ}
use Rattle.pm_answers.proofs.Lists.{list_all-weaker, same_tests}
use Rattle.pm_answers.proofs.Members.{few-members, not_member, differ-distinct}

-- ---- numbers

below : ℕ → List ℕ
below zero = []
below (suc n) = n ∷ below n

length-below : (n : ℕ) → length (below n) ≡ n
unfolding below
length-below zero = refl
length-below (suc n) = ap suc (length-below n)

numbers_alike : IsEquivalence nat_eq
numbers_alike = record { refl = λ p. grind (arith, nat_tests); symm = λ p q. grind (arith, nat_tests); congr = λ p q r h. grind (arith, nat_tests) }

is_below : (n x : ℕ) → x < n → list_any (nat_eq x) (below n) ≡ true
unfolding below
is_below zero x low = absurd (omega arith)
is_below (suc n) x low =
    elim (cases_eq x n) [
      | inl same ↦ or_left (nat_eq x n) (list_any (nat_eq x) (below n)) (eq-eqb x n same)
      | inr other ↦ or_right (nat_eq x n) (list_any (nat_eq x) (below n)) (is_below n x (omega (arith, other, low)))
    ]

few_numbers : (n : ℕ) (xs : List ℕ) → IsDistinct nat_eq xs → are_below n xs ≡ true → length xs ≤ n
few_numbers n xs different low =
    subst (λ m. length xs ≤ m) (length-below n)
    (few-members nat_eq (λ a b. eqb-true a b) numbers_alike xs (below n) different
    (list_all-weaker (λ x. nat_lt x n) (λ x. list_any (nat_eq x) (below n)) (λ x h. is_below n x (ltb-true x n h)) xs low))

-- different columns of a row
pub few-columns : (n : ℕ) (columns : List ℕ) → differ columns ≡ true → are_below n columns ≡ true → length columns ≤ n
few-columns n columns once low = few_numbers n columns (differ-distinct columns once) low

-- ---- pairs of a column of one row and one of another

module _ (wide high : ℕ) where
  abbrev fits_in : Pair → Bool
  fits_in p = nat_lt p.left high && nat_lt p.right wide

  number_of : Pair → ℕ
  number_of p = p.left * wide + p.right

  one_number : (p q : Pair) → fits_in p ≡ true → fits_in q ≡ true → number_of p ≡ number_of q → same_pair p q ≡ true
  unfolding number_of
  one_number p q fp fq e =
      let right_p : p.right < wide = ltb-true p.right wide (and_parts (nat_lt p.left high) (nat_lt p.right wide) fp).1 in
      let right_q : q.right < wide = ltb-true q.right wide (and_parts (nat_lt q.left high) (nat_lt q.right wide) fq).1 in
      let same = same_from_place p.left p.right q.left q.right wide right_p right_q e in
      and_from (nat_eq p.left q.left) (nat_eq p.right q.right) (eq-eqb p.left q.left same.0) (eq-eqb p.right q.right same.1)

  numbers-apart : (p : Pair) (ps : List Pair) → fits_in p ≡ true → list_all fits_in ps ≡ true → AllByRecursion (λ q. same_pair p q ≡ false) ps
      → AllByRecursion (λ n. nat_eq (number_of p) n ≡ false) (map number_of ps)
  numbers-apart p [] fp all apart = tt
  numbers-apart p (q ∷ ps) fp all apart =
      let parts = and_parts (fits_in q) (list_all fits_in ps) all in
      (ne_eqb (number_of p) (number_of q) (λ e. true≢false (sym (one_number p q fp parts.0 e) ∙ apart.0)), numbers-apart p ps fp parts.1 apart.1)

  numbers-distinct : (ps : List Pair) → list_all fits_in ps ≡ true → IsDistinct same_pair ps → IsDistinct nat_eq (map number_of ps)
  unfolding IsDistinct
  numbers-distinct [] all d = tt
  numbers-distinct (p ∷ ps) all d =
      let parts = and_parts (fits_in p) (list_all fits_in ps) all in
      (numbers-apart p ps parts.0 parts.1 d.0, numbers-distinct ps parts.1 d.1)

  numbers-below : (ps : List Pair) → list_all fits_in ps ≡ true → are_below (wide * high) (map number_of ps) ≡ true
  unfolding number_of
  numbers-below [] all = refl
  numbers-below (p ∷ ps) all =
      let parts = and_parts (fits_in p) (list_all fits_in ps) all in
      let here = and_parts (nat_lt p.left high) (nat_lt p.right wide) parts.0 in
      and_from (nat_lt (number_of p) (wide * high)) (are_below (wide * high) (map number_of ps))
      (lt-ltb (number_of p) (wide * high) (mul-add-lt p.left wide p.right high (ltb-true p.left high here.0) (ltb-true p.right wide here.1))) (numbers-below ps parts.1)

  pub few-pairs : (ps : List Pair) → list_all fits_in ps ≡ true → IsDistinct same_pair ps → length ps ≤ wide * high
  few-pairs ps all d =
      subst (λ n. n ≤ wide * high) (length-map ps number_of) (few_numbers (wide * high) (map number_of ps) (numbers-distinct ps all d) (numbers-below ps all))

-- ---- aggregates of columns

pub aggregate-same : (a b : Aggregate) → same_aggregate a b ≡ true → a ≡ b
aggregate-same aggregate.CountAll aggregate.CountAll e = refl
aggregate-same aggregate.CountAll b e = absurd (cc e)
aggregate-same (aggregate.Count a) (aggregate.Count b) e = ap aggregate.Count (eqb-true a b e)
aggregate-same (aggregate.Count a) b e = absurd (cc e)
aggregate-same (aggregate.Sum a) (aggregate.Sum b) e = ap aggregate.Sum (eqb-true a b e)
aggregate-same (aggregate.Sum a) b e = absurd (cc e)
aggregate-same (aggregate.Min a) (aggregate.Min b) e = ap aggregate.Min (eqb-true a b e)
aggregate-same (aggregate.Min a) b e = absurd (cc e)
aggregate-same (aggregate.Max a) (aggregate.Max b) e = ap aggregate.Max (eqb-true a b e)
aggregate-same (aggregate.Max a) b e = absurd (cc e)

aggregate-itself : (a : Aggregate) → same_aggregate a a ≡ true
aggregate-itself aggregate.CountAll = refl
aggregate-itself (aggregate.Count a) = eq-eqb a a refl
aggregate-itself (aggregate.Sum a) = eq-eqb a a refl
aggregate-itself (aggregate.Min a) = eq-eqb a a refl
aggregate-itself (aggregate.Max a) = eq-eqb a a refl

aggregates_alike : IsEquivalence same_aggregate
aggregates_alike = record {
  refl = aggregate-itself;
  symm = λ a b. same_tests (same_aggregate a b) (same_aggregate b a) (turned a b) (turned b a);
  congr = λ a b c h. ap (λ x. same_aggregate x c) (aggregate-same a b h);
}
  where
    turned : (a b : Aggregate) → same_aggregate a b ≡ true → same_aggregate b a ≡ true
    turned a b h = let same : a ≡ b = aggregate-same a b h in ap (λ x. same_aggregate x a) (sym same) ∙ aggregate-itself a

-- those of one column, and all of so many columns
abbrev four : ℕ → List Aggregate
four n = aggregate.Count n ∷ aggregate.Sum n ∷ aggregate.Min n ∷ aggregate.Max n ∷ []

aggregates : ℕ → List Aggregate
aggregates zero = aggregate.CountAll ∷ []
aggregates (suc n) = four n ++ aggregates n

length-aggregates : (n : ℕ) → length (aggregates n) ≡ 1 + 4 * n
unfolding aggregates
length-aggregates zero = refl
length-aggregates (suc n) = ap (λ k. suc (suc (suc (suc k)))) (length-aggregates n) ∙ omega arith

counts_among : (n : ℕ) → list_any (same_aggregate aggregate.CountAll) (aggregates n) ≡ true
unfolding aggregates
counts_among zero = refl
counts_among (suc n) = counts_among n

module _ (of : ℕ → Aggregate) (here : (n : ℕ) → list_any (same_aggregate (of n)) (four n) ≡ true) where
  among : (n x : ℕ) → x < n → list_any (same_aggregate (of x)) (aggregates n) ≡ true
  unfolding aggregates
  among zero x low = absurd (omega arith)
  among (suc n) x low =
      list_any-append (same_aggregate (of x)) (four n) (aggregates n)
      ∙ elim (cases_eq x n) [
        | inl same ↦ or_left (list_any (same_aggregate (of x)) (four n)) (list_any (same_aggregate (of x)) (aggregates n)) (ap (λ k. list_any (same_aggregate (of k)) (four n)) same ∙ here n)
        | inr other ↦ or_right (list_any (same_aggregate (of x)) (four n)) (list_any (same_aggregate (of x)) (aggregates n)) (among n x (omega (arith, other, low)))
      ]

itself_or : (n : ℕ) (b : Bool) → (nat_eq n n || b) ≡ true
itself_or n b = or_left (nat_eq n n) b (eq-eqb n n refl)

fitting_among : (kinds : List Kind) (a : Aggregate) → item_fits kinds a ≡ true → list_any (same_aggregate a) (aggregates (length kinds)) ≡ true
fitting_among kinds aggregate.CountAll fit = counts_among (length kinds)
fitting_among kinds (aggregate.Count x) fit = among aggregate.Count (λ n. itself_or n false) (length kinds) x (ltb-true x (length kinds) fit)
fitting_among kinds (aggregate.Sum x) fit = among aggregate.Sum (λ n. itself_or n false) (length kinds) x (ltb-true x (length kinds) (and_parts (nat_lt x (length kinds)) (is_number (kind_at kinds x)) fit).0)
fitting_among kinds (aggregate.Min x) fit = among aggregate.Min (λ n. itself_or n false) (length kinds) x (ltb-true x (length kinds) fit)
fitting_among kinds (aggregate.Max x) fit = among aggregate.Max (λ n. itself_or n false) (length kinds) x (ltb-true x (length kinds) fit)

aggregates-distinct : (items : List Aggregate) → aggregates_differ items ≡ true → IsDistinct same_aggregate items
unfolding IsDistinct
aggregates-distinct [] d = tt
aggregates-distinct (a ∷ items) d =
    let parts = and_parts (not (list_any (same_aggregate a) items)) (aggregates_differ items) d in
    (not_member same_aggregate aggregate-same aggregates_alike a items (not-true (list_any (same_aggregate a) items) parts.0), aggregates-distinct items parts.1)

-- different aggregates of the columns of a row
pub few-aggregates : (kinds : List Kind) (items : List Aggregate) → aggregates_differ items ≡ true → list_all (item_fits kinds) items ≡ true → length items ≤ 1 + 4 * length kinds
few-aggregates kinds items once fit =
    subst (λ m. length items ≤ m) (length-aggregates (length kinds))
    (few-members same_aggregate aggregate-same aggregates_alike items (aggregates (length kinds)) (aggregates-distinct items once)
    (list_all-weaker (item_fits kinds) (λ a. list_any (same_aggregate a) (aggregates (length kinds))) (fitting_among kinds) items fit))
