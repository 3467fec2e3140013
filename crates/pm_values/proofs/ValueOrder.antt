-- the order on values and on lists of values is total, and Equal exactly where they are equal
use Rattle.std.proofs.Common.{◌≡◌, ◌∙◌, ℕ, List, [], ◌∷◌, refl, sym, ap}
use Rattle.std.specs.Prelude.{◌≢◌, ◌↔◌, ℤ, pos, false, IsTrue}
use Rattle.std.specs.declared.cmp.Ordering.{Ordering}
use Rattle.std.specs.declared.cmp.Ordering.TheVariants as ordering
use Rattle.std.specs.Ordering.{int_cmp, nat_cmp, ordering_reverse, ordering_then, then_cmp, on, is_gt}
use Rattle.std.specs.Cmp.{IsTotalOrder}
use Rattle.std.specs.Cmp.Lexicographic.{slice_cmp}
use Rattle.std.proofs.lemmas.Cmp.{upto, tied_itself, nat_cmp_total, int_cmp_total, nat_list_cmp_total, lists_total, on_total, then_total}
use Rattle.std.proofs.lemmas.Map.Lookups.{CmpEqualImpliesEq, exact_signed, exact_bytes}
use Rattle.pm_values.specs.declared.value.Value.{Value}
use Rattle.pm_values.specs.declared.value.Value.TheVariants as value
use Rattle.pm_values.specs.Order.{value_cmp, values_cmp}
use Rattle.pm_values.specs.Equality.{is_equal, same_values}

-- NULL, a number or a text
rank : Value → ℕ
rank value.Null = 0
rank (value.Int n) = 1
rank (value.Text t) = 2

number : Value → ℤ
number value.Null = pos 0
number (value.Int n) = n
number (value.Text t) = pos 0

text : Value → List ℕ
text value.Null = []
text (value.Int n) = []
text (value.Text t) = t

-- what kind of value it is, then the number, then the text
by_parts : Value → Value → Ordering
by_parts = then_cmp (on rank nat_cmp) (then_cmp (on number int_cmp) (on text (slice_cmp nat_cmp)))

then_tied : (o : Ordering) → ordering_then o ordering.Equal ≡ o
then_tied ordering.Less = refl
then_tied ordering.Equal = refl
then_tied ordering.Greater = refl

is_by_parts : (a b : Value) → value_cmp a b ≡ by_parts a b
unfolding by_parts rank number text
is_by_parts value.Null value.Null = refl
is_by_parts value.Null (value.Int n) = refl
is_by_parts value.Null (value.Text t) = refl
is_by_parts (value.Int m) value.Null = refl
is_by_parts (value.Int m) (value.Int n) = sym (then_tied (int_cmp m n))
is_by_parts (value.Int m) (value.Text t) = refl
is_by_parts (value.Text s) value.Null = refl
is_by_parts (value.Text s) (value.Int n) = refl
is_by_parts (value.Text s) (value.Text t) = refl

by_parts_total : IsTotalOrder by_parts
unfolding by_parts
by_parts_total = then_total (on_total rank nat_cmp_total) (then_total (on_total number int_cmp_total) (on_total text nat_list_cmp_total))

pub value_cmp_total : IsTotalOrder value_cmp
value_cmp_total = record {
  antisymm = λ x y. is_by_parts x y ∙ by_parts_total.antisymm x y ∙ ap ordering_reverse (sym (is_by_parts y x));
  trans = λ x y z h g. is_by_parts x z ∙ by_parts_total.trans x y z (sym (is_by_parts x y) ∙ h) (sym (is_by_parts y z) ∙ g);
  congr = λ x y z h. is_by_parts x z ∙ by_parts_total.congr x y z (sym (is_by_parts x y) ∙ h) ∙ sym (is_by_parts y z);
}

pub values_cmp_total : IsTotalOrder values_cmp
values_cmp_total = lists_total value_cmp_total

pub exact_value : CmpEqualImpliesEq value_cmp
exact_value value.Null value.Null h = refl
exact_value value.Null (value.Int n) h = cc
exact_value value.Null (value.Text t) h = cc
exact_value (value.Int m) value.Null h = cc
exact_value (value.Int m) (value.Int n) h = ap value.Int (exact_signed m n h)
exact_value (value.Int m) (value.Text t) h = cc
exact_value (value.Text s) value.Null h = cc
exact_value (value.Text s) (value.Int n) h = cc
exact_value (value.Text s) (value.Text t) h = ap value.Text (exact_bytes s t h)

then_both : (first rest : Ordering) → ordering_then first rest ≡ ordering.Equal → (first ≡ ordering.Equal) × (rest ≡ ordering.Equal)
then_both ordering.Less rest h = absurd (cc)
then_both ordering.Equal rest h = (refl, h)
then_both ordering.Greater rest h = absurd (cc)

pub exact_values : CmpEqualImpliesEq values_cmp
exact_values [] [] h = refl
exact_values [] (b ∷ bs) h = absurd (cc)
exact_values (a ∷ as₁) [] h = absurd (cc)
exact_values (a ∷ as₁) (b ∷ bs) h =
    let both = then_both (value_cmp a b) (values_cmp as₁ bs) h in
    let first : a ≡ b = exact_value a b both.0 in
    let rest : as₁ ≡ bs = exact_values as₁ bs both.1 in
    cc

pub value_cmp_itself : (a : Value) → value_cmp a a ≡ ordering.Equal
value_cmp_itself a = tied_itself value_cmp_total a

pub values_cmp_itself : (a : List Value) → values_cmp a a ≡ ordering.Equal
values_cmp_itself a = tied_itself values_cmp_total a

-- Equal exactly where they are equal
pub value_cmp_equal : (a b : Value) → (value_cmp a b ≡ ordering.Equal) ↔ (a ≡ b)
value_cmp_equal a b = (exact_value a b, λ same. ap (value_cmp a) (sym same) ∙ value_cmp_itself a)

pub values_cmp_equal : (a b : List Value) → (values_cmp a b ≡ ordering.Equal) ↔ (a ≡ b)
values_cmp_equal a b = (exact_values a b, λ same. ap (values_cmp a) (sym same) ∙ values_cmp_itself a)

-- the other way round it is the reverse
pub values_cmp_reversed : (a b : List Value) → values_cmp b a ≡ ordering_reverse (values_cmp a b)
values_cmp_reversed a b = values_cmp_total.antisymm b a

above : (o : Ordering) → o ≢ ordering.Greater → is_gt o ≡ false
above ordering.Less h = refl
above ordering.Equal h = refl
above ordering.Greater h = absurd (h refl)

not_above : (o : Ordering) → is_gt o ≡ false → o ≢ ordering.Greater
not_above ordering.Less h g = cc
not_above ordering.Equal h g = cc
not_above ordering.Greater h g = cc

-- what is not after another is not after what that one is not after
pub values_cmp_chains : (a b c : List Value) → values_cmp a b ≢ ordering.Greater → values_cmp b c ≢ ordering.Greater → values_cmp a c ≢ ordering.Greater
values_cmp_chains a b c h g =
    not_above (values_cmp a c) (upto values_cmp_total a b c (above (values_cmp a b) h) (above (values_cmp b c) g))

tests_equal : (o : Ordering) → IsTrue (is_equal o) ↔ (o ≡ ordering.Equal)
tests_equal ordering.Less = (λ h. cc, λ h. cc)
tests_equal ordering.Equal = (λ h. refl, λ h. refl)
tests_equal ordering.Greater = (λ h. cc, λ h. cc)

pub same_values_equal : (a b : List Value) → IsTrue (same_values a b) ↔ (a ≡ b)
same_values_equal a b = (
  λ h. exact_values a b ((tests_equal (values_cmp a b)).0 h),
  λ same. (tests_equal (values_cmp a b)).1 ((values_cmp_equal a b).1 same),
)

pub value_tests_equal : (a b : Value) → IsTrue (is_equal (value_cmp a b)) ↔ (a ≡ b)
value_tests_equal a b = (
  λ h. exact_value a b ((tests_equal (value_cmp a b)).0 h),
  λ same. (tests_equal (value_cmp a b)).1 ((value_cmp_equal a b).1 same),
)
