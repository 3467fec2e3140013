-- lists of values are one key where they are equal and hold no NULL
use Rattle.std.proofs.Common.{◌≡◌, ◌∙◌, inl, inr, List, [], ◌∷◌, refl, sym, ap}
use Rattle.std.specs.Prelude.{◌≢◌, ◌↔◌, Bool, true, false, not, ◌&&◌, IsTrue, All}
use Rattle.std.proofs.lemmas.Bool.{cases_Bool}
use Rattle.std.proofs.lemmas.List.Elements.{All-nil, All-head, All-tail, All-cons}
use Rattle.pm_values.specs.declared.value.Value.{Value}
use Rattle.pm_values.specs.declared.value.Value.TheVariants as value
use Rattle.pm_values.specs.Order.{value_cmp}
use Rattle.pm_values.specs.Equality.{is_null, is_equal, same_key, same_key_value}
use Rattle.pm_values.proofs.ValueOrder.{value_tests_equal}

pub both_true : (p q : Bool) → IsTrue (p && q) → IsTrue p × IsTrue q
both_true true q h = (refl, h)
both_true false q h = (h, cc)

pub and_true : (p q : Bool) → IsTrue p → IsTrue q → IsTrue (p && q)
and_true p q h g = rw (h, g) refl

pub null_tested : (v : Value) → IsTrue (not (is_null v)) ↔ (v ≢ value.Null)
null_tested value.Null = (λ h g. cc, λ h. absurd (h refl))
null_tested (value.Int n) = (λ h g. cc, λ h. refl)
null_tested (value.Text t) = (λ h g. cc, λ h. refl)

pub same_key_value_equal : (a b : Value) → IsTrue (same_key_value a b) ↔ ((a ≡ b) × (a ≢ value.Null))
same_key_value_equal a b = (
  λ h. let both = both_true (not (is_null a)) (is_equal (value_cmp a b)) h in ((value_tests_equal a b).0 both.1, (null_tested a).0 both.0),
  λ h. and_true (not (is_null a)) (is_equal (value_cmp a b)) ((null_tested a).1 h.1) ((value_tests_equal a b).1 h.0),
)

same_key_forward : (a b : List Value) → IsTrue (same_key a b) → (a ≡ b) × All (λ v. v ≢ value.Null) a
same_key_forward [] [] h = (refl, All-nil (λ v. v ≢ value.Null))
same_key_forward [] (b ∷ bs) h = absurd (cc)
same_key_forward (a ∷ more) [] h = absurd (cc)
same_key_forward (a ∷ more) (b ∷ bs) h =
    let both = both_true (same_key_value a b) (same_key more bs) h in
    let first = (same_key_value_equal a b).0 both.0 in
    let rest = same_key_forward more bs both.1 in
    let one : a ≡ b = first.0 in
    let others : more ≡ bs = rest.0 in
    (cc, All-cons (λ v. v ≢ value.Null) a more first.1 rest.1)

same_key_itself : (a : List Value) → All (λ v. v ≢ value.Null) a → IsTrue (same_key a a)
same_key_itself [] present = refl
same_key_itself (a ∷ more) present =
    and_true (same_key_value a a) (same_key more more) ((same_key_value_equal a a).1 (refl, All-head (λ v. v ≢ value.Null) a more present))
    (same_key_itself more (All-tail (λ v. v ≢ value.Null) a more present))

pub same_key_equal : (a b : List Value) → IsTrue (same_key a b) ↔ ((a ≡ b) × All (λ v. v ≢ value.Null) a)
same_key_equal a b = (same_key_forward a b, λ h. ap (λ c. same_key a c) (sym h.0) ∙ same_key_itself a h.1)

pub same_key_gives_equal : (a b : List Value) → same_key a b ≡ true → a ≡ b
same_key_gives_equal a b e = ((same_key_equal a b).0 e).0

same_key_turned : (a b : List Value) → same_key a b ≡ true → same_key b a ≡ true
same_key_turned a b e = let same : a ≡ b = same_key_gives_equal a b e in ap (λ c. same_key b c) same ∙ ap (λ c. same_key c b) (sym same) ∙ e

pub same_key_comm : (a b : List Value) → same_key a b ≡ same_key b a
same_key_comm a b =
    elim (cases_Bool (same_key a b)) [
      | inl t ↦ t ∙ sym (same_key_turned a b t)
      | inr f ↦ elim (cases_Bool (same_key b a)) [
        | inl t ↦ same_key_turned b a t ∙ sym t
        | inr g ↦ f ∙ sym g
      ]
    ]

-- what holds no NULL is its own key, and so is what is one with another
pub same_key_of_itself : (a b : List Value) → same_key a b ≡ true → same_key a a ≡ true
same_key_of_itself a b e = ap (λ c. same_key a c) (same_key_gives_equal a b e) ∙ e
