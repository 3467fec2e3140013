-- rows of which each is above the one before it by some columns: no two agree in them
use Rattle.std.proofs.Common.{◌≡◌, ◌<◌, ℕ, zero, suc, eqb, List, length, sym, ap, ◌∙◌, arith, inl, inr}
use Rattle.std.proofs.lemmas.Bool.{cases_Bool}
use Rattle.std.proofs.lemmas.Bool.Decides.{nat_tests}
use Rattle.std.specs.declared.cmp.Ordering.TheVariants as ordering
use Rattle.pm_values.specs.declared.value.Value.{Value}
use Rattle.pm_values.specs.Order.{IsKey, key_at, values_cmp}
use Rattle.pm_values.proofs.ValueOrder.{values_cmp_itself, values_cmp_total}

module _ (columns : List ℕ) (rows : List (List Value)) where
  later_is_above : (n : ℕ) → ((k : ℕ) → suc k < n → values_cmp (key_at columns rows k) (key_at columns rows (suc k)) ≡ ordering.Less)
      → (i j : ℕ) → i < j → j < n → values_cmp (key_at columns rows i) (key_at columns rows j) ≡ ordering.Less
  later_is_above n rise i zero before within = absurd (omega arith)
  later_is_above n rise i (suc j) before within =
      elim (cases_Bool (eqb i j)) [
        | inl h ↦
            let here : i ≡ j = grind (arith, nat_tests) in
            rw here (rise j within)
        | inr h ↦
            let earlier : i < j = grind (arith, nat_tests) in
            values_cmp_total.trans (key_at columns rows i) (key_at columns rows j) (key_at columns rows (suc j))
            (later_is_above n rise i j earlier (omega arith)) (rise j within)
      ]

  pub rising_is_key : ((k : ℕ) → suc k < length rows → values_cmp (key_at columns rows k) (key_at columns rows (suc k)) ≡ ordering.Less) → IsKey columns rows
  rising_is_key rise i j before within same =
      let less : ordering.Equal ≡ ordering.Less =
      sym (values_cmp_itself (key_at columns rows j))
      ∙ ap (λ x. values_cmp x (key_at columns rows j)) (sym same)
      ∙ later_is_above (length rows) rise i j before within in
      absurd cc
