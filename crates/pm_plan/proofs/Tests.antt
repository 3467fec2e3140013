-- what a test in two steps answers, from what its steps answer; and a fact by what a test answers
use Rattle.std.proofs.Common.{◌≡◌, ◌∙◌, Bool, true, false, ◌&&◌, ◌||◌, refl, sym, ap}

pub or_true : {a x r : Bool} (b : Bool) → r ≡ a → r ≡ true → x ≡ (a || b) → r ≡ x
or_true b p q e = q ∙ sym (e ∙ ap (λ y. y || b) (sym p ∙ q))

pub or_false : {a b x r s : Bool} → r ≡ a → r ≡ false → s ≡ b → x ≡ (a || b) → s ≡ x
or_false {a} {b} p q f e = f ∙ sym (e ∙ ap (λ y. y || b) (sym p ∙ q))

pub and_true : {a b x r s : Bool} → r ≡ a → r ≡ true → s ≡ b → x ≡ (a && b) → s ≡ x
and_true {a} {b} p q f e = f ∙ sym (e ∙ ap (λ y. y && b) (sym p ∙ q))

pub and_false : {a x r : Bool} (b : Bool) → r ≡ a → r ≡ false → x ≡ (a && b) → r ≡ x
and_false b p q e = q ∙ sym (e ∙ ap (λ y. y && b) (sym p ∙ q))

-- by cases of a test, with what it says
pub split : (b : Bool) (P : Bool → Type 0) → (b ≡ true → P true) → (b ≡ false → P false) → P b
split true P f g = f refl
split false P f g = g refl
