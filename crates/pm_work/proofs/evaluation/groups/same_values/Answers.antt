use Rattle.std.proofs.Common.{◌≡◌, ◌≢◌, false, List, length, ap, sym, ◌∙◌, inl, inr}
use Rattle.std.proofs.lemmas.Bool.{cases_Bool}
use Rattle.pm_values.specs.declared.value.Value.{Value}
use Rattle.pm_values.specs.Equality.{same_values}
use Rattle.pm_values.proofs.ValueOrder.{same_values_equal}
use Rattle.pm_work.proofs.evaluation.groups.same_values.Goals as goal

unequal : (a b : List Value) → length a ≢ length b → false ≡ same_values a b
unequal a b differ =
    elim (cases_Bool (same_values a b)) [
      | inl e ↦ absurd (differ (ap length ((same_values_equal a b).0 e)))
      | inr e ↦ sym e
    ]

pub returns-then-len : goal.returns-then-len
returns-then-len c = unequal c.args.a.now c.args.b.now (λ e. c.if-len.true (c.len.ensures ∙ e ∙ sym c.len-2.ensures))
