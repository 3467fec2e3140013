-- What the folds over a test are at each kind of test.
use Rattle.std.proofs.Common.{◌≡◌, ℕ, Bool, List, map, sym, ap, ◌∙◌}
use Rattle.pm_syntax.specs.declared.tree.Literal.{Literal}
use Rattle.pm_syntax.specs.declared.tree.Atom.{Atom}
use Rattle.pm_values.specs.declared.condition.Comparison.{Comparison}
use Rattle.pm_syntax.specs.declared.tree.Test.{Test, fold-Test}
use Rattle.pm_syntax.specs.declared.tree.Test.TheVariants as test
use Rattle.pm_syntax.specs.declared.tree.Test.TheOpen.{Test-F}
use Rattle.pm_syntax.specs.declared.tree.Test.TheOpen as layer
use Rattle.pm_syntax.specs.declared.tree.Test.TheFolds.{fold-roll-Test}

pub fold_any : {A : Type 0} (step : Test-F A → A) (members : List Test) → fold-Test A step (test.Any members) ≡ step (layer.Any (map (fold-Test A step) members))
fold_any {A} step members = ap (fold-Test A step) (sym (test.rolls-Any members)) ∙ fold-roll-Test A step (layer.Any members)

pub fold_all : {A : Type 0} (step : Test-F A → A) (members : List Test) → fold-Test A step (test.All members) ≡ step (layer.All (map (fold-Test A step) members))
fold_all {A} step members = ap (fold-Test A step) (sym (test.rolls-All members)) ∙ fold-roll-Test A step (layer.All members)

pub fold_not : {A : Type 0} (step : Test-F A → A) (part : Test) → fold-Test A step (test.Not part) ≡ step (layer.Not (fold-Test A step part))
fold_not {A} step part = ap (fold-Test A step) (sym (test.rolls-Not part)) ∙ fold-roll-Test A step (layer.Not part)

pub fold_compare : {A : Type 0} (step : Test-F A → A) (how : Comparison) (left right : Atom) (at : ℕ) → fold-Test A step (test.Compare how left right at) ≡ step (layer.Compare how left right at)
fold_compare {A} step how left right at = ap (fold-Test A step) (sym (test.rolls-Compare how left right at)) ∙ fold-roll-Test A step (layer.Compare how left right at)

pub fold_null : {A : Type 0} (step : Test-F A → A) (of : Atom) (negated : Bool) → fold-Test A step (test.IsNull of negated) ≡ step (layer.IsNull of negated)
fold_null {A} step of negated = ap (fold-Test A step) (sym (test.rolls-IsNull of negated)) ∙ fold-roll-Test A step (layer.IsNull of negated)

pub fold_one_of : {A : Type 0} (step : Test-F A → A) (of : Atom) (list : List Literal) (negated : Bool) (at : ℕ) → fold-Test A step (test.OneOf of list negated at) ≡ step (layer.OneOf of list negated at)
fold_one_of {A} step of list negated at = ap (fold-Test A step) (sym (test.rolls-OneOf of list negated at)) ∙ fold-roll-Test A step (layer.OneOf of list negated at)

pub fold_between : {A : Type 0} (step : Test-F A → A) (of low high : Atom) (negated : Bool) (at : ℕ) → fold-Test A step (test.Between of low high negated at) ≡ step (layer.Between of low high negated at)
fold_between {A} step of low high negated at = ap (fold-Test A step) (sym (test.rolls-Between of low high negated at)) ∙ fold-roll-Test A step (layer.Between of low high negated at)
