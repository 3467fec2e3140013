-- Conditions taken apart.
use Rattle.std.proofs.Common.{◌≡◌, ℕ, List, [], ◌∷◌, ◌++◌, map, Option, refl, sym, ap, ◌∙◌, subst}
use Rattle.std.specs.List.{flat_map}
use Rattle.std.proofs.lemmas.List.{map-append}
use Rattle.pm_syntax.specs.declared.tree.Test.{Test, roll-Test, map-Test}
use Rattle.pm_syntax.specs.declared.tree.Test.TheVariants as test
use Rattle.pm_syntax.specs.declared.tree.Test.TheOpen.{Test-F}
use Rattle.pm_syntax.specs.declared.tree.Test.TheOpen as layer
use Rattle.pm_syntax.specs.declared.tree.Test.TheFolds.{ind-Test}
use Rattle.pm_values.specs.declared.condition.Cond.TheVariants as cond
use Rattle.pm_canonical.proofs.Folds.{fold_any, fold_all, fold_not, fold_compare, fold_null, fold_one_of, fold_between}
use Rattle.pm_names.specs.declared.terms.KnownColumn.{KnownColumn}
use Rattle.pm_names.specs.Conditions.{whole_row, cond_layer, cond_of}
use Rattle.pm_binder.specs.Conjuncts.{split_layer, split, test_conjuncts}

module _ (known : List KnownColumn) where
  -- the whole of what is taken apart is the condition
  abbrev Whole : Test → Type 0
  Whole t = (split known t).whole ≡ cond_of known whole_row t

  wholes : (members : List ((t : Test) × Whole t)) → map (λ part. part.whole) (map (split known) (map (λ e. e.0) members)) ≡ map (cond_of known whole_row) (map (λ e. e.0) members)
  wholes [] = refl
  wholes (e ∷ es) = ap (λ c. c ∷ map (λ part. part.whole) (map (split known) (map (λ e. e.0) es))) e.1 ∙ ap (λ cs. cond_of known whole_row e.0 ∷ cs) (wholes es)

  whole_any : (members : List Test) → map (λ part. part.whole) (map (split known) members) ≡ map (cond_of known whole_row) members → Whole (test.Any members)
  whole_any members e = ap (λ s. s.whole) (fold_any (split_layer known) members) ∙ ap cond.Any e ∙ sym (fold_any (cond_layer known whole_row) members)

  whole_all : (members : List Test) → map (λ part. part.whole) (map (split known) members) ≡ map (cond_of known whole_row) members → Whole (test.All members)
  whole_all members e = ap (λ s. s.whole) (fold_all (split_layer known) members) ∙ ap cond.All e ∙ sym (fold_all (cond_layer known whole_row) members)

  whole_not : (part : Test) → Whole part → Whole (test.Not part)
  whole_not part e = ap (λ s. s.whole) (fold_not (split_layer known) part) ∙ ap cond.Not e ∙ sym (fold_not (cond_layer known whole_row) part)

  layer_whole : (y : Test-F ((t : Test) × Whole t)) → Whole (roll-Test (map-Test ((t : Test) × Whole t) Test (λ e. e.0) y))
  layer_whole (layer.Any members) = rw (test.rolls-Any (map (λ e. e.0) members)) (whole_any (map (λ e. e.0) members) (wholes members))
  layer_whole (layer.All members) = rw (test.rolls-All (map (λ e. e.0) members)) (whole_all (map (λ e. e.0) members) (wholes members))
  layer_whole (layer.Not part) = rw (test.rolls-Not part.0) (whole_not part.0 part.1)
  layer_whole (layer.Compare how left right at) =
      rw (test.rolls-Compare how left right at) (ap (λ s. s.whole) (fold_compare (split_layer known) how left right at) ∙ sym (fold_compare (cond_layer known whole_row) how left right at))
  layer_whole (layer.IsNull of negated) =
      rw (test.rolls-IsNull of negated) (ap (λ s. s.whole) (fold_null (split_layer known) of negated) ∙ sym (fold_null (cond_layer known whole_row) of negated))
  layer_whole (layer.OneOf of list negated at) =
      rw (test.rolls-OneOf of list negated at) (ap (λ s. s.whole) (fold_one_of (split_layer known) of list negated at) ∙ sym (fold_one_of (cond_layer known whole_row) of list negated at))
  layer_whole (layer.Between of low high negated at) =
      rw (test.rolls-Between of low high negated at) (ap (λ s. s.whole) (fold_between (split_layer known) of low high negated at) ∙ sym (fold_between (cond_layer known whole_row) of low high negated at))

  whole_is : (t : Test) → Whole t
  whole_is = ind-Test Whole (λ x y is. subst (λ z. Whole (roll-Test z)) is (layer_whole y))

  wholes_are : (members : List Test) → map (λ part. part.whole) (map (split known) members) ≡ map (cond_of known whole_row) members
  wholes_are [] = refl
  wholes_are (t ∷ ts) = ap (λ c. c ∷ map (λ part. part.whole) (map (split known) ts)) (whole_is t) ∙ ap (λ cs. cond_of known whole_row t ∷ cs) (wholes_are ts)

  -- a condition that is no AND list is one conjunct
  pub one_any : (on : Option ℕ) (members : List Test) → test_conjuncts known on (test.Any members) ≡ record { on = on; cond = cond_of known whole_row (test.Any members) } ∷ []
  one_any on members =
      ap (λ s. map (λ c. record { on = on; cond = c }) s.members) (fold_any (split_layer known) members)
      ∙ ap (λ c. record { on = on; cond = c } ∷ []) (ap cond.Any (wholes_are members) ∙ sym (fold_any (cond_layer known whole_row) members))

  pub one_not : (on : Option ℕ) (part : Test) → test_conjuncts known on (test.Not part) ≡ record { on = on; cond = cond_of known whole_row (test.Not part) } ∷ []
  one_not on part =
      ap (λ s. map (λ c. record { on = on; cond = c }) s.members) (fold_not (split_layer known) part)
      ∙ ap (λ c. record { on = on; cond = c } ∷ []) (ap cond.Not (whole_is part) ∙ sym (fold_not (cond_layer known whole_row) part))

  each_conjuncts : (on : Option ℕ) (members : List Test)
      → map (λ c. record { on = on; cond = c }) (flat_map (λ part. part.members) (map (split known) members)) ≡ flat_map (test_conjuncts known on) members
  each_conjuncts on [] = refl
  each_conjuncts on (t ∷ ts) =
      map-append (λ c. record { on = on; cond = c }) (split known t).members (flat_map (λ part. part.members) (map (split known) ts)) ∙ ap (λ more. test_conjuncts known on t ++ more) (each_conjuncts on ts)

  -- an AND list is those of its members
  pub all_conjuncts : (on : Option ℕ) (members : List Test) → test_conjuncts known on (test.All members) ≡ flat_map (test_conjuncts known on) members
  all_conjuncts on members = ap (λ s. map (λ c. record { on = on; cond = c }) s.members) (fold_all (split_layer known) members) ∙ each_conjuncts on members
