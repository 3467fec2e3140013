-- Conditions that fit a row read its columns, and so do their conjuncts.
use Rattle.std.proofs.Common.{◌≡◌, ◌<◌, ◌+◌, ℕ, zero, suc, Bool, true, false, ◌&&◌, ◌||◌, List, [], ◌∷◌, ◌++◌, length, map, Option, refl, ap, sym, ◌∙◌, subst, arith, nat_eq, nat_lt, nat_le, get_or, length-append}
use Rattle.std.specs.List.{flat_map, list_any, list_all, count_by}
use Rattle.std.proofs.lemmas.Bool.Decides.{nat_tests}
use Rattle.std.proofs.lemmas.List.{length-map}
use Rattle.std.proofs.lemmas.List.Folds.{list_all-append}
use Rattle.pm_syntax.specs.declared.tree.ColumnName.{ColumnName}
use Rattle.pm_syntax.specs.declared.tree.Expr.{Expr}
use Rattle.pm_syntax.specs.declared.tree.Expr.TheVariants as expr
use Rattle.pm_syntax.specs.declared.tree.Test.{Test, roll-Test, map-Test}
use Rattle.pm_syntax.specs.declared.tree.Test.TheVariants as test
use Rattle.pm_syntax.specs.declared.tree.Test.TheOpen.{Test-F}
use Rattle.pm_syntax.specs.declared.tree.Test.TheOpen as layer
use Rattle.pm_syntax.specs.declared.tree.Test.TheFolds.{ind-Test}
use Rattle.pm_values.specs.declared.value.Kind.{Kind}
use Rattle.pm_values.specs.declared.value.Kind.TheVariants as kind
use Rattle.pm_values.specs.declared.condition.Operand.{Operand}
use Rattle.pm_values.specs.declared.condition.Operand.TheVariants as operand
use Rattle.pm_values.specs.declared.condition.Comparison.{Comparison}
use Rattle.pm_values.specs.declared.condition.Cond.{Cond, roll-Cond, map-Cond}
use Rattle.pm_values.specs.declared.condition.Cond.TheVariants as node
use Rattle.pm_values.specs.declared.condition.Cond.TheOpen.{Cond-F}
use Rattle.pm_values.specs.declared.condition.Cond.TheOpen as part
use Rattle.pm_values.specs.declared.condition.Cond.TheFolds.{ind-Cond}
use Rattle.pm_values.proofs.Folds.{fold_all as cond_all, fold_any as cond_any, fold_not as cond_not, fold_compare as cond_compare, fold_null as cond_null}
use Rattle.pm_plan.specs.Kinds.{kind_at, scale_of, kinds_fit, operand_kind, operand_fits, condition_layer, condition_fits}
use Rattle.pm_query.specs.Columns.{operand_within, within_layer, within}
use Rattle.pm_canonical.proofs.Folds.{fold_all, fold_compare, fold_null, fold_one_of, fold_between}
use Rattle.pm_names.specs.declared.fault.BindBad.TheVariants as bad
use Rattle.pm_names.specs.declared.terms.KnownColumn.{KnownColumn}
use Rattle.pm_names.specs.Breaches.{bad_if}
use Rattle.pm_names.specs.Names.{name_at, means, name_breaches, column_of, kinds_of, expr_breaches}
use Rattle.pm_names.specs.Conditions.{whole_row, cond_layer, cond_of}
use Rattle.pm_binder.specs.Conjuncts.{split_layer, test_conjuncts}
use Rattle.pm_binder.specs.Laws.{is_column}
use Rattle.pm_binder.proofs.Few.{empty_left}
use Rattle.pm_binder.proofs.BoundTables.{no_bad, position_below}
use Rattle.pm_binder.proofs.Splits.{one_any, one_not, all_conjuncts}
use Rattle.pm_binder.proofs.Typed.{and_left, and_right, both_true, FitsRow}

-- ---- columns that are read are columns of the row

module _ (kinds : List Kind) where
  abbrev Within : Cond → Type 0
  Within c = condition_fits kinds c ≡ true → within 0 (length kinds) c ≡ true

  operand_in : (o : Operand) → operand_fits kinds o ≡ true → operand_within 0 (length kinds) o ≡ true
  operand_in (operand.Column at scale) h =
      let low = and_left (nat_lt at (length kinds)) (nat_eq scale (scale_of (kind_at kinds at))) h in
      both_true (nat_le 0 at) (nat_lt at (length kinds)) (grind (arith, nat_tests)) low
  operand_in (operand.Literal v scale) h = refl

  members_in : (members : List ((c : Cond) × Within c)) → list_all (λ m. m) (map (condition_fits kinds) (map (λ e. e.0) members)) ≡ true → list_all (λ m. m) (map (within 0 (length kinds)) (map (λ e. e.0) members)) ≡ true
  members_in [] h = refl
  members_in (e ∷ es) h =
      let more = list_all (λ m. m) (map (condition_fits kinds) (map (λ e. e.0) es)) in
      both_true (within 0 (length kinds) e.0) (list_all (λ m. m) (map (within 0 (length kinds)) (map (λ e. e.0) es))) (e.1 (and_left (condition_fits kinds e.0) more h)) (members_in es (and_right (condition_fits kinds e.0) more h))

  compare_in : (how : Comparison) (left right : Operand) → Within (node.Compare how left right)
  compare_in how left right h =
      let f = sym (cond_compare (condition_layer kinds) how left right) ∙ h in
      let fits = kinds_fit (operand_kind kinds left) (operand_kind kinds right) in
      let sides = and_left (operand_fits kinds left && operand_fits kinds right) fits f in
      cond_compare (within_layer 0 (length kinds)) how left right
      ∙ both_true (operand_within 0 (length kinds) left) (operand_within 0 (length kinds) right)
      (operand_in left (and_left (operand_fits kinds left) (operand_fits kinds right) sides)) (operand_in right (and_right (operand_fits kinds left) (operand_fits kinds right) sides))

  layer_in : (y : Cond-F ((c : Cond) × Within c)) → Within (roll-Cond (map-Cond ((c : Cond) × Within c) Cond (λ e. e.0) y))
  layer_in (part.All members) =
      rw (node.rolls-All (map (λ e. e.0) members)) (λ h. cond_all (within_layer 0 (length kinds)) (map (λ e. e.0) members) ∙ members_in members (sym (cond_all (condition_layer kinds) (map (λ e. e.0) members)) ∙ h))
  layer_in (part.Any members) =
      rw (node.rolls-Any (map (λ e. e.0) members)) (λ h. cond_any (within_layer 0 (length kinds)) (map (λ e. e.0) members) ∙ members_in members (sym (cond_any (condition_layer kinds) (map (λ e. e.0) members)) ∙ h))
  layer_in (part.Not one) = rw (node.rolls-Not one.0) (λ h. cond_not (within_layer 0 (length kinds)) one.0 ∙ one.1 (sym (cond_not (condition_layer kinds) one.0) ∙ h))
  layer_in (part.Compare how left right) = rw (node.rolls-Compare how left right) (compare_in how left right)
  layer_in (part.IsNull of) = rw (node.rolls-IsNull of) (λ h. cond_null (within_layer 0 (length kinds)) of ∙ operand_in of (sym (cond_null (condition_layer kinds) of) ∙ h))

  pub fits_within : (c : Cond) → condition_fits kinds c ≡ true → within 0 (length kinds) c ≡ true
  fits_within = ind-Cond Within (λ x y is. subst (λ z. Within (roll-Cond z)) is (layer_in y))

-- ---- a test that passes an AND list where it passes its members passes a condition where it passes its conjuncts

and_true : (b : Bool) → (b && true) ≡ b
and_true true = refl
and_true false = refl

module _ (Q : Cond → Bool) (all_is : (cs : List Cond) → Q (node.All cs) ≡ list_all (λ m. m) (map Q cs)) (known : List KnownColumn) (on : Option ℕ) where
  abbrev Kept : Test → Type 0
  Kept t = list_all (λ conjunct. Q conjunct.cond) (test_conjuncts known on t) ≡ Q (cond_of known whole_row t)

  alone_kept : (t : Test) → test_conjuncts known on t ≡ record { on = on; cond = cond_of known whole_row t } ∷ [] → Kept t
  alone_kept t one = ap (list_all (λ conjunct. Q conjunct.cond)) one ∙ and_true (Q (cond_of known whole_row t))

  members_kept : (members : List ((t : Test) × Kept t))
      → list_all (λ conjunct. Q conjunct.cond) (flat_map (test_conjuncts known on) (map (λ e. e.0) members)) ≡ list_all (λ m. m) (map Q (map (cond_of known whole_row) (map (λ e. e.0) members)))
  members_kept [] = refl
  members_kept (e ∷ es) =
      list_all-append (λ conjunct. Q conjunct.cond) (test_conjuncts known on e.0) (flat_map (test_conjuncts known on) (map (λ e. e.0) es)) ∙ (λ i. e.1 i && members_kept es i)

  all_kept : (members : List ((t : Test) × Kept t)) → Kept (test.All (map (λ e. e.0) members))
  all_kept members =
      let ts = map (λ e. e.0) members in
      ap (list_all (λ conjunct. Q conjunct.cond)) (all_conjuncts known on ts)
      ∙ members_kept members ∙ sym (all_is (map (cond_of known whole_row) ts)) ∙ sym (ap Q (fold_all (cond_layer known whole_row) ts))

  layer_kept : (y : Test-F ((t : Test) × Kept t)) → Kept (roll-Test (map-Test ((t : Test) × Kept t) Test (λ e. e.0) y))
  layer_kept (layer.Any members) = rw (test.rolls-Any (map (λ e. e.0) members)) (alone_kept (test.Any (map (λ e. e.0) members)) (one_any known on (map (λ e. e.0) members)))
  layer_kept (layer.All members) = rw (test.rolls-All (map (λ e. e.0) members)) (all_kept members)
  layer_kept (layer.Not t) = rw (test.rolls-Not t.0) (alone_kept (test.Not t.0) (one_not known on t.0))
  layer_kept (layer.Compare how left right at) =
      rw (test.rolls-Compare how left right at) (alone_kept (test.Compare how left right at)
      (ap (λ s. map (λ c. record { on = on; cond = c }) s.members) (fold_compare (split_layer known) how left right at) ∙ ap (λ c. record { on = on; cond = c } ∷ []) (sym (fold_compare (cond_layer known whole_row) how left right at))))
  layer_kept (layer.IsNull of negated) =
      rw (test.rolls-IsNull of negated) (alone_kept (test.IsNull of negated)
      (ap (λ s. map (λ c. record { on = on; cond = c }) s.members) (fold_null (split_layer known) of negated) ∙ ap (λ c. record { on = on; cond = c } ∷ []) (sym (fold_null (cond_layer known whole_row) of negated))))
  layer_kept (layer.OneOf of list negated at) =
      rw (test.rolls-OneOf of list negated at) (alone_kept (test.OneOf of list negated at)
      (ap (λ s. map (λ c. record { on = on; cond = c }) s.members) (fold_one_of (split_layer known) of list negated at) ∙ ap (λ c. record { on = on; cond = c } ∷ []) (sym (fold_one_of (cond_layer known whole_row) of list negated at))))
  layer_kept (layer.Between of low high negated at) =
      rw (test.rolls-Between of low high negated at) (alone_kept (test.Between of low high negated at)
      (ap (λ s. map (λ c. record { on = on; cond = c }) s.members) (fold_between (split_layer known) of low high negated at) ∙ ap (λ c. record { on = on; cond = c } ∷ []) (sym (fold_between (cond_layer known whole_row) of low high negated at))))

  pub conjuncts_pass : (t : Test) → list_all (λ conjunct. Q conjunct.cond) (test_conjuncts known on t) ≡ Q (cond_of known whole_row t)
  conjuncts_pass = ind-Test Kept (λ x y is. subst (λ z. Kept (roll-Test z)) is (layer_kept y))

  pub conjuncts_kept : (t : Test) → Q (cond_of known whole_row t) ≡ true → list_all (λ conjunct. Q conjunct.cond) (test_conjuncts known on t) ≡ true
  conjuncts_kept t h = conjuncts_pass t ∙ h

-- ---- a name without a breach means a column

pub count_none : {A : Type 0} (p : A → Bool) (xs : List A) → list_any p xs ≡ false → count_by p xs ≡ 0
count_none p [] h = refl
count_none p (x ∷ xs) h = of (count_none p xs) (p x) refl h
  where
    of : (list_any p xs ≡ false → count_by p xs ≡ 0) → (b : Bool) → p x ≡ b → (b || list_any p xs) ≡ false → count_by p (x ∷ xs) ≡ 0
    of rest true e h = absurd (cc h)
    of rest false e h = rw e (rest h)

pub column_below : (known : List KnownColumn) (name : ColumnName) → name_breaches known name ≡ [] → column_of known name < length known
unfolding name_breaches
column_below known name none = of (list_any (means name) known) refl
  where
    of : (b : Bool) → list_any (means name) known ≡ b → column_of known name < length known
    of true e = position_below (means name) known e
    of false e =
        let some = no_bad (nat_eq (count_by (means name) known) 0) (bad.NoColumn (name_at name)) (empty_left (bad_if (nat_eq (count_by (means name) known) 0) (bad.NoColumn (name_at name))) (bad_if (nat_lt 1 (count_by (means name) known)) (bad.TwoColumns (name_at name))) none) in
        let zero_is = count_none (means name) known e in
        absurd (grind (arith, nat_tests))

get_left : (xs ys : List Kind) (i : ℕ) (d : Kind) → i < length xs → get_or (xs ++ ys) i d ≡ get_or xs i d
get_left [] ys i d h = absurd (omega arith)
get_left (x ∷ xs) ys zero d h = refl
get_left (x ∷ xs) ys (suc i) d h = get_left xs ys i d (omega arith)

-- a column among the first ones of the row of all columns stands there with its kind
pub fits_front : (known : List KnownColumn) (more : List Kind) (e : Expr) → expr_breaches known e ≡ [] → is_column e ≡ true → FitsRow known whole_row (kinds_of known ++ more) e
fits_front known more (expr.Column name) none formed =
    let low : column_of known name < length known = column_below known name none in
    let long : length (kinds_of known ++ more) ≡ length known + length more = length-append (kinds_of known) more ∙ ap (λ n. n + length more) (length-map known (λ column. column.kind)) in
    let inner : column_of known name < length (kinds_of known) = rw (length-map known (λ column. column.kind)) low in
    record { below = omega arith; kind = get_left (kinds_of known) more (column_of known name) kind.Int inner }
fits_front known more (expr.CountAll at) none formed = absurd (cc formed)
fits_front known more (expr.Call f name at) none formed = absurd (cc formed)
