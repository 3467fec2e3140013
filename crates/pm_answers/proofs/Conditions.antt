-- what a condition is on a part of a row, and what a list of conditions is
use Rattle.std.proofs.Common.{◌≡◌, ◌∙◌, ℕ, ◌-◌, ◌<◌, ◌≤◌, true, false, List, [], ◌∷◌, ◌++◌, length, map, refl, sym, ap, subst, arith}
use Rattle.std.specs.Prelude.{◌&&◌, nat_le, nat_lt}
use Rattle.std.specs.List.{list_all, list_any}
use Rattle.std.proofs.lemmas.Bool.{and_parts, or_from, leb-true, ltb-true}
use Rattle.std.proofs.lemmas.List.{get_or_append_left, get_or-append_right}
use Rattle.pm_values.specs.declared.value.Value.TheVariants as value
use Rattle.pm_values.specs.declared.condition.Truth.{Truth}
use Rattle.pm_values.specs.declared.condition.Truth.TheVariants.{Yes, No, Unknown}
use Rattle.pm_values.specs.declared.condition.Comparison.{Comparison}
use Rattle.pm_values.specs.declared.condition.Operand.{Operand}
use Rattle.pm_values.specs.declared.condition.Operand.TheVariants as operand
use Rattle.pm_values.specs.declared.condition.Cond.{Cond, fold-Cond, roll-Cond}
use Rattle.pm_values.specs.declared.condition.Cond.TheVariants as cond
use Rattle.pm_values.specs.declared.condition.Cond.TheOpen.{Cond-F}
use Rattle.pm_values.specs.declared.condition.Cond.TheOpen as layer
use Rattle.pm_values.specs.declared.condition.Cond.TheFolds.{map-Cond, ind-Cond}
use Rattle.pm_values.specs.Row.{Row}
use Rattle.pm_values.specs.Equality.{is_null}
use Rattle.pm_values.specs.Condition.{truth, truth_layer, truth_of, compared, operand_scale, operand_value, both, all_of, is_yes, keeps}
use Rattle.pm_values.proofs.Folds.{fold_all, fold_any, fold_not, fold_compare, fold_null}
use Rattle.pm_values.proofs.Truths.{truth_all}
use Rattle.pm_plan.specs.Outputs.{keeps_if}
use Rattle.pm_query.specs.Answer.{meets}
use Rattle.pm_query.specs.Columns.{is_column, reads_layer, reads, operand_within, within_layer, within, shift_operand, shift_layer, shift_columns, conjunction}
use Rattle.pm_answers.proofs.Lists.{and-true}

-- ---- by cases of a condition

module _ (P : Cond → Type 0) (on_all : (members : List Cond) → P (cond.All members)) (on_any : (members : List Cond) → P (cond.Any members))
    (on_not : (part : Cond) → P (cond.Not part)) (on_compare : (how : Comparison) (left right : Operand) → P (cond.Compare how left right))
    (on_null : (of : Operand) → P (cond.IsNull of)) where
  layer_case : (y : Cond-F ((c : Cond) × P c)) → P (roll-Cond (map-Cond ((c : Cond) × P c) Cond (λ e. e.0) y))
  layer_case (layer.All members) = rw (cond.rolls-All (map (λ e. e.0) members)) (on_all (map (λ e. e.0) members))
  layer_case (layer.Any members) = rw (cond.rolls-Any (map (λ e. e.0) members)) (on_any (map (λ e. e.0) members))
  layer_case (layer.Not part) = rw (cond.rolls-Not part.0) (on_not part.0)
  layer_case (layer.Compare how left right) = rw (cond.rolls-Compare how left right) (on_compare how left right)
  layer_case (layer.IsNull of) = rw (cond.rolls-IsNull of) (on_null of)

  pub by_cases : (c : Cond) → P c
  by_cases = ind-Cond P (λ x y is. subst (λ z. P (roll-Cond z)) is (layer_case y))

-- ---- two folds, the first over the columns without the first ones, that agree on columns within a part

module _ {A : Type 0} (step other : Cond-F A → A) (by from to : ℕ)
    (same_all : (members : List A) → step (layer.All members) ≡ other (layer.All members))
    (same_any : (members : List A) → step (layer.Any members) ≡ other (layer.Any members))
    (same_not : (part : A) → step (layer.Not part) ≡ other (layer.Not part))
    (same_compare : (how : Comparison) (left right : Operand) → operand_within from to left ≡ true → operand_within from to right ≡ true
    → step (layer.Compare how (shift_operand by left) (shift_operand by right)) ≡ other (layer.Compare how left right))
    (same_null : (of : Operand) → operand_within from to of ≡ true → step (layer.IsNull (shift_operand by of)) ≡ other (layer.IsNull of)) where
  abbrev Shifts : Cond → Type 0
  Shifts c = within from to c ≡ true → fold-Cond A step (shift_columns by c) ≡ fold-Cond A other c

  members_shift : (members : List ((c : Cond) × Shifts c)) → list_all (λ m. m) (map (within from to) (map (λ e. e.0) members)) ≡ true
      → map (fold-Cond A step) (map (shift_columns by) (map (λ e. e.0) members)) ≡ map (fold-Cond A other) (map (λ e. e.0) members)
  members_shift [] w = refl
  members_shift (e ∷ members) w =
      let parts = and_parts (within from to e.0) (list_all (λ m. m) (map (within from to) (map (λ e. e.0) members))) w in
      ap (λ t. t ∷ map (fold-Cond A step) (map (shift_columns by) (map (λ e. e.0) members))) (e.1 parts.0)
      ∙ ap (λ ts. fold-Cond A other e.0 ∷ ts) (members_shift members parts.1)

  all_shift : (members : List ((c : Cond) × Shifts c)) → Shifts (cond.All (map (λ e. e.0) members))
  all_shift members w =
      let ms : List Cond = map (λ e. e.0) members in
      ap (fold-Cond A step) (fold_all (shift_layer by) ms)
      ∙ fold_all step (map (shift_columns by) ms)
      ∙ ap (λ ts. step (layer.All ts)) (members_shift members (sym (fold_all (within_layer from to) ms) ∙ w))
      ∙ same_all (map (fold-Cond A other) ms)
      ∙ sym (fold_all other ms)

  any_shift : (members : List ((c : Cond) × Shifts c)) → Shifts (cond.Any (map (λ e. e.0) members))
  any_shift members w =
      let ms : List Cond = map (λ e. e.0) members in
      ap (fold-Cond A step) (fold_any (shift_layer by) ms)
      ∙ fold_any step (map (shift_columns by) ms)
      ∙ ap (λ ts. step (layer.Any ts)) (members_shift members (sym (fold_any (within_layer from to) ms) ∙ w))
      ∙ same_any (map (fold-Cond A other) ms)
      ∙ sym (fold_any other ms)

  not_shifts : (part : (c : Cond) × Shifts c) → Shifts (cond.Not part.0)
  not_shifts part w =
      ap (fold-Cond A step) (fold_not (shift_layer by) part.0)
      ∙ fold_not step (shift_columns by part.0)
      ∙ ap (λ t. step (layer.Not t)) (part.1 (sym (fold_not (within_layer from to) part.0) ∙ w))
      ∙ same_not (fold-Cond A other part.0)
      ∙ sym (fold_not other part.0)

  compare_shifts : (how : Comparison) (left right : Operand) → Shifts (cond.Compare how left right)
  compare_shifts how left right w =
      let parts = and_parts (operand_within from to left) (operand_within from to right) (sym (fold_compare (within_layer from to) how left right) ∙ w) in
      ap (fold-Cond A step) (fold_compare (shift_layer by) how left right)
      ∙ fold_compare step how (shift_operand by left) (shift_operand by right)
      ∙ same_compare how left right parts.0 parts.1
      ∙ sym (fold_compare other how left right)

  null_shifts : (of : Operand) → Shifts (cond.IsNull of)
  null_shifts of w =
      ap (fold-Cond A step) (fold_null (shift_layer by) of)
      ∙ fold_null step (shift_operand by of)
      ∙ same_null of (sym (fold_null (within_layer from to) of) ∙ w)
      ∙ sym (fold_null other of)

  layer_shifts : (y : Cond-F ((c : Cond) × Shifts c)) → Shifts (roll-Cond (map-Cond ((c : Cond) × Shifts c) Cond (λ e. e.0) y))
  layer_shifts (layer.All members) = rw (cond.rolls-All (map (λ e. e.0) members)) (all_shift members)
  layer_shifts (layer.Any members) = rw (cond.rolls-Any (map (λ e. e.0) members)) (any_shift members)
  layer_shifts (layer.Not part) = rw (cond.rolls-Not part.0) (not_shifts part)
  layer_shifts (layer.Compare how left right) = rw (cond.rolls-Compare how left right) (compare_shifts how left right)
  layer_shifts (layer.IsNull of) = rw (cond.rolls-IsNull of) (null_shifts of)

  pub fold-shifted : (c : Cond) → within from to c ≡ true → fold-Cond A step (shift_columns by c) ≡ fold-Cond A other c
  fold-shifted = ind-Cond Shifts (λ x y is. subst (λ z. Shifts (roll-Cond z)) is (layer_shifts y))

-- ---- truth on a part of a row

shift_none : (o : Operand) → shift_operand 0 o ≡ o
shift_none (operand.Column at scale) = let same : at - 0 ≡ at = omega arith in ap (λ n. operand.Column n scale) same
shift_none (operand.Literal v scale) = refl

scale-shifted : (by : ℕ) (o : Operand) → operand_scale (shift_operand by o) ≡ operand_scale o
scale-shifted by (operand.Column at scale) = refl
scale-shifted by (operand.Literal v scale) = refl

-- where operands within a part have the same values on two rows
module _ (row other : Row) (by from to : ℕ) (same : (o : Operand) → operand_within from to o ≡ true → operand_value (shift_operand by o) row ≡ operand_value o other) where
  truth-moved : (c : Cond) → within from to c ≡ true → truth row (shift_columns by c) ≡ truth other c
  truth-moved =
      fold-shifted (truth_layer row) (truth_layer other) by from to (λ members. refl) (λ members. refl) (λ part. refl)
      (λ how left right wl wr.
      ap (λ s. compared how s (operand_scale (shift_operand by right)) (operand_value (shift_operand by left) row) (operand_value (shift_operand by right) row)) (scale-shifted by left)
      ∙ ap (λ s. compared how (operand_scale left) s (operand_value (shift_operand by left) row) (operand_value (shift_operand by right) row)) (scale-shifted by right)
      ∙ ap (λ v. compared how (operand_scale left) (operand_scale right) v (operand_value (shift_operand by right) row)) (same left wl)
      ∙ ap (λ v. compared how (operand_scale left) (operand_scale right) (operand_value left other) v) (same right wr))
      (λ of w. ap (λ v. truth_of (is_null v)) (same of w))

truth-unshifted : (row : Row) (from to : ℕ) (c : Cond) → within from to c ≡ true → truth row (shift_columns 0 c) ≡ truth row c
truth-unshifted row from to = truth-moved row row 0 from to (λ o w. ap (λ x. operand_value x row) (shift_none o))

operand-stable : (from to : ℕ) (l r : Row) → to ≤ length l → (o : Operand) → operand_within from to o ≡ true → operand_value (shift_operand 0 o) l ≡ operand_value o (l ++ r)
operand-stable from to l r long (operand.Column at scale) w =
    let below : at < to = ltb-true at to (and_parts (nat_le from at) (nat_lt at to) w).1 in
    ap (λ x. operand_value x l) (shift_none (operand.Column at scale)) ∙ sym (get_or_append_left l r value.Null at (omega arith))
operand-stable from to l r long (operand.Literal v scale) w = refl

-- columns before the end of a row do not change by what follows
pub truth-stable : (from to : ℕ) (l r : Row) → to ≤ length l → (c : Cond) → within from to c ≡ true → truth (l ++ r) c ≡ truth l c
truth-stable from to l r long c w =
    sym (truth-moved l (l ++ r) 0 from to (operand-stable from to l r long) c w) ∙ truth-unshifted l from to c w

operand-rest : (from to : ℕ) (l r : Row) → length l ≡ from → (o : Operand) → operand_within from to o ≡ true → operand_value (shift_operand from o) r ≡ operand_value o (l ++ r)
operand-rest from to l r long (operand.Column at scale) w =
    sym (get_or-append_right l r from at value.Null long (leb-true from at (and_parts (nat_le from at) (nat_lt at to) w).0))
operand-rest from to l r long (operand.Literal v scale) w = refl

-- columns past the first ones are those of the rest
pub truth-shifted : (from to : ℕ) (l r : Row) → length l ≡ from → (c : Cond) → within from to c ≡ true → truth r (shift_columns from c) ≡ truth (l ++ r) c
truth-shifted from to l r long = truth-moved r (l ++ r) from from to (operand-rest from to l r long)

-- ---- lists of conditions

is_yes-both : (a b : Truth) → is_yes (both a b) ≡ (is_yes a && is_yes b)
is_yes-both Yes b = refl
is_yes-both No b = refl
is_yes-both Unknown Yes = refl
is_yes-both Unknown No = refl
is_yes-both Unknown Unknown = refl

is_yes-all_of : (conds : List Cond) (row : Row) → is_yes (all_of (map (truth row) conds)) ≡ meets conds row
is_yes-all_of [] row = refl
is_yes-all_of (c ∷ conds) row = is_yes-both (truth row c) (all_of (map (truth row) conds)) ∙ ap (λ t. keeps c row && t) (is_yes-all_of conds row)

pub keeps-conjunction : (conds : List Cond) (row : Row) → keeps_if (conjunction conds) row ≡ meets conds row
keeps-conjunction [] row = refl
keeps-conjunction (c ∷ []) row = sym (and-true (keeps c row))
keeps-conjunction (c ∷ d ∷ conds) row = ap is_yes (truth_all row (c ∷ d ∷ conds)) ∙ is_yes-all_of (c ∷ d ∷ conds) row

-- ---- a condition that reads columns of one part alone reads none of another

module _ (from to low end : ℕ) (apart : end ≤ from) where
  abbrev Apart : Cond → Type 0
  Apart c = within from to c ≡ true → within low end c ≡ true → reads c ≡ false

  operand-apart : (o : Operand) → operand_within from to o ≡ true → operand_within low end o ≡ true → is_column o ≡ false
  operand-apart (operand.Column at scale) w v =
      let least : from ≤ at = leb-true from at (and_parts (nat_le from at) (nat_lt at to) w).0 in
      let most : at < end = ltb-true at end (and_parts (nat_le low at) (nat_lt at end) v).1 in
      absurd (omega arith)
  operand-apart (operand.Literal v scale) w u = refl

  members_apart : (members : List ((c : Cond) × Apart c)) → list_all (λ m. m) (map (within from to) (map (λ e. e.0) members)) ≡ true
      → list_all (λ m. m) (map (within low end) (map (λ e. e.0) members)) ≡ true → list_any (λ m. m) (map reads (map (λ e. e.0) members)) ≡ false
  members_apart [] w v = refl
  members_apart (e ∷ members) w v =
      let first = and_parts (within from to e.0) (list_all (λ m. m) (map (within from to) (map (λ e. e.0) members))) w in
      let second = and_parts (within low end e.0) (list_all (λ m. m) (map (within low end) (map (λ e. e.0) members))) v in
      or_from (reads e.0) (list_any (λ m. m) (map reads (map (λ e. e.0) members))) (e.1 first.0 second.0) (members_apart members first.1 second.1)

  compare_apart : (how : Comparison) (left right : Operand) → Apart (cond.Compare how left right)
  compare_apart how left right w v =
      let first = and_parts (operand_within from to left) (operand_within from to right) (sym (fold_compare (within_layer from to) how left right) ∙ w) in
      let second = and_parts (operand_within low end left) (operand_within low end right) (sym (fold_compare (within_layer low end) how left right) ∙ v) in
      fold_compare reads_layer how left right ∙ or_from (is_column left) (is_column right) (operand-apart left first.0 second.0) (operand-apart right first.1 second.1)

  layer_apart : (y : Cond-F ((c : Cond) × Apart c)) → Apart (roll-Cond (map-Cond ((c : Cond) × Apart c) Cond (λ e. e.0) y))
  layer_apart (layer.All members) =
      rw (cond.rolls-All (map (λ e. e.0) members)) (λ w v. fold_all reads_layer (map (λ e. e.0) members)
      ∙ members_apart members (sym (fold_all (within_layer from to) (map (λ e. e.0) members)) ∙ w) (sym (fold_all (within_layer low end) (map (λ e. e.0) members)) ∙ v))
  layer_apart (layer.Any members) =
      rw (cond.rolls-Any (map (λ e. e.0) members)) (λ w v. fold_any reads_layer (map (λ e. e.0) members)
      ∙ members_apart members (sym (fold_any (within_layer from to) (map (λ e. e.0) members)) ∙ w) (sym (fold_any (within_layer low end) (map (λ e. e.0) members)) ∙ v))
  layer_apart (layer.Not part) =
      rw (cond.rolls-Not part.0) (λ w v. fold_not reads_layer part.0
      ∙ part.1 (sym (fold_not (within_layer from to) part.0) ∙ w) (sym (fold_not (within_layer low end) part.0) ∙ v))
  layer_apart (layer.Compare how left right) = rw (cond.rolls-Compare how left right) (compare_apart how left right)
  layer_apart (layer.IsNull of) =
      rw (cond.rolls-IsNull of) (λ w v. fold_null reads_layer of
      ∙ operand-apart of (sym (fold_null (within_layer from to) of) ∙ w) (sym (fold_null (within_layer low end) of) ∙ v))

  pub reads-apart : (c : Cond) → within from to c ≡ true → within low end c ≡ true → reads c ≡ false
  reads-apart = ind-Cond Apart (λ x y is. subst (λ z. Apart (roll-Cond z)) is (layer_apart y))
