-- conditions and pairs that fit the row of all columns fit the parts of it on which they are asked
use Rattle.std.proofs.Common.{append_assoc, ◌≡◌, ◌∙◌, ℕ, ◌+◌, ◌-◌, ◌<◌, ◌≤◌, Bool, true, false, cond, List, [], ◌∷◌, ◌++◌, length, refl, sym, ap, arith, Option, None, Some, filter, length-append}
use Rattle.std.specs.Prelude.{◌&&◌, nat_le, nat_lt, nat_eq}
use Rattle.std.specs.List.{list_all, filter_map, cons_option}
use Rattle.std.proofs.lemmas.Bool.{and_parts, and_from, leb-true, ltb-true, lt-ltb, eqb-true, eq-eqb}
use Rattle.std.proofs.lemmas.List.{get_or_append_left, get_or-append_right}
use Rattle.pm_values.specs.declared.value.Kind.{Kind}
use Rattle.pm_values.specs.declared.value.Kind.TheVariants as kind
use Rattle.pm_values.specs.declared.value.Value.TheVariants as value
use Rattle.pm_values.specs.declared.condition.Comparison.TheVariants as comparison
use Rattle.pm_values.specs.declared.condition.Operand.{Operand}
use Rattle.pm_values.specs.declared.condition.Operand.TheVariants as operand
use Rattle.pm_values.specs.declared.condition.Cond.{Cond}
use Rattle.pm_values.proofs.Folds.{fold_compare}
use Rattle.pm_plan.proofs.Conditions.{fits_all}
use Rattle.pm_plan.specs.declared.plan.Pair.{Pair}
use Rattle.pm_plan.specs.Kinds.{OfColumn, kind_at, scale_of, same_kind, operand_kind, kinds_fit, operand_fits, condition_layer, condition_fits, condition_fits_if, pair_fits, comparison_fits}
use Rattle.pm_plan.specs.References.{same_pair}
use Rattle.pm_query.specs.Columns.{operand_within, within, shift_operand, shift_columns, conjunction, reads}
use Rattle.pm_query.specs.Pairs.{is_own, pair_at, pair_of}
use Rattle.pm_answers.proofs.Lists.{list_all-once_kept}
use Rattle.pm_answers.proofs.Conditions.{fold-shifted}
use Rattle.pm_answers.proofs.Taken.{pair_cases}
use Rattle.pm_answers.proofs.Joins.{pairs_in}

-- ---- conditions, where columns of one row are those of a part of another

module _ (kinds others : List Kind) (by from to : ℕ)
    (same : (at : ℕ) → from ≤ at → at < to → (nat_lt (at - by) (length kinds) ≡ nat_lt at (length others)) × (kind_at kinds (at - by) ≡ kind_at others at)) where
  operand-moved : (o : Operand) → operand_within from to o ≡ true → operand_fits kinds (shift_operand by o) ≡ operand_fits others o
  operand-moved (operand.Column at scale) w =
      let parts = and_parts (nat_le from at) (nat_lt at to) w in
      let one = same at (leb-true from at parts.0) (ltb-true at to parts.1) in
      ap (λ t. t && nat_eq scale (scale_of (kind_at kinds (at - by)))) one.0 ∙ ap (λ k. nat_lt at (length others) && nat_eq scale (scale_of k)) one.1
  operand-moved (operand.Literal v scale) w = refl

  kind-moved : (o : Operand) → operand_within from to o ≡ true → operand_kind kinds (shift_operand by o) ≡ operand_kind others o
  kind-moved (operand.Column at scale) w =
      let parts = and_parts (nat_le from at) (nat_lt at to) w in
      ap OfColumn (same at (leb-true from at parts.0) (ltb-true at to parts.1)).1
  kind-moved (operand.Literal value.Null scale) w = refl
  kind-moved (operand.Literal (value.Int n) scale) w = refl
  kind-moved (operand.Literal (value.Text t) scale) w = refl

  fits-moved : (c : Cond) → within from to c ≡ true → condition_fits kinds (shift_columns by c) ≡ condition_fits others c
  fits-moved =
      fold-shifted (condition_layer kinds) (condition_layer others) by from to (λ members. refl) (λ members. refl) (λ part. refl)
      (λ how left right wl wr.
      ap (λ t. t && operand_fits kinds (shift_operand by right) && kinds_fit (operand_kind kinds (shift_operand by left)) (operand_kind kinds (shift_operand by right))) (operand-moved left wl)
      ∙ ap (λ t. operand_fits others left && t && kinds_fit (operand_kind kinds (shift_operand by left)) (operand_kind kinds (shift_operand by right))) (operand-moved right wr)
      ∙ ap (λ k. operand_fits others left && operand_fits others right && kinds_fit k (operand_kind kinds (shift_operand by right))) (kind-moved left wl)
      ∙ ap (λ k. operand_fits others left && operand_fits others right && kinds_fit (operand_kind others left) k) (kind-moved right wr))
      (λ of w. operand-moved of w)

both_below : (a b m n : ℕ) → a < m → b < n → nat_lt a m ≡ nat_lt b n
both_below a b m n p q = lt-ltb a m p ∙ sym (lt-ltb b n q)

-- ---- the columns of a first part, of one behind it, and of what follows

module _ (lefts rights more : List Kind) (from to : ℕ) (begins : length lefts ≡ from) (ends : from + length rights ≡ to) where
  abbrev whole : List Kind
  whole = lefts ++ (rights ++ more)

  long : length (lefts ++ (rights ++ more)) ≡ to + length more
  long = length-append lefts (rights ++ more) ∙ ap (λ n. length lefts + n) (length-append rights more) ∙ omega (arith, begins, ends)

  left_kind : (at : ℕ) → at < from → kind_at lefts at ≡ kind_at whole at
  left_kind at low = sym (get_or_append_left lefts (rights ++ more) kind.Int at (omega (arith, begins, low)))

  right_kind : (at : ℕ) → from ≤ at → at < to → kind_at rights (at - from) ≡ kind_at whole at
  right_kind at low high =
      sym (get_or_append_left rights more kind.Int (at - from) (omega (arith, ends, low, high)))
      ∙ sym (get_or-append_right lefts (rights ++ more) from at kind.Int begins low)

  -- on the row of the part behind
  pub fits-rest : (c : Cond) → condition_fits whole c ≡ true → within from to c ≡ true → condition_fits rights (shift_columns from c) ≡ true
  fits-rest c fit w =
      fits-moved rights whole from from to
      (λ at low high. (both_below (at - from) at (length rights) (length whole) (omega (arith, ends)) (omega (arith, long)), right_kind at low high)) c w
      ∙ fit

  -- on the row of both
  front_kind : (at : ℕ) → at < to → kind_at (lefts ++ rights) at ≡ kind_at whole at
  front_kind at high =
      let both : length (lefts ++ rights) ≡ to = length-append lefts rights ∙ omega (arith, begins, ends) in
      sym (get_or_append_left (lefts ++ rights) more kind.Int at (omega (arith, both, high))) ∙ ap (λ ks. kind_at ks at) (append_assoc lefts rights more)

  pub fits-front : (c : Cond) → condition_fits whole c ≡ true → within from to c ≡ true → condition_fits (lefts ++ rights) c ≡ true
  fits-front c fit w =
      let both : length (lefts ++ rights) ≡ to = length-append lefts rights ∙ omega (arith, begins, ends) in
      let none : (at : ℕ) → at - 0 ≡ at = λ at. omega arith in
      sym (fits-moved (lefts ++ rights) (lefts ++ rights) 0 from to (λ at low high. (ap (λ n. nat_lt n (length (lefts ++ rights))) (none at), ap (kind_at (lefts ++ rights)) (none at))) c w)
      ∙ fits-moved (lefts ++ rights) whole 0 from to
      (λ at low high. (both_below (at - 0) at (length (lefts ++ rights)) (length whole) (omega (arith, both)) (omega (arith, long)), ap (kind_at (lefts ++ rights)) (none at) ∙ front_kind at high)) c w
      ∙ fit

  abbrev fits_whole : Cond → Bool
  fits_whole c = condition_fits whole c

  pub own-fits : (P : Cond → Bool) → ((c : Cond) → condition_fits whole c ≡ true → within from to c ≡ true → P c ≡ true)
      → (conds : List Cond) → list_all fits_whole conds ≡ true → list_all P (filter (is_own from to) conds) ≡ true
  own-fits P each [] fit = refl
  own-fits P each (c ∷ conds) fit =
      let parts = and_parts (fits_whole c) (list_all fits_whole conds) fit in
      let rest : list_all P (filter (is_own from to) conds) ≡ true = own-fits P each conds parts.1 in
      elim (is_own from to c) as (λ t. (is_own from to c ≡ t) → list_all P (cond t (c ∷ filter (is_own from to) conds) (filter (is_own from to) conds)) ≡ true) [
        | true ↦ λ own. and_from (P c) (list_all P (filter (is_own from to) conds)) (each c parts.0 (and_parts (reads c) (within from to c) own).1) rest
        | false ↦ λ own. rest
      ]
      refl

  -- ---- pairs

  abbrev fits_if : Option Pair → Bool
  fits_if None = true
  fits_if (Some p) = pair_fits lefts rights p

  columns_fit : (x y : ℕ) → (nat_lt x from && (nat_le from y && nat_lt y to)) ≡ true → same_kind (kind_at whole x) (kind_at whole y) ≡ true
      → pair_fits lefts rights (record { left = x; right = y - from }) ≡ true
  columns_fit x y h same =
      let parts = and_parts (nat_lt x from) (nat_le from y && nat_lt y to) h in
      let second = and_parts (nat_le from y) (nat_lt y to) parts.1 in
      let low : x < from = ltb-true x from parts.0 in
      let least : from ≤ y = leb-true from y second.0 in
      let most : y < to = ltb-true y to second.1 in
      and_from (nat_lt x (length lefts) && nat_lt (y - from) (length rights)) (same_kind (kind_at lefts x) (kind_at rights (y - from)))
      (and_from (nat_lt x (length lefts)) (nat_lt (y - from) (length rights)) (lt-ltb x (length lefts) (omega (arith, begins, low))) (lt-ltb (y - from) (length rights) (omega (arith, ends, least, most))))
      (ap (λ k. same_kind k (kind_at rights (y - from))) (left_kind x low) ∙ ap (same_kind (kind_at whole x)) (right_kind y least most) ∙ same)

  same_kind-turned : (k l : Kind) → same_kind k l ≡ true → same_kind l k ≡ true
  same_kind-turned kind.Int kind.Int h = h
  same_kind-turned (kind.Num s) (kind.Num t) h = eq-eqb t s (sym (eqb-true s t h))
  same_kind-turned kind.Text kind.Text h = h
  same_kind-turned kind.Int (kind.Num t) h = h
  same_kind-turned kind.Int kind.Text h = h
  same_kind-turned (kind.Num s) kind.Int h = h
  same_kind-turned (kind.Num s) kind.Text h = h
  same_kind-turned kind.Text kind.Int h = h
  same_kind-turned kind.Text (kind.Num t) h = h

  pair_at-fits : (x y : ℕ) → same_kind (kind_at whole x) (kind_at whole y) ≡ true → fits_if (pair_at from to x y) ≡ true
  pair_at-fits x y same =
      let first : Option Pair = Some (record { left = x; right = y - from }) in
      let second : Option Pair = Some (record { left = y; right = x - from }) in
      let none : Option Pair = None in
      elim (nat_lt x from && (nat_le from y && nat_lt y to)) as (λ t. ((nat_lt x from && (nat_le from y && nat_lt y to)) ≡ t)
      → fits_if (cond t first (cond (nat_lt y from && (nat_le from x && nat_lt x to)) second none)) ≡ true) [
        | true ↦ λ h. columns_fit x y h same
        | false ↦ λ h.
            elim (nat_lt y from && (nat_le from x && nat_lt x to)) as (λ t. ((nat_lt y from && (nat_le from x && nat_lt x to)) ≡ t) → fits_if (cond t second none) ≡ true) [
              | true ↦ λ g. columns_fit y x g (same_kind-turned (kind_at whole x) (kind_at whole y) same)
              | false ↦ λ g. refl
            ]
            refl
      ]
      refl

  pair-fits : (c : Cond) → condition_fits whole c ≡ true → fits_if (pair_of from to c) ≡ true
  pair-fits =
      pair_cases from to (λ o c. condition_fits whole c ≡ true → fits_if o ≡ true) (λ c fit. refl)
      (λ x y s fit.
      let sides : (comparison_fits whole (operand.Column x s) (operand.Column y s)) ≡ true = sym (fold_compare (condition_layer whole) comparison.Equal (operand.Column x s) (operand.Column y s)) ∙ fit in
      pair_at-fits x y (and_parts (operand_fits whole (operand.Column x s) && operand_fits whole (operand.Column y s)) (same_kind (kind_at whole x) (kind_at whole y)) sides).1)

  found-fit : (conds : List Cond) → list_all fits_whole conds ≡ true → list_all (pair_fits lefts rights) (filter_map (pair_of from to) conds) ≡ true
  found-fit [] fit = refl
  found-fit (c ∷ conds) fit =
      let parts = and_parts (fits_whole c) (list_all fits_whole conds) fit in
      elim (pair_of from to c) as (λ o. fits_if o ≡ true → list_all (pair_fits lefts rights) (cons_option o (filter_map (pair_of from to) conds)) ≡ true) [
        | None ↦ λ h. found-fit conds parts.1
        | Some p ↦ λ h. and_from (pair_fits lefts rights p) (list_all (pair_fits lefts rights) (filter_map (pair_of from to) conds)) h (found-fit conds parts.1)
      ]
      (pair-fits c parts.0)

  pub pairs-fit : (conds : List Cond) → list_all fits_whole conds ≡ true → list_all (pair_fits lefts rights) (pairs_in from to conds) ≡ true
  pairs-fit conds fit = list_all-once_kept same_pair (pair_fits lefts rights) (filter_map (pair_of from to) conds) (found-fit conds fit)

-- ---- a list of conditions

pub conjunction-fits : (kinds : List Kind) (conds : List Cond) → list_all (condition_fits kinds) conds ≡ true → condition_fits_if kinds (conjunction conds) ≡ true
conjunction-fits kinds [] fit = refl
conjunction-fits kinds (c ∷ []) fit = (and_parts (condition_fits kinds c) true fit).0
conjunction-fits kinds (c ∷ d ∷ conds) fit = fits_all kinds (c ∷ d ∷ conds) ∙ fit
