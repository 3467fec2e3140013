-- what a fold over a condition, and a fact of each layer of one, are at each kind of condition
use Rattle.std.proofs.Common.{◌≡◌, ◌∙◌, List, [], ◌∷◌, map, refl, sym, ap, subst}
use Rattle.std.proofs.lemmas.List.Elements.{All-nil, All-head, All-tail, All-cons}
use Rattle.std.specs.Prelude.{◌⊎◌, All}
use mathlib.Core.Logic.{inl, inr}
use Rattle.pm_values.specs.declared.condition.Comparison.{Comparison}
use Rattle.pm_values.specs.declared.condition.Operand.{Operand}
use Rattle.pm_values.specs.declared.condition.Cond.{Cond, fold-Cond, every-Cond}
use Rattle.pm_values.specs.declared.condition.Cond.TheVariants as cond
use Rattle.pm_values.specs.declared.condition.Cond.TheOpen.{Cond-F}
use Rattle.pm_values.specs.declared.condition.Cond.TheOpen as layer
use Rattle.pm_values.specs.declared.condition.Cond.TheFolds.{fold-roll-Cond, every_here-Cond, every_held-Cond, every_made-Cond, map-Cond}

pub fold_all : {A : Type 0} (step : Cond-F A → A) (members : List Cond) → fold-Cond A step (cond.All members) ≡ step (layer.All (map (fold-Cond A step) members))
fold_all {A} step members = ap (fold-Cond A step) (sym (cond.rolls-All members)) ∙ fold-roll-Cond A step (layer.All members)

pub fold_any : {A : Type 0} (step : Cond-F A → A) (members : List Cond) → fold-Cond A step (cond.Any members) ≡ step (layer.Any (map (fold-Cond A step) members))
fold_any {A} step members = ap (fold-Cond A step) (sym (cond.rolls-Any members)) ∙ fold-roll-Cond A step (layer.Any members)

pub fold_not : {A : Type 0} (step : Cond-F A → A) (part : Cond) → fold-Cond A step (cond.Not part) ≡ step (layer.Not (fold-Cond A step part))
fold_not {A} step part = ap (fold-Cond A step) (sym (cond.rolls-Not part)) ∙ fold-roll-Cond A step (layer.Not part)

pub fold_compare : {A : Type 0} (step : Cond-F A → A) (how : Comparison) (left right : Operand) → fold-Cond A step (cond.Compare how left right) ≡ step (layer.Compare how left right)
fold_compare {A} step how left right = ap (fold-Cond A step) (sym (cond.rolls-Compare how left right)) ∙ fold-roll-Cond A step (layer.Compare how left right)

pub fold_null : {A : Type 0} (step : Cond-F A → A) (of : Operand) → fold-Cond A step (cond.IsNull of) ≡ step (layer.IsNull of)
fold_null {A} step of = ap (fold-Cond A step) (sym (cond.rolls-IsNull of)) ∙ fold-roll-Cond A step (layer.IsNull of)

-- a fact of each layer holds of the layer at hand and of the parts
pub every_compare : (Q : Cond-F Cond → Type 0) (how : Comparison) (left right : Operand) → every-Cond Q (cond.Compare how left right) → Q (layer.Compare how left right)
every_compare Q how left right all = subst Q (cond.outs-Compare how left right) (every_here-Cond Q (cond.Compare how left right) all)

pub every_null : (Q : Cond-F Cond → Type 0) (of : Operand) → every-Cond Q (cond.IsNull of) → Q (layer.IsNull of)
every_null Q of all = subst Q (cond.outs-IsNull of) (every_here-Cond Q (cond.IsNull of) all)

module _ (Q : Cond-F Cond → Type 0) where
  -- a condition of which the fact holds throughout
  abbrev Held : Type 0
  Held = (x : Cond) × every-Cond Q x

  each_held : (pairs : List Held) → All (every-Cond Q) (map (λ p. p.0) pairs)
  each_held [] = All-nil (every-Cond Q)
  each_held (p ∷ pairs) = All-cons (every-Cond Q) p.0 (map (λ p. p.0) pairs) p.1 (each_held pairs)

  list_held : (x : Cond-F Held) (members : List Cond) → (map-Cond Held Cond (λ p. p.0) x ≡ layer.All members) ⊎ (map-Cond Held Cond (λ p. p.0) x ≡ layer.Any members) → All (every-Cond Q) members
  list_held (layer.All pairs) members (inl same) = let e : map (λ p. p.0) pairs ≡ members = cc same in subst (All (every-Cond Q)) e (each_held pairs)
  list_held (layer.All pairs) members (inr same) = absurd (cc same)
  list_held (layer.Any pairs) members (inl same) = absurd (cc same)
  list_held (layer.Any pairs) members (inr same) = let e : map (λ p. p.0) pairs ≡ members = cc same in subst (All (every-Cond Q)) e (each_held pairs)
  list_held (layer.Not part) members (inl same) = absurd (cc same)
  list_held (layer.Not part) members (inr same) = absurd (cc same)
  list_held (layer.Compare how left right) members (inl same) = absurd (cc same)
  list_held (layer.Compare how left right) members (inr same) = absurd (cc same)
  list_held (layer.IsNull of) members (inl same) = absurd (cc same)
  list_held (layer.IsNull of) members (inr same) = absurd (cc same)

  part_held : (x : Cond-F Held) (part : Cond) → map-Cond Held Cond (λ p. p.0) x ≡ layer.Not part → every-Cond Q part
  part_held (layer.Not p) part same = let e : p.0 ≡ part = cc same in subst (every-Cond Q) e p.1
  part_held (layer.All pairs) part same = absurd (cc same)
  part_held (layer.Any pairs) part same = absurd (cc same)
  part_held (layer.Compare how left right) part same = absurd (cc same)
  part_held (layer.IsNull of) part same = absurd (cc same)

  pub every_all : (members : List Cond) → every-Cond Q (cond.All members) → All (every-Cond Q) members
  every_all members all = let held = every_held-Cond Q (cond.All members) all in list_held held.0 members (inl (held.1 ∙ cond.outs-All members))

  pub every_any : (members : List Cond) → every-Cond Q (cond.Any members) → All (every-Cond Q) members
  every_any members all = let held = every_held-Cond Q (cond.Any members) all in list_held held.0 members (inr (held.1 ∙ cond.outs-Any members))

  pub every_not : (part : Cond) → every-Cond Q (cond.Not part) → every-Cond Q part
  every_not part all = let held = every_held-Cond Q (cond.Not part) all in part_held held.0 part (held.1 ∙ cond.outs-Not part)

  -- and the other way round
  paired : (members : List Cond) → All (every-Cond Q) members → (pairs : List Held) × (map (λ p. p.0) pairs ≡ members)
  paired [] all = ([], refl)
  paired (x ∷ members) all =
      let rest = paired members (All-tail (every-Cond Q) x members all) in
      ((x, All-head (every-Cond Q) x members all) ∷ rest.0, ap (λ xs. x ∷ xs) rest.1)

  pub all_every : (members : List Cond) → All (every-Cond Q) members → Q (layer.All members) → every-Cond Q (cond.All members)
  all_every members all here =
      let pairs = paired members all in
      subst (every-Cond Q) (cond.rolls-All members) (every_made-Cond Q (layer.All members) (layer.All pairs.0) (ap layer.All pairs.1) here)

  pub any_every : (members : List Cond) → All (every-Cond Q) members → Q (layer.Any members) → every-Cond Q (cond.Any members)
  any_every members all here =
      let pairs = paired members all in
      subst (every-Cond Q) (cond.rolls-Any members) (every_made-Cond Q (layer.Any members) (layer.Any pairs.0) (ap layer.Any pairs.1) here)

  pub not_every : (part : Cond) → every-Cond Q part → Q (layer.Not part) → every-Cond Q (cond.Not part)
  not_every part held here =
      subst (every-Cond Q) (cond.rolls-Not part) (every_made-Cond Q (layer.Not part) (layer.Not (part, held)) refl here)

  pub compare_every : (how : Comparison) (left right : Operand) → Q (layer.Compare how left right) → every-Cond Q (cond.Compare how left right)
  compare_every how left right here =
      subst (every-Cond Q) (cond.rolls-Compare how left right) (every_made-Cond Q (layer.Compare how left right) (layer.Compare how left right) refl here)

  pub null_every : (of : Operand) → Q (layer.IsNull of) → every-Cond Q (cond.IsNull of)
  null_every of here = subst (every-Cond Q) (cond.rolls-IsNull of) (every_made-Cond Q (layer.IsNull of) (layer.IsNull of) refl here)
