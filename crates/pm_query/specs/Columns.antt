-- which columns a condition reads, and the same condition on a part of the row
use Rattle.std.specs.Prelude.{ℕ, ◌-◌, Bool, true, false, ◌&&◌, ◌||◌, nat_le, nat_lt, List, [], ◌∷◌, Option, None, Some}
use Rattle.std.specs.List.{list_all, list_any}
use Rattle.pm_values.specs.declared.condition.Operand.{Operand}
use Rattle.pm_values.specs.declared.condition.Operand.TheVariants as operand
use Rattle.pm_values.specs.declared.condition.Cond.{Cond, fold-Cond}
use Rattle.pm_values.specs.declared.condition.Cond.TheVariants as cond
use Rattle.pm_values.specs.declared.condition.Cond.TheOpen.{Cond-F}
use Rattle.pm_values.specs.declared.condition.Cond.TheOpen as layer

abbrev pub is_column : Operand → Bool
is_column (operand.Column at scale) = true
is_column (operand.Literal value scale) = false

abbrev pub reads_layer : Cond-F Bool → Bool
reads_layer (layer.All members) = list_any (λ m. m) members
reads_layer (layer.Any members) = list_any (λ m. m) members
reads_layer (layer.Not part) = part
reads_layer (layer.Compare how left right) = is_column left || is_column right
reads_layer (layer.IsNull of) = is_column of

-- some column is read
abbrev pub reads : Cond → Bool
reads = fold-Cond Bool reads_layer

abbrev pub operand_within : ℕ → ℕ → Operand → Bool
operand_within from to (operand.Column at scale) = nat_le from at && nat_lt at to
operand_within from to (operand.Literal value scale) = true

abbrev pub within_layer : ℕ → ℕ → Cond-F Bool → Bool
within_layer from to (layer.All members) = list_all (λ m. m) members
within_layer from to (layer.Any members) = list_all (λ m. m) members
within_layer from to (layer.Not part) = part
within_layer from to (layer.Compare how left right) = operand_within from to left && operand_within from to right
within_layer from to (layer.IsNull of) = operand_within from to of

-- each column that is read stands from `from` up to below `to`
abbrev pub within : ℕ → ℕ → Cond → Bool
within from to = fold-Cond Bool (within_layer from to)

abbrev pub shift_operand : ℕ → Operand → Operand
shift_operand by (operand.Column at scale) = operand.Column (at - by) scale
shift_operand by (operand.Literal value scale) = operand.Literal value scale

abbrev pub shift_layer : ℕ → Cond-F Cond → Cond
shift_layer by (layer.All members) = cond.All members
shift_layer by (layer.Any members) = cond.Any members
shift_layer by (layer.Not part) = cond.Not part
shift_layer by (layer.Compare how left right) = cond.Compare how (shift_operand by left) (shift_operand by right)
shift_layer by (layer.IsNull of) = cond.IsNull (shift_operand by of)

-- the same condition on rows without their first values, so many
abbrev pub shift_columns : ℕ → Cond → Cond
shift_columns by = fold-Cond Cond (shift_layer by)

-- none, the one, or one AND list of all
abbrev pub conjunction : List Cond → Option Cond
conjunction [] = None
conjunction (c ∷ []) = Some c
conjunction (c ∷ d ∷ conds) = Some (cond.All (c ∷ d ∷ conds))
