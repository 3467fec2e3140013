-- a condition on rows of a width is well-formed: they have its columns, and no scale is above the most decimals
use Rattle.std.specs.Prelude.{ℕ, ◌<◌, ◌≤◌}
use Rattle.pm_values.specs.declared.limits.TheConstants.{MOST_DECIMALS}
use Rattle.pm_values.specs.declared.condition.Operand.{Operand}
use Rattle.pm_values.specs.declared.condition.Operand.TheVariants as operand
use Rattle.pm_values.specs.declared.condition.Cond.{Cond, every-Cond}
use Rattle.pm_values.specs.declared.condition.Cond.TheOpen.{Cond-F}
use Rattle.pm_values.specs.declared.condition.Cond.TheOpen as layer

abbrev pub IsWellFormedOperand : ℕ → Operand → Type 0
IsWellFormedOperand width (operand.Column at scale) = (at < width) × (scale ≤ MOST_DECIMALS)
IsWellFormedOperand width (operand.Literal v scale) = scale ≤ MOST_DECIMALS

abbrev pub IsWellFormedLayer : ℕ → Cond-F Cond → Type 0
IsWellFormedLayer width (layer.All members) = Unit {0}
IsWellFormedLayer width (layer.Any members) = Unit {0}
IsWellFormedLayer width (layer.Not part) = Unit {0}
IsWellFormedLayer width (layer.Compare how left right) = IsWellFormedOperand width left × IsWellFormedOperand width right
IsWellFormedLayer width (layer.IsNull of) = IsWellFormedOperand width of

-- each comparison and each test for NULL in it, however deep, is well-formed
abbrev pub IsWellFormed : ℕ → Cond → Type 0
IsWellFormed width = every-Cond (IsWellFormedLayer width)
