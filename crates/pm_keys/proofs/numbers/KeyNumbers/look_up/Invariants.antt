use Rattle.std.proofs.Common.{ℕ, Option, None, Some, suc, zero}
use Rattle.pm_keys.proofs.Found.{IsAhead}
use Rattle.pm_keys.proofs.numbers.KeyNumbers.look_up.Given as goal

abbrev pub invariant-loop-next : goal.invariant-loop-next
invariant-loop-next g l = IsAhead (g.C.Cells.cells l.key) (g.L.Keys.keys l.self) l.next

-- one more than the next number
abbrev pub left : Option ℕ → ℕ
left None = zero
left (Some n) = suc n

abbrev pub decreases-loop-next : goal.decreases-loop-next
decreases-loop-next g l = left l.next
