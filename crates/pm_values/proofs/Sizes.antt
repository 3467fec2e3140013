-- the parts of a condition are smaller than it is
use Rattle.std.proofs.Common.{◌≡◌, ◌<◌, ◌+◌, ◌*◌, ℕ, List, arith}
use denote.Param.Weighed.{most}
use Rattle.pm_values.specs.declared.condition.Cond.{Cond}
use Rattle.pm_values.specs.declared.condition.Cond.TheVariants as cond
use Rattle.pm_values.specs.declared.condition.Cond.TheViews.{size-Cond, size_is-Cond}

size_all : (members : List Cond) → size-Cond (cond.All members) ≡ most size-Cond members + 1
size_all members = rw (size_is-Cond (cond.All members), cond.outs-All members) (omega arith)

size_any : (members : List Cond) → size-Cond (cond.Any members) ≡ most size-Cond members + 1
size_any members = rw (size_is-Cond (cond.Any members), cond.outs-Any members) (omega arith)

size_not : (part : Cond) → size-Cond (cond.Not part) ≡ size-Cond part + 1
size_not part = rw (size_is-Cond (cond.Not part), cond.outs-Not part) (omega arith)

pub all_is_larger : (c : Cond) (members given : List Cond) (t : ℕ) → c ≡ cond.All members → given ≡ members → 2 * size-Cond c + 0 ≡ t → 2 * most size-Cond given + 1 < t
all_is_larger c members given t is same falls = rw (same, ← falls, is, size_all members) (omega arith)

pub any_is_larger : (c : Cond) (members given : List Cond) (t : ℕ) → c ≡ cond.Any members → given ≡ members → 2 * size-Cond c + 0 ≡ t → 2 * most size-Cond given + 1 < t
any_is_larger c members given t is same falls = rw (same, ← falls, is, size_any members) (omega arith)

pub not_is_larger : (c part given : Cond) (t : ℕ) → c ≡ cond.Not part → given ≡ part → 2 * size-Cond c + 0 ≡ t → 2 * size-Cond given + 0 < t
not_is_larger c part given t is same falls = rw (same, ← falls, is, size_not part) (omega arith)
