-- a well-formed condition has well-formed parts, and the other way round
use Rattle.std.proofs.Common.{◌≡◌, ℕ, List, sym, subst}
use Rattle.std.specs.Prelude.{All}
use Rattle.pm_values.specs.declared.condition.Comparison.{Comparison}
use Rattle.pm_values.specs.declared.condition.Operand.{Operand}
use Rattle.pm_values.specs.declared.condition.Cond.{Cond}
use Rattle.pm_values.specs.declared.condition.Cond.TheVariants as cond
use Rattle.pm_values.specs.WellFormed.{IsWellFormedOperand, IsWellFormedLayer, IsWellFormed}
use Rattle.pm_values.proofs.Folds.{every_all, every_any, every_not, every_compare, every_null, all_every, any_every, not_every, compare_every, null_every}

module _ (width : ℕ) where
  pub all_well_formed : (members : List Cond) → IsWellFormed width (cond.All members) → All (IsWellFormed width) members
  all_well_formed = every_all (IsWellFormedLayer width)

  pub any_well_formed : (members : List Cond) → IsWellFormed width (cond.Any members) → All (IsWellFormed width) members
  any_well_formed = every_any (IsWellFormedLayer width)

  pub not_well_formed : (part : Cond) → IsWellFormed width (cond.Not part) → IsWellFormed width part
  not_well_formed = every_not (IsWellFormedLayer width)

  pub compare_well_formed : (how : Comparison) (left right : Operand) → IsWellFormed width (cond.Compare how left right) → IsWellFormedOperand width left × IsWellFormedOperand width right
  compare_well_formed = every_compare (IsWellFormedLayer width)

  pub null_well_formed : (of : Operand) → IsWellFormed width (cond.IsNull of) → IsWellFormedOperand width of
  null_well_formed = every_null (IsWellFormedLayer width)

  pub well_formed_all : (members : List Cond) → All (IsWellFormed width) members → IsWellFormed width (cond.All members)
  well_formed_all members all = all_every (IsWellFormedLayer width) members all tt

  pub well_formed_any : (members : List Cond) → All (IsWellFormed width) members → IsWellFormed width (cond.Any members)
  well_formed_any members all = any_every (IsWellFormedLayer width) members all tt

  pub well_formed_not : (part : Cond) → IsWellFormed width part → IsWellFormed width (cond.Not part)
  well_formed_not part well_formed = not_every (IsWellFormedLayer width) part well_formed tt

  pub well_formed_compare : (how : Comparison) (left right : Operand) → IsWellFormedOperand width left → IsWellFormedOperand width right → IsWellFormed width (cond.Compare how left right)
  well_formed_compare how left right l r = compare_every (IsWellFormedLayer width) how left right (l, r)

  pub well_formed_null : (of : Operand) → IsWellFormedOperand width of → IsWellFormed width (cond.IsNull of)
  well_formed_null of well_formed = null_every (IsWellFormedLayer width) of well_formed

  -- the parts as code takes them out
  pub members_of_all : (c : Cond) (members given : List Cond) → c ≡ cond.All members → given ≡ members → IsWellFormed width c → All (IsWellFormed width) given
  members_of_all c members given is here well_formed = subst (All (IsWellFormed width)) (sym here) (all_well_formed members (subst (IsWellFormed width) is well_formed))

  pub members_of_any : (c : Cond) (members given : List Cond) → c ≡ cond.Any members → given ≡ members → IsWellFormed width c → All (IsWellFormed width) given
  members_of_any c members given is here well_formed = subst (All (IsWellFormed width)) (sym here) (any_well_formed members (subst (IsWellFormed width) is well_formed))

  pub part_of_not : (c part given : Cond) → c ≡ cond.Not part → given ≡ part → IsWellFormed width c → IsWellFormed width given
  part_of_not c part given is here well_formed = subst (IsWellFormed width) (sym here) (not_well_formed part (subst (IsWellFormed width) is well_formed))

  pub sides_of_compare : (c : Cond) (how : Comparison) (left right : Operand) → c ≡ cond.Compare how left right → IsWellFormed width c → IsWellFormedOperand width left × IsWellFormedOperand width right
  sides_of_compare c how left right is well_formed = compare_well_formed how left right (subst (IsWellFormed width) is well_formed)

  pub operand_of_null : (c : Cond) (of : Operand) → c ≡ cond.IsNull of → IsWellFormed width c → IsWellFormedOperand width of
  operand_of_null c of is well_formed = null_well_formed of (subst (IsWellFormed width) is well_formed)
