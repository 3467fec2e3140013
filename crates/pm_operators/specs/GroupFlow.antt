-- a group's events and its row at hand
use Rattle.std.specs.Prelude.{◌≡◌, ℕ, ◌+◌, ◌<◌, ◌^◌, true, false, if◌then◌else◌, List, [], ◌++◌, length, drop, replicate, get_or, Option, None, Some, All, IfSome}
use Rattle.pm_values.specs.declared.value.Value.TheVariants.{Null}
use Rattle.pm_values.specs.Row.{Row, AllBelow}
use Rattle.pm_blocks.specs.GroupState.{GroupState, IsOf}
use Rattle.pm_blocks.specs.Limits.{AreFew, IsWithin}
use Rattle.pm_flows.specs.declared.taken.Taken.{Taken}
use Rattle.pm_flows.specs.Coming.{Coming, taken_by, rows_by, rows_in}
use Rattle.pm_flows.specs.Held.{held_in_group}
use Rattle.pm_flows.specs.Flow.{Flow}
use Rattle.pm_flows.specs.Growing.{grouping}
use Rattle.pm_operators.specs.declared.group.Group.TheInside.{Inside}

-- while it reads, the child's events and then its groups; and then the groups that it has not handed out
abbrev pub group_rest : ℕ → GroupState → List Coming → List Coming
group_rest n core below =
    if core.closed then rows_by n false (drop core.handed core.groups) else grouping n core.keys core.items core.groups below

-- the group that was handed out last, and NULLs before the first
abbrev pub group_hand : ℕ → List Row → Option ℕ → Row
group_hand wide groups None = replicate wide Null
group_hand wide groups (Some group) = get_or groups group []

abbrev pub group_flow : Inside → Flow
group_flow a =
    record {
      node = a.number;
      depth = a.child.depth + 1;
      rest = group_rest a.number a.core a.child.rest;
      free_end = false;
      hand = group_hand a.width a.core.groups a.group;
      held = held_in_group a.width a.core.groups a.core.closed;
    }

-- the groups are those of rows that were read, and with the rows to come there are few enough
pub record IsReading (core : GroupState) (group : Option ℕ) (rows : List Row) : Type 0 where
  pub none : group ≡ None
  pub unhanded : core.handed ≡ 0
  pub read : List Row
  pub groups : IsOf core read
  pub few : AreFew core.items (read ++ rows)

abbrev pub HasWidth : ℕ → Row → Type 0
HasWidth wide row = length row ≡ wide

pub record IsGroup (a : Inside) : Type 0 where
  pub child : a.child.node ≡ a.number + 1
  pub numbered : a.number + 1 < 2 ^ 32
  pub hand : length a.child.hand < 2 ^ 32
  pub keys : AllBelow a.core.keys (length a.child.hand)
  pub items : All (IsWithin (length a.child.hand)) a.core.items
  pub width : a.width ≡ length a.core.keys + length a.core.items
  pub narrow : a.width < 2 ^ 32
  pub closed : a.reading ≡ false → a.core.closed ≡ true
  pub unclosed : a.reading ≡ true → a.core.closed ≡ false
  pub reading : a.reading ≡ true → IsReading a.core a.group (rows_in (a.number + 1) a.child.rest)
  pub wide : All (HasWidth a.width) a.core.groups
  pub group : IfSome a.group (λ group. group < length a.core.groups)
  pub null : a.null ≡ Null

-- the next of the groups that were not handed out, or none
pub record HandsOne (n : ℕ) (old new : GroupState) (event : Taken) (after : Option ℕ) : Type 0 where
  pub within : old.handed < length old.groups
  pub taken : event ≡ taken_by n
  pub group : after ≡ Some old.handed
  pub core : new ≡ record old { handed = old.handed + 1 }

pub record HandsNone (old new : GroupState) (before after : Option ℕ) : Type 0 where
  pub done : drop old.handed old.groups ≡ []
  pub group : after ≡ before
  pub core : drop new.handed new.groups ≡ []
  pub same : new ≡ record old { handed = new.handed }

abbrev pub Hands : ℕ → GroupState → GroupState → Option ℕ → Option ℕ → Option Taken → Type 0
Hands n old new before after None = HandsNone old new before after
Hands n old new before after (Some taken) = HandsOne n old new taken after
