-- a filter's events and its row at hand
use Rattle.std.specs.Prelude.{◌≡◌, ◌+◌, ◌<◌, ◌^◌, if◌then◌else◌, [], ◌∷◌, length}
use Rattle.pm_values.specs.WellFormed.{IsWellFormed}
use Rattle.pm_flows.specs.Filtered.{filtered}
use Rattle.pm_flows.specs.Flow.{Flow}
use Rattle.pm_operators.specs.declared.filter.Filter.TheInside.{Inside}

abbrev pub filter_flow : Inside → Flow
filter_flow a =
    record {
      node = a.number;
      depth = a.child.depth + 1;
      rest = filtered a.number a.cond.now (if a.ready then a.child.hand ∷ [] else []) a.child.rest;
      free_end = a.child.free_end;
      hand = a.child.hand;
      held = a.child.held;
    }

pub record IsFilter (a : Inside) : Type 0 where
  pub child : a.child.node ≡ a.number + 1
  pub numbered : a.number + 1 < 2 ^ 32
  pub few : length a.child.hand < 2 ^ 32
  pub well_formed : IsWellFormed (length a.child.hand) a.cond.now
