-- a projection's events and its row at hand
use Rattle.std.specs.Prelude.{◌≡◌, ℕ, ◌+◌, ◌<◌, ◌^◌, if◌then◌else◌, List, [], ◌∷◌, length}
use Rattle.pm_values.specs.Row.{Row, AllBelow, pick}
use Rattle.pm_flows.specs.Coming.{Coming, streamed}
use Rattle.pm_flows.specs.Held.{held_picked}
use Rattle.pm_flows.specs.Flow.{Flow}
use Rattle.pm_operators.specs.declared.project.Project.TheInside.{Inside}

-- first these rows, then the child's events, and right after each of its rows one of the projection's own; nothing reads what it settles
abbrev pub projected : ℕ → List ℕ → List Row → List Coming → List Coming
projected n columns next below = streamed n (λ row. 0) (λ row. pick columns row ∷ []) next below

abbrev pub project_flow : Inside → Flow
project_flow a =
    record {
      node = a.number;
      depth = a.child.depth + 1;
      rest = projected a.number a.columns.now (if a.ready then pick a.columns.now a.child.hand ∷ [] else []) a.child.rest;
      free_end = a.child.free_end;
      hand = pick a.columns.now a.child.hand;
      held = held_picked a.columns.now a.child.held;
    }

pub record IsProject (a : Inside) : Type 0 where
  pub child : a.child.node ≡ a.number + 1
  pub numbered : a.number + 1 < 2 ^ 32
  pub few : length a.child.hand < 2 ^ 32
  pub within : AllBelow a.columns.now (length a.child.hand)
