-- the events of a filter as its iterator has them to come
use Rattle.std.specs.Prelude.{ℕ, List, [], ◌∷◌, length, filter}
use Rattle.pm_values.specs.declared.condition.Cond.{Cond}
use Rattle.pm_values.specs.Row.{Row}
use Rattle.pm_values.specs.Condition.{keeps}
use Rattle.pm_flows.specs.Coming.{Coming, streamed}

-- first these rows, then the child's events, and right after each of its rows one of the filter's own if it is kept
abbrev pub filtered : ℕ → Cond → List Row → List Coming → List Coming
filtered n cond next below =
    streamed n (λ row. length (filter (keeps cond) (row ∷ []))) (λ row. filter (keeps cond) (row ∷ [])) next below
