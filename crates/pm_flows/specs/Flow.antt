-- an iterator as contracts see it
use Rattle.std.specs.Prelude.{◌≡◌, ℕ, ◌+◌, ◌≤◌, Bool, true, List, [], ◌∷◌, length, Option, None, Some}
use Rattle.pm_values.specs.Row.{Row}
use Rattle.pm_flows.specs.declared.taken.Taken.{Taken}
use Rattle.pm_flows.specs.Coming.{Coming, taken_by}
use Rattle.pm_flows.specs.Held.{Held, KeepsHeld}

-- its number; how many iterators lie in one another; the events to come; whether the step at the end takes no memory; the row at hand, and how its
-- rows are kept
pub record Flow : Type 0 where
  pub node : ℕ
  pub depth : ℕ
  pub rest : List Coming
  pub free_end : Bool
  pub hand : Row
  pub held : Held

-- one deeper than its operator
abbrev pub deepened : Flow → Flow
deepened f = record { node = f.node; depth = f.depth + 1; rest = f.rest; free_end = f.free_end; hand = f.hand; held = f.held }

-- whether the next step takes no memory
abbrev pub is_free_by : List Coming → Bool → Bool
is_free_by [] free_end = free_end
is_free_by (e ∷ es) free_end = e.free

abbrev pub is_free : Flow → Bool
is_free f = is_free_by f.rest f.free_end

-- a step took the first of the events to come. A row of its own is then at hand
pub record TakesOne (old : Flow) (taken : Taken) (new : Flow) : Type 0 where
  pub row : Row
  pub free : Bool
  pub next : old.rest ≡ record { taken = taken; row = row; free = free } ∷ new.rest
  pub below : old.node ≤ taken.node
  pub hand : taken.node ≡ old.node → new.hand ≡ row

-- there was none, and the row at hand stays
pub record TakesNone (old new : Flow) : Type 0 where
  pub done : old.rest ≡ []
  pub rest : new.rest ≡ []
  pub hand : new.hand ≡ old.hand

abbrev pub Takes : Flow → Option Taken → Flow → Type 0
Takes old None new = TakesNone old new
Takes old (Some taken) new = TakesOne old taken new

-- the first of the events to come is this row of its own, which is then at hand
pub record TakesRow (old : Flow) (row : Row) (new : Flow) : Type 0 where
  pub next : old.rest ≡ record { taken = taken_by old.node; row = row; free = true } ∷ new.rest
  pub hand : new.hand ≡ row

-- the next event is this row of its own
pub record StartsWith (f : Flow) (row : Row) : Type 0 where
  pub later : List Coming
  pub next : f.rest ≡ record { taken = taken_by f.node; row = row; free = true } ∷ later
  pub wide : length row ≡ length f.hand

-- what no step changes
pub record Keeps (old new : Flow) : Type 0 where
  pub node : new.node ≡ old.node
  pub depth : new.depth ≡ old.depth
  pub width : length new.hand ≡ length old.hand
  pub free_end : new.free_end ≡ old.free_end
  pub held : KeepsHeld old.held new.held
