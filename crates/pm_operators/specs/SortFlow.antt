-- a sort's events and its row at hand
use Rattle.std.specs.Prelude.{◌≡◌, ℕ, suc, ◌+◌, ◌*◌, ◌<◌, ◌≤◌, ◌^◌, Bool, true, false, if◌then◌else◌, List, [], ◌∷◌, ◌++◌, length, map, take, drop, slice_get, Option, None, Some, All, IfSome}
use Rattle.std.specs.List.{range_with_len}
use Rattle.pm_values.specs.Row.{Row, AllBelow, pick}
use Rattle.pm_plan.specs.declared.plan.SortKey.{SortKey}
use Rattle.pm_plan.specs.Tree.{Sort}
use Rattle.pm_plan.specs.Sorting.{sorted}
use Rattle.pm_work.specs.Changes.{settled_by_row}
use Rattle.pm_blocks.specs.SortState.{SortState}
use Rattle.pm_blocks.specs.SortedNumbers.{sort_columns}
use Rattle.pm_flows.specs.declared.part.Part.{Part}
use Rattle.pm_flows.specs.declared.taken.Taken.{Taken}
use Rattle.pm_flows.specs.Held.{Held, kept_row, Keep}
use Rattle.pm_flows.specs.Coming.{Coming, taken_by, rows_by, rows_in}
use Rattle.pm_flows.specs.Flow.{Flow}
use Rattle.pm_flows.specs.Plan.{taken_in}
use Rattle.pm_operators.specs.declared.sort.Sort.TheInside.{Inside}

-- so many parts from a position on
abbrev pub run : ℕ → ℕ → List Part → List Part
run share at parts = take share (drop at parts)

-- row k of those that were read, whose parts stand behind those of one more row
abbrev pub row_read : Held → ℕ → List Part → ℕ → Row
row_read held share parts k = kept_row held (run share (suc k * share) parts)

-- the first so many rows that were read
abbrev pub rows_read : Held → ℕ → List Part → ℕ → List Row
rows_read held share parts count = map (row_read held share parts) (range_with_len 0 count)

-- node n reads these events in behind these rows of its child, and then hands out all rows, sorted
abbrev pub sorting : ℕ → List SortKey → List Row → List Coming → List Coming
sorting n keys read below = taken_in n (settled_by_row (Sort keys)) read below ++ rows_by n false (sorted keys (read ++ rows_in (n + 1) below))

-- while it reads, the child's events and then all rows; and then the rows that it has not handed out
abbrev pub sort_rest : ℕ → SortState → Held → ℕ → List Part → List Coming → List Coming
sort_rest n core held share parts below =
    if core.closed then rows_by n false (map (row_read held share parts) core.left)
    else sorting n core.keys (rows_read held share parts (length core.taken)) below

-- the number of the sort; its child; the core; how many parts keep a row; the parts; where those of the row at hand begin; whether it reads
pub record Sorter : Type 0 where
  pub number : ℕ
  pub child : Flow
  pub core : SortState
  pub share : ℕ
  pub parts : List Part
  pub at : ℕ
  pub reading : Bool

abbrev pub sorter_of : Inside → Sorter
sorter_of a = record { number = a.number; child = a.child; core = a.core; share = a.share; parts = a.parts.items; at = a.at; reading = a.reading }

abbrev pub sort_flow : Sorter → Flow
sort_flow s =
    record {
      node = s.number;
      depth = s.child.depth + 1;
      rest = sort_rest s.number s.core s.child.held s.share s.parts s.child.rest;
      free_end = false;
      hand = kept_row s.child.held (run s.share s.at s.parts);
      held = s.child.held;
    }

-- the parts of the row at hand are those of one of so many rows
pub record IsAt (share at count : ℕ) : Type 0 where
  pub row : ℕ
  pub within : row ≤ count
  pub is : at ≡ row * share

-- each row's parts keep it, the first ones' too
abbrev pub AllKept : Held → ℕ → List Part → ℕ → Type 0
AllKept held share parts count = (k : ℕ) → k ≤ count → Keep held (run share (k * share) parts)

-- what was read of so many rows, and what is still handed out of them
pub record IsSorted (held : Held) (share : ℕ) (parts : List Part) (core : SortState) (at : ℕ) : Type 0 where
  pub count : ℕ
  pub whole : length parts ≡ suc count * share
  pub kept : AllKept held share parts count
  pub at_row : IsAt share at count
  pub taken : core.closed ≡ false → core.taken ≡ map (pick (sort_columns core.keys)) (rows_read held share parts count)
  pub left : All (λ k. k < count) core.left

-- what is true of every sort
pub record IsSort (s : Sorter) : Type 0 where
  pub child : s.child.node ≡ s.number + 1
  pub numbered : s.number + 1 < 2 ^ 32
  pub hand : length s.child.hand < 2 ^ 32
  pub laid : length s.child.held.places ≡ length s.child.hand
  pub keys : AllBelow (sort_columns s.core.keys) (length s.child.hand)
  pub share : s.share ≡ s.child.held.parts
  pub some : 1 ≤ s.share
  pub closed : s.reading ≡ false → s.core.closed ≡ true
  pub unclosed : s.reading ≡ true → s.core.closed ≡ false
  pub rows : IsSorted s.child.held s.share s.parts s.core s.at

-- the first of the numbers that are left was taken, or there was none
pub record HandsNext (n share : ℕ) (old new : SortState) (event : Taken) (after : ℕ) : Type 0 where
  pub number : ℕ
  pub left : old.left ≡ number ∷ new.left
  pub taken : event ≡ taken_by n
  pub at : after ≡ suc number * share
  pub core : new ≡ record old { left = new.left }

pub record HandsNoMore (old new : SortState) (before after : ℕ) : Type 0 where
  pub done : old.left ≡ []
  pub core : new ≡ old
  pub at : after ≡ before

abbrev pub HandsSorted : ℕ → ℕ → SortState → SortState → ℕ → ℕ → Option Taken → Type 0
HandsSorted n share old new before after None = HandsNoMore old new before after
HandsSorted n share old new before after (Some taken) = HandsNext n share old new taken after

-- the place of the next row's parts is a number of 64 bits
abbrev pub CanHand : ℕ → List ℕ → Type 0
CanHand share left = IfSome (slice_get left 0) (λ k. (suc k < 2 ^ 64) × (suc k * share < 2 ^ 64))
