-- the events between two progress lines
use Rattle.std.specs.Prelude.{◌≡◌, ◌≤◌, ◌<◌, ℕ, false, Option}
use Rattle.pm_run.specs.Text.{is_due}

-- from this event on, up to below another, none has a progress line, of so many in all
abbrev pub IsQuiet : Option ℕ → ℕ → ℕ → ℕ → Type 0
IsQuiet every whole from until = (t : ℕ) → from ≤ t → t < until → is_due every whole t ≡ false
