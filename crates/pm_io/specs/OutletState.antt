-- a writer with the bytes gathered for it, as contracts see it
use Rattle.std.specs.Prelude.{ℕ, List, Option}
use Rattle.pm_io.specs.declared.line_start.LineStart.{LineStart}

pub record OutletState : Type 0 where
  -- the bytes that were taken, those that the writer has and then those gathered, where the writer tells its own
  pub taken : Option (List ℕ)
  -- how many bytes lie in the buffer
  pub waiting : ℕ
  -- what is known of the line that was begun
  pub line : LineStart
