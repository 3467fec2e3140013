use Rattle.std.proofs.Common.{◌≡◌, drop}
use Rattle.pm_io.specs.MemState.{held_of}
use Rattle.pm_io.proofs.mem_files.place_of.Given as goal

abbrev pub invariant-loop-place : goal.invariant-loop-place
invariant-loop-place l = held_of (drop l.place l.files) l.name ≡ held_of l.files l.name
