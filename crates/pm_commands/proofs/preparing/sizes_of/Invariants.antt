use Rattle.std.proofs.Common.{◌≡◌, take}
use Rattle.pm_work.specs.Fits.{sizes_of}
use Rattle.pm_commands.proofs.preparing.sizes_of.Given as goal

abbrev pub invariant-loop-table : goal.invariant-loop-table
invariant-loop-table l = l.sizes.items ≡ sizes_of (take l.table-index l.table-items)
