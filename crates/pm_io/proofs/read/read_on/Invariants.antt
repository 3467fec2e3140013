use Rattle.std.proofs.Common.{◌≡◌, ◌≤◌, ◌+◌, ◌-◌, length}
use Rattle.pm_io.specs.Files.{Takes}
use Rattle.pm_io.proofs.read.read_on.Given as goal

abbrev pub invariant-loop-chunk : goal.invariant-loop-chunk
invariant-loop-chunk g l = record {
  held : g.F.Files.held l.files ≡ g.F.Files.held l.initial.files;
  last : g.F.Files.last l.files ≡ g.F.Files.last l.initial.files;
  stand : g.F.Files.stand l.files ≡ g.F.Files.stand l.initial.files;
  faults : g.F.Files.faults l.initial.files ≤ g.F.Files.faults l.files;
  absences : g.F.Files.absences l.initial.files ≤ g.F.Files.absences l.files;
  taken : g.F.Files.taken l.files ≡ length l.bytes.items;
  within : length l.bytes.items ≤ l.limit + 1;
  bytes : Takes (g.F.Files.rest l.initial.files) (g.F.Files.rest l.files) l.bytes.items;
}

abbrev pub decreases-loop-chunk : goal.decreases-loop-chunk
decreases-loop-chunk g l = l.limit + 1 - length l.bytes.items
