use Rattle.std.proofs.Common.{◌≡◌, ℕ, List, take}
use Rattle.pm_io.specs.LineStart.{start_of, line_after}
use Rattle.pm_io.proofs.line_start.LineStart.after_part.Given as goal

abbrev pub invariant-loop-byte : goal.invariant-loop-byte
invariant-loop-byte l = (line : List ℕ) → l.fn.self ≡ start_of line → l.line ≡ start_of (line_after line (take l.byte-index l.part))
