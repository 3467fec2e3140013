use Rattle.std.proofs.Common.{◌≡◌, ℕ, ◌+◌, ◌-◌, ◌<◌, ◌≤◌, List, length, take}
use Rattle.std.specs.Io.KnownBytes.{Keeps}
use Rattle.pm_io.specs.LineStart.{start_of, line_after, EndsProgress}
use Rattle.pm_io.proofs.outlet.Outlet.write.Given as goal

abbrev pub invariant-loop-n : goal.invariant-loop-n
invariant-loop-n g l = record {
  within : l.at ≤ length l.front;
  bytes : Keeps l.fn.self.taken l.self.taken;
  room : l.self.waiting + length l.front ≤ 65536;
  some : 0 < length l.front;
  same_line : l.self.line ≡ l.fn.self.line;
  line : (line : List ℕ) → l.fn.self.line ≡ start_of line → l.line ≡ start_of (line_after line (take l.at l.front));
  unended : (line : List ℕ) (m : ℕ) → l.fn.self.line ≡ start_of line → m ≤ l.at → EndsProgress line (take m l.front) → ⊥;
}

-- how many bytes were not looked at
abbrev pub decreases-loop-n : goal.decreases-loop-n
decreases-loop-n g l = length l.front - l.at
