use Rattle.std.proofs.Common.{◌≡◌, ◌++◌, take}
use Rattle.pm_flows.proofs.part.push_all.Given as goal

abbrev pub invariant-loop-part : goal.invariant-loop-part
invariant-loop-part l = l.parts.items ≡ l.fn.parts.items ++ take l.part-index l.more
