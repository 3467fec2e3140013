use Rattle.std.proofs.Common.{◌≡◌, ◌++◌, map, take, codes, string_bytes}
use Rattle.pm_canonical.specs.Canon.{joined}
use Rattle.pm_canonical.proofs.printing.put_list.Given as goal

abbrev pub invariant-entries : goal.invariant-entries
invariant-entries g l = string_bytes l.out ≡ string_bytes l.initial.out ++ joined (codes ", ") (map g.T.Canon.canon (take l.i l.list))
