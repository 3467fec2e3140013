use Rattle.std.proofs.Common.{◌≡◌, ◌++◌, take, string_bytes}
use Rattle.std.specs.List.{flat_map}
use Rattle.pm_canonical.specs.Canon.{canon_further}
use Rattle.pm_canonical.proofs.printing.put_more_sources.Given as goal

abbrev pub invariant-loop-source : goal.invariant-loop-source
invariant-loop-source l = string_bytes l.out ≡ string_bytes l.initial.out ++ flat_map (λ s. canon_further s.on s) (take l.source-index l.sources)
