use Rattle.std.proofs.Common.{◌≡◌, take}
use Rattle.std.specs.Prelude.{fold}
use Rattle.std.specs.Hash.FoldHasher.{initial}
use Rattle.pm_keys.specs.Hash.{after_value}
use Rattle.pm_keys.proofs.hash.hash_of.Given as goal

abbrev pub invariant-loop-at : goal.invariant-loop-at
invariant-loop-at g l = l.hasher ≡ fold after_value initial (take l.at (g.C.Cells.cells l.key))
