use Rattle.std.proofs.Common.{subst}
use Rattle.std.specs.Prelude.{All}
use Rattle.pm_keys.specs.Numbers.{HasWidth}
use Rattle.pm_keys.proofs.Cuts.{cut-wide}
use Rattle.pm_keys.proofs.own.OwnKeysKeys.width.Goals as goal

pub returns-clause-wide : goal.returns-clause-wide
returns-clause-wide c = subst (λ k. All (HasWidth k.width) k.keys) c.self.view_is (cut-wide c.self.inside.width c.self.inside.count c.self.inside.values.items c.self.invariant)
