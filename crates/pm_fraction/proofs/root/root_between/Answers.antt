use Rattle.std.proofs.Common.{◌+◌, arith}
use Rattle.pm_fraction.proofs.Roots.{next_square_within, root-only}
use Rattle.pm_fraction.proofs.root.root_between.Goals as goal

pub returns-clause-value : goal.returns-clause-value
returns-clause-value c =
    root-only _ _ record {
      square_within = c.loop-low.invariant.0;
      next_square_beyond = omega (arith, next_square_within c.loop-low.high (c.loop-low.low + 1) (omega arith), c.loop-low.invariant.1);
    }
