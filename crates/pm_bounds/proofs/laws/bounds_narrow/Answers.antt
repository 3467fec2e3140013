use Rattle.pm_work.proofs.Flags.{flags}
use Rattle.pm_bounds.proofs.Narrow.{all_narrowed}
use Rattle.pm_bounds.proofs.Wholes.{whole_narrow}
use Rattle.pm_bounds.proofs.laws.bounds_narrow.Goals as goal

pub returns : goal.returns
returns c = record {
  each = λ db tree m K L G H next sound o p g h. all_narrowed db m K L G H next tree 1 (flags db tree sound) o p g h;
  whole = λ db tree m K L G H next sound o p g h. whole_narrow tree G H (all_narrowed db m K L G H next tree 1 (flags db tree sound) o p g h);
}
