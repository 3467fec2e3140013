use Rattle.pm_work.proofs.Flags.{flags}
use Rattle.pm_bounds.proofs.Enclosed.{all_enclosed}
use Rattle.pm_bounds.proofs.Wholes.{whole_enclosed}
use Rattle.pm_bounds.proofs.laws.bounds_enclose.Goals as goal

pub returns : goal.returns
returns c = record {
  each = λ db tree K G sound o g. all_enclosed db K G tree 1 (flags db tree sound) o g;
  whole = λ db tree K G sound o g. whole_enclosed db tree G (all_enclosed db K G tree 1 (flags db tree sound) o g);
}
