use Rattle.pm_work.specs.Fits.{sizes_of}
use Rattle.pm_work.proofs.Flags.{flags}
use Rattle.pm_bounds.proofs.First.{all_within_first}
use Rattle.pm_bounds.proofs.Wholes.{whole_within_first}
use Rattle.pm_bounds.proofs.laws.bounds_within_first.Goals as goal

pub returns : goal.returns
returns c = record {
  each = λ db tree K G sound o g. all_within_first db K G tree 1 (flags db tree sound) o g;
  whole = λ db tree K G sound o g. whole_within_first (sizes_of db) tree G (all_within_first db K G tree 1 (flags db tree sound) o g);
}
