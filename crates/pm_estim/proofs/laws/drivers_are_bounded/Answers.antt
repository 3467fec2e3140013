use Rattle.pm_work.proofs.Flags.{flags}
use Rattle.pm_bounds.proofs.Enclosed.{all_enclosed}
use Rattle.pm_estim.proofs.Drivers.{drivers_handed, drivers_within, drivers_some}
use Rattle.pm_estim.proofs.laws.drivers_are_bounded.Goals as goal

pub returns : goal.returns
returns c = record {
  handed = λ db tree K G sound o g. drivers_handed db tree G (all_enclosed db K G tree 1 (flags db tree sound) o g);
  some = λ db tree K G sound o g some. drivers_some db K G tree (flags db tree sound) o g some;
  within = λ tree G. drivers_within G tree;
}
