use Rattle.pm_work.proofs.Flags.{flags}
use Rattle.pm_bounds.proofs.CapsHold.{each_capped, whole_bounded}
use Rattle.pm_bounds.proofs.First.{all_within_first}
use Rattle.pm_bounds.proofs.laws.capped_bounds_are_exact.Goals as goal

pub returns : goal.returns
returns c = record {
  each = λ db tree K G sound bounded o g. each_capped db tree bounded G (all_within_first db K G tree 1 (flags db tree sound) o g);
  whole = λ db tree K G sound bounded o g. whole_bounded db tree bounded G (all_within_first db K G tree 1 (flags db tree sound) o g);
}
