use Rattle.pm_bounds.proofs.Caps.{hi_capped_is, hi_of_seek_capped_is, first_capped_is, first_seek_is, first_sum_is}
use Rattle.pm_bounds.proofs.laws.capped_is_exact.Goals as goal

pub returns : goal.returns
returns c = record {
  bounds = λ top tree n G one a. hi_capped_is top one G tree n a;
  seeks = λ top left seek n G one a b. hi_of_seek_capped_is top one G left seek n a b;
  first = λ top sizes tree one few. first_capped_is top one sizes few tree;
  first_of_seek = λ top sizes left seek one few. first_seek_is top one sizes few left seek;
  first_sum = λ top sizes tree one few. first_sum_is top one sizes few tree;
}
