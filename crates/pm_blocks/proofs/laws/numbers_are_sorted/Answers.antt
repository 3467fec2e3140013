use Rattle.pm_blocks.proofs.Sorts.{IsPermutation-sorted_numbers, rows-sorted_numbers, sorted_numbers-alone}
use Rattle.pm_blocks.proofs.laws.numbers_are_sorted.Goals as goal

pub returns : goal.returns
returns c = record { permutation = IsPermutation-sorted_numbers; rows = rows-sorted_numbers; alone = sorted_numbers-alone }
