use Rattle.std.proofs.Common.{◌≡◌, [], ◌∷◌, map, take}
use Rattle.pm_values.specs.declared.value.Value.TheVariants.{Int}
use Rattle.pm_operator_tests.proofs.exec.rows.Given as goal

abbrev pub invariant-loop-n : goal.invariant-loop-n
invariant-loop-n l = l.rows ≡ map (λ n. Int n ∷ []) (take l.n-index l.numbers)
