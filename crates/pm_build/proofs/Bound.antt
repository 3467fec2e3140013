-- the query of the test is bound
use Rattle.std.proofs.Common.{◌≡◌, ◌≢◌, List, [], ◌∷◌, refl, arith}
use Rattle.pm_values.proofs.Folds.{fold_compare}
use Rattle.pm_query.specs.Bound.{IsBound}
use Rattle.pm_build.specs.Worked.{two_keyless}

not_empty : {A : Type 0} (x : A) (xs : List A) → x ∷ xs ≢ []
not_empty x xs e = cc

pub two_bound : IsBound two_keyless
two_bound =
    record {
      few = omega arith;
      sources = (refl, (record { paired = simp fold_compare (not_empty _ _); known = simp fold_compare; taken = refl }, tt));
      tables = refl;
      places = refl;
      named_once = refl;
      conjuncts = simp fold_compare;
      keys = refl;
      keys_once = refl;
      items = refl;
      items_once = refl;
      plain = refl;
      having = refl;
      some = not_empty _ _;
      outputs = refl;
      heads = refl;
      orders = refl;
      selected = refl;
    }
