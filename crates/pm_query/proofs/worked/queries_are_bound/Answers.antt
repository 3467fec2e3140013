use Rattle.std.proofs.Common.{◌≡◌, ◌≢◌, ℕ, List, [], ◌∷◌, refl, arith}
use Rattle.pm_values.proofs.Folds.{fold_compare, fold_null}
use Rattle.pm_query.proofs.worked.queries_are_bound.Goals as goal

not_empty : {A : Type 0} (x : A) (xs : List A) → x ∷ xs ≢ []
not_empty x xs e = cc

pub returns-clause-grouped : goal.returns-clause-grouped
returns-clause-grouped c =
    record {
      few = omega arith;
      sources = (refl, tt);
      tables = refl;
      places = refl;
      named_once = refl;
      conjuncts = refl;
      keys = refl;
      keys_once = refl;
      items = refl;
      items_once = refl;
      plain = refl;
      having = simp fold_compare;
      some = not_empty _ _;
      outputs = refl;
      heads = refl;
      orders = refl;
      selected = refl;
    }

pub returns-clause-joined : goal.returns-clause-joined
returns-clause-joined c =
    record {
      few = omega arith;
      sources = (refl, (record { paired = simp fold_compare (not_empty _ _); known = simp fold_compare; taken = refl }, tt));
      tables = refl;
      places = refl;
      named_once = refl;
      conjuncts = simp fold_compare;
      keys = refl;
      keys_once = refl;
      items = refl;
      items_once = refl;
      plain = refl;
      having = refl;
      some = not_empty _ _;
      outputs = refl;
      heads = refl;
      orders = refl;
      selected = refl;
    }

pub returns-clause-three : goal.returns-clause-three
returns-clause-three c =
    record {
      few = omega arith;
      sources = (refl, (record { paired = simp fold_compare (not_empty _ _); known = simp fold_compare; taken = refl }, (record { paired = simp fold_compare (not_empty _ _); known = simp fold_compare; taken = refl }, tt)));
      tables = refl;
      places = refl;
      named_once = refl;
      conjuncts = simp fold_compare;
      keys = refl;
      keys_once = refl;
      items = refl;
      items_once = refl;
      plain = refl;
      having = refl;
      some = not_empty _ _;
      outputs = refl;
      heads = refl;
      orders = refl;
      selected = refl;
    }

pub returns-clause-padded : goal.returns-clause-padded
returns-clause-padded c =
    record {
      few = omega arith;
      sources = (refl, (record { paired = simp fold_compare (not_empty _ _); known = simp fold_compare; taken = simp fold_compare }, tt));
      tables = refl;
      places = refl;
      named_once = refl;
      conjuncts = simp (fold_compare, fold_null);
      keys = refl;
      keys_once = refl;
      items = refl;
      items_once = refl;
      plain = refl;
      having = refl;
      some = not_empty _ _;
      outputs = refl;
      heads = refl;
      orders = refl;
      selected = refl;
    }
