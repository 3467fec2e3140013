-- the conditions that all have to be true, and how they join the sources
use Rattle.std.specs.Prelude.{ℕ, ◌==◌, Bool, true, not, ◌&&◌, is_some, List, [], ◌∷◌, ◌++◌, map, length, take, Option, None, Some, if◌then◌else◌}
use Rattle.std.specs.List.{flat_map, list_any}
use Rattle.pm_syntax.specs.declared.tree.Source.{Source}
use Rattle.pm_syntax.specs.declared.tree.Test.{Test, fold-Test}
use Rattle.pm_syntax.specs.declared.tree.Test.TheOpen.{Test-F}
use Rattle.pm_syntax.specs.declared.tree.Test.TheOpen as layer
use Rattle.pm_values.specs.declared.condition.Cond.{Cond}
use Rattle.pm_values.specs.declared.condition.Cond.TheVariants as cond
use Rattle.pm_values.specs.Table.{Declaration}
use Rattle.pm_query.specs.declared.query.Conjunct.{Conjunct}
use Rattle.pm_query.specs.Answer.{stands_in}
use Rattle.pm_query.specs.Pairs.{may_take, takes, pair_of}
use Rattle.pm_names.specs.declared.fault.BindBad.{BindBad}
use Rattle.pm_names.specs.declared.fault.BindBad.TheVariants as bad
use Rattle.pm_names.specs.declared.terms.KnownColumn.{KnownColumn}
use Rattle.pm_names.specs.Breaches.{bad_if, each_from}
use Rattle.pm_names.specs.Sources.{known_columns, known_at}
use Rattle.pm_names.specs.Conditions.{whole_row, cond_layer}

-- a condition with its names resolved, and its members: an AND list is taken apart at all levels
pub record Split : Type 0 where
  pub whole : Cond
  pub members : List Cond

abbrev pub alone : Cond → Split
alone c = record { whole = c; members = c ∷ [] }

abbrev pub split_layer : List KnownColumn → Test-F Split → Split
split_layer known (layer.All parts) = record { whole = cond.All (map (λ part. part.whole) parts); members = flat_map (λ part. part.members) parts }
split_layer known (layer.Any parts) = alone (cond.Any (map (λ part. part.whole) parts))
split_layer known (layer.Not part) = alone (cond.Not part.whole)
split_layer known (layer.Compare how left right at) = alone (cond_layer known whole_row (layer.Compare how left right at))
split_layer known (layer.IsNull of negated) = alone (cond_layer known whole_row (layer.IsNull of negated))
split_layer known (layer.OneOf of list negated at) = alone (cond_layer known whole_row (layer.OneOf of list negated at))
split_layer known (layer.Between of low high negated at) = alone (cond_layer known whole_row (layer.Between of low high negated at))

abbrev pub split : List KnownColumn → Test → Split
split known = fold-Test Split (split_layer known)

-- the conjuncts of a condition that stands there
abbrev pub test_conjuncts : List KnownColumn → Option ℕ → Test → List Conjunct
test_conjuncts known on test = map (λ c. record { on = on; cond = c }) (split known test).members

abbrev pub conjuncts_if : List KnownColumn → Option ℕ → Option Test → List Conjunct
conjuncts_if known on None = []
conjuncts_if known on (Some test) = test_conjuncts known on test

abbrev pub on_conjuncts : List Declaration → List Source → ℕ → Source → List Conjunct
on_conjuncts schema sources i source = conjuncts_if (known_at schema sources i) (Some i) source.on

-- of the ONs and of WHERE, in the order of the text
abbrev pub conjuncts : List Declaration → List Source → Option Test → List Conjunct
conjuncts schema sources filter = each_from (on_conjuncts schema sources) 0 sources ++ conjuncts_if (known_columns schema sources) None filter

-- a join pair of the source at this position, whose columns stand from `from` up to below `to`
abbrev pub is_pair : Bool → ℕ → ℕ → ℕ → Conjunct → Bool
is_pair left position from to conjunct = may_take left position conjunct && is_some (pair_of from to conjunct.cond)

-- a condition of the source's own ON that it cannot take
abbrev pub is_stray : ℕ → ℕ → ℕ → Conjunct → Bool
is_stray position from to conjunct = stands_in (Some position) conjunct && not (takes true position from to conjunct)

-- a source after the first: it has no join pair; it stands after LEFT JOIN, and a condition of its ON is neither a pair nor on it alone
abbrev pub joined_breaches : Source → ℕ → ℕ → ℕ → List Conjunct → List BindBad
joined_breaches source position from to conjuncts =
    bad_if (not (list_any (is_pair source.left position from to) conjuncts)) (bad.NoJoinKey source.table.at)
    ++ bad_if (source.left && list_any (is_stray position from to) conjuncts) (bad.LeftOn source.table.at)

abbrev pub later_breaches : List Declaration → List Source → List Conjunct → ℕ → Source → List BindBad
later_breaches schema sources conjuncts i source =
    if i == 0 then [] else joined_breaches source i (length (known_columns schema (take i sources))) (length (known_at schema sources i)) conjuncts

abbrev pub join_breaches : List Declaration → List Source → List Conjunct → List BindBad
join_breaches schema sources conjuncts = each_from (later_breaches schema sources conjuncts) 0 sources
