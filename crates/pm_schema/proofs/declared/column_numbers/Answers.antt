use Rattle.std.proofs.Common.{◌≡◌, ◌∙◌, true, List}
use Rattle.std.proofs.lemmas.List.Elements.{All-head, All-tail}
use Rattle.pm_grammar.specs.declared.names.PlacedName.{PlacedName}
use Rattle.pm_schema.specs.declared.tree.ColumnText.{ColumnText}
use Rattle.pm_schema.specs.Rules.{has, name_of_column}
use Rattle.pm_schema.specs.Meaning.{number_in}
use Rattle.pm_schema.proofs.Maps.{map_step, map_ends}
use Rattle.pm_schema.proofs.declared.column_numbers.Goals as goal

abbrev IsColumnName : List ColumnText → PlacedName → Type 0
IsColumnName columns name = has name_of_column columns name.text ≡ true

pub column_number-number-requires-clause-named : goal.column_number-number-requires-clause-named
column_number-number-requires-clause-named c = rw c.bytes.ensures.value (All-head (IsColumnName c.args.columns.now) c.in-Some.name.now c.in-Some.after.now (rw c.in-Some.ensures at c.names.invariant.named.each))

pub names-preserved : goal.names-preserved
names-preserved c = record {
  walked = rw (c.in_ok-push.ensures.ok, c.column_number-number.ensures, c.bytes.ensures.value) (map_step (number_in c.args.columns.now) c.names.numbers _ _ c.names.rest.now c.in-Some.ensures ∙ c.names.invariant.walked);
  named = record { few = c.names.invariant.named.few; each = All-tail (IsColumnName c.args.columns.now) c.in-Some.name.now c.in-Some.after.now (rw c.in-Some.ensures at c.names.invariant.named.each) };
}

pub returns : goal.returns
returns c = map_ends (number_in c.args.columns.now) c.names.numbers c.names.rest.now c.in_default.ensures ∙ c.names.invariant.walked
