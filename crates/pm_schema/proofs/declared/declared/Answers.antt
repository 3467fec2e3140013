use Rattle.std.proofs.Common.{◌∙◌}
use Rattle.std.proofs.lemmas.List.Elements.{All-head, All-tail}
use Rattle.pm_schema.specs.Meaning.{IsSound, declared_table}
use Rattle.pm_schema.proofs.Maps.{map_step, map_ends}
use Rattle.pm_schema.proofs.declared.declared.Goals as goal

pub declared_table-requires : goal.declared_table-requires
declared_table-requires c = All-head (IsSound c.args.tables.now) c.in-Some.table.now c.in-Some.after.now (rw c.in-Some.ensures at c.tables.invariant.sound)

pub tables-preserved : goal.tables-preserved
tables-preserved c = record {
  walked = rw (c.in_ok-push.ensures.ok, c.in_ok-decl.ensures) (map_step (declared_table c.args.tables.now) c.tables.decls _ _ c.tables.rest.now c.in-Some.ensures ∙ c.tables.invariant.walked);
  sound = All-tail (IsSound c.args.tables.now) c.in-Some.table.now c.in-Some.after.now (rw c.in-Some.ensures at c.tables.invariant.sound);
}

pub returns : goal.returns
returns c = map_ends (declared_table c.args.tables.now) c.tables.decls c.tables.rest.now c.in_default.ensures ∙ c.tables.invariant.walked
