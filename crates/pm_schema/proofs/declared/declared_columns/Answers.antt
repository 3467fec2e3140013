use Rattle.std.proofs.Common.{◌∙◌}
use Rattle.pm_schema.specs.Meaning.{declared_column}
use Rattle.pm_schema.proofs.Maps.{map_step, map_ends}
use Rattle.pm_schema.proofs.declared.declared_columns.Goals as goal

pub columns-preserved : goal.columns-preserved
columns-preserved c = rw (c.in_ok-push.ensures.ok, c.in_ok-decl.ensures) (map_step declared_column c.columns.decls _ _ c.columns.rest.now c.in-Some.ensures ∙ c.columns.invariant)

pub returns : goal.returns
returns c = map_ends declared_column c.columns.decls c.columns.rest.now c.in_default.ensures ∙ c.columns.invariant
