use Rattle.std.proofs.Common.{◌∙◌}
use Rattle.std.proofs.lemmas.List.Elements.{All-head, All-tail}
use Rattle.pm_schema.specs.Meaning.{IsNamedReference, declared_reference}
use Rattle.pm_schema.proofs.Maps.{map_step, map_ends}
use Rattle.pm_schema.proofs.declared.declared_references.Goals as goal

pub declared_reference-requires : goal.declared_reference-requires
declared_reference-requires c = All-head (IsNamedReference c.args.tables.now c.args.columns.now) c.in-Some.reference.now c.in-Some.after.now (rw c.in-Some.ensures at c.references.invariant.named)

pub references-preserved : goal.references-preserved
references-preserved c = record {
  walked = rw (c.in_ok-push.ensures.ok, c.in_ok-decl.ensures) (map_step (declared_reference c.args.tables.now c.args.columns.now) c.references.decls _ _ c.references.rest.now c.in-Some.ensures ∙ c.references.invariant.walked);
  named = All-tail (IsNamedReference c.args.tables.now c.args.columns.now) c.in-Some.reference.now c.in-Some.after.now (rw c.in-Some.ensures at c.references.invariant.named);
}

pub returns : goal.returns
returns c = map_ends (declared_reference c.args.tables.now c.args.columns.now) c.references.decls c.references.rest.now c.in_default.ensures ∙ c.references.invariant.walked
