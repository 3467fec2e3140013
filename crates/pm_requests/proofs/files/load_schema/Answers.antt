use Rattle.std.proofs.Common.{Ok, Err, refl}
use Rattle.pm_requests.specs.declared.refusal.Refusal.TheVariants as refusal
use Rattle.pm_requests.specs.declared.refusal.Role.TheVariants as role
use Rattle.pm_requests.specs.Texts.{SchemaText}
use Rattle.pm_requests.specs.Files.{Refusing, too_long, text_limit}
use Rattle.pm_requests.proofs.Stages.{told_read}
use Rattle.pm_requests.proofs.files.load_schema.Goals as goal

pub returns-in-Ok-clause-declared : goal.returns-in-Ok-clause-declared
returns-in-Ok-clause-declared g c = (c.in-Some.bytes.items, rw c.as_slice.ensures.value at c.in-Ok.ensures.called)

pub returns-in-Ok-clause-called : goal.returns-in-Ok-clause-called
returns-in-Ok-clause-called g c =
    told_read (g.F.Files.held c.args.files.now) role.Schema c.args.name.now text_limit (refusal.Schema too_long) (λ bytes. Refusing refusal.Schema (SchemaText bytes)) c.in-Some.bytes.items (Ok c.in-Ok.schema) (rw c.in-Some.is at c.in_ok-bytes.ensures.read)
    (Ok c.in-Ok.schema, rw c.as_slice.ensures.value at c.in-Ok.ensures.called, refl)

pub returns-in-Err-Fault-clause-called : goal.returns-in-Err-Fault-clause-called
returns-in-Err-Fault-clause-called g c =
    told_read (g.F.Files.held c.args.files.now) role.Schema c.args.name.now text_limit (refusal.Schema too_long) (λ bytes. Refusing refusal.Schema (SchemaText bytes)) c.in-Some.bytes.items (Err (refusal.Schema _)) (rw c.in-Some.is at c.in_ok-bytes.ensures.read)
    (Err _, rw (← c.in-Err-Fault.fault-is, c.as_slice.ensures.value) at (rw c.in-Err-Fault.field-0-is at c.in-Err-Fault.ensures.called), refl)
