use Rattle.std.proofs.Common.{Ok, Err, refl}
use Rattle.pm_requests.specs.declared.refusal.Refusal.TheVariants as refusal
use Rattle.pm_requests.specs.declared.refusal.Role.TheVariants as role
use Rattle.pm_requests.specs.Texts.{SelectText}
use Rattle.pm_requests.specs.Files.{Refusing, too_long, text_limit}
use Rattle.pm_requests.proofs.Stages.{told_read}
use Rattle.pm_requests.proofs.files.load_select.Goals as goal

pub returns-in-Ok-clause-read : goal.returns-in-Ok-clause-read
returns-in-Ok-clause-read g c = (c.in-Some.bytes.items, rw c.as_slice.ensures.value at c.in-Ok.ensures)

pub returns-in-Ok-clause-called : goal.returns-in-Ok-clause-called
returns-in-Ok-clause-called g c =
    told_read (g.F.Files.held c.args.files.now) role.Query c.args.name.now text_limit (refusal.Query too_long) (λ bytes. Refusing refusal.Query (SelectText bytes)) c.in-Some.bytes.items (Ok c.in-Ok.select) (rw c.in-Some.is at c.in_ok-bytes.ensures.read)
    (Ok c.in-Ok.select, rw c.as_slice.ensures.value at c.in-Ok.ensures, refl)

pub returns-in-Err-Fault-clause-called : goal.returns-in-Err-Fault-clause-called
returns-in-Err-Fault-clause-called g c =
    told_read (g.F.Files.held c.args.files.now) role.Query c.args.name.now text_limit (refusal.Query too_long) (λ bytes. Refusing refusal.Query (SelectText bytes)) c.in-Some.bytes.items (Err (refusal.Query _)) (rw c.in-Some.is at c.in_ok-bytes.ensures.read)
    (Err _, rw (← c.in-Err-Fault.fault-is, c.as_slice.ensures.value) at (rw c.in-Err-Fault.field-0-is at c.in-Err-Fault.ensures), refl)
