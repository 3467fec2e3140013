use Rattle.std.proofs.Common.{◌∙◌, Some, ap, sym}
use Rattle.std.proofs.lemmas.Slice.Eq.{slice_eq-Decides}
use Rattle.std.proofs.lemmas.Bool.Decides.{Decides-eqb}
use Rattle.csv.specs.Records.{fields_of}
use Rattle.pm_tables.proofs.Headers.{field_is_get, same_some}
use Rattle.pm_tables.proofs.reading.has_field.Goals as goal

pub returns-in-Some : goal.returns-in-Some
returns-in-Some c =
    let here = rw (field_is_get (fields_of c.args.header.now) c.args.position) at c.in-Some.ensures.value in
    let same = slice_eq-Decides Decides-eqb _ _ _ c.eq.ensures in
    ((λ yes. sym here ∙ ap Some (same.0 yes)), (λ is. same.1 (same_some (here ∙ is))))

pub returns-in-None : goal.returns-in-None
returns-in-None c = let here = rw (field_is_get (fields_of c.args.header.now) c.args.position) at c.in-None.ensures.value in ((λ h. cc h), λ h. cc (h, here))
