use Rattle.std.proofs.Common.{◌∙◌, ◌<◌, ◌++◌, ◌∷◌, [], ap, append_assoc, arith, length, sym, take}
use Rattle.csv.specs.Records.{fields_of}
use Rattle.pm_tables.proofs.Cuts.{field_there}
use Rattle.pm_tables.proofs.Headers.{field_is_get, take_get}
use Rattle.pm_tables.proofs.reading.push_fields.Goals as goal
use Rattle.pm_tables.proofs.reading.push_fields.Goals.{in-Some+in_ok-push_field, in_default}

pub loop-position-preserved : goal.loop-position-preserved
loop-position-preserved c =
    let fields = fields_of c.args.added.now in
    let lt : c.loop-position.position < length fields = omega arith in
    let there = field_there fields c.loop-position.position lt in
    elim c.match-get.branch [
      | in-Some+in_ok-push_field w ↦
          let here = rw (field_is_get fields c.loop-position.position) at (sym w.in-Some.ensures.value) in
          rw (w.fields-is, w.in_ok-push_field.ensures.fields, take_get fields c.loop-position.position w.in-Some.field.now here)
          (ap (λ z. z ++ w.in-Some.field.now ∷ []) c.loop-position.invariant ∙ append_assoc (fields_of c.args.fields.now) (take c.loop-position.position fields) (w.in-Some.field.now ∷ []))
      | in_default w ↦ absurd (let none = w.in_default.ensures.value in cc)
    ]
