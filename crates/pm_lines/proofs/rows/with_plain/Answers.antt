use Rattle.std.proofs.Common.{append_assoc, ap, ◌∙◌, ◌++◌, arith}
use Rattle.csv.specs.Writing.{default_writer, fields_text}
use Rattle.pm_lines.proofs.Plain.{with_next, with_end}
use Rattle.pm_lines.proofs.rows.with_plain.Goals as goal

pub loop-field-init : goal.loop-field-init
loop-field-init c =
    ap (λ t. t ++ fields_text default_writer c.args.rest.now) (c.in_ok-extend_from_slice.ensures.items ∙ ap (λ t. c.args.before.items ++ t) c.bytes.ensures.value)
    ∙ append_assoc c.args.before.items c.args.first.now (fields_text default_writer c.args.rest.now)

pub loop-field-preserved : goal.loop-field-preserved
loop-field-preserved c =
    with_next c.loop-field.line.items c.push.new.self.items c.extend_from_slice-in-loop-field.new.self.items
    c.field-item.result c.args.rest.now c.loop-field.field-index
    c.in_ok-push.ensures.items (c.in_ok-extend_from_slice-2.ensures.items ∙ ap (λ t. c.push.new.self.items ++ t) c.bytes-in-loop-field.ensures.value)
    (omega arith) c.field-item.is c.requires.rest_bare
    ∙ c.loop-field.invariant

pub returns : goal.returns
returns c =
    with_end c.args.before.items c.loop-field.line.items c.push-2.new.self.items c.args.first.now c.args.rest.now
    c.loop-field.field-index c.in_ok-push-2.ensures.items (omega arith) c.loop-field.invariant c.requires
