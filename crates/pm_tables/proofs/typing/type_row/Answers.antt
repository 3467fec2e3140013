use Rattle.std.proofs.Common.{◌≡◌, length, refl, arith, slice_range, sym, ◌∙◌}
use Rattle.csv.specs.Records.{fields_of}
use Rattle.pm_tables.specs.Field.{HasNoValue, HasValue}
use Rattle.pm_tables.proofs.Cuts.{range_at, range_length}
use Rattle.pm_tables.proofs.Rows.{lacks_here, writes_all, writes_more}
use Rattle.pm_tables.proofs.typing.type_row.Goals as goal

pub returns-then-end-start : goal.returns-then-end-start
returns-then-end-start c =
    let size = range_length (fields_of c.args.fields.now) c.args.start c.args.end c.requires.within in
    (refl, λ e. c.if-end-start.true (sym size ∙ e))

pub returns-in-None : goal.returns-in-None
returns-in-None c =
    let all = fields_of c.args.fields.now in
    let fields = slice_range all c.args.start c.args.end in
    let size = range_length all c.args.start c.args.end c.requires.within in
    let width : length fields ≡ length c.args.columns.now = omega (arith, size) in
    let here = range_at all c.args.start c.args.end c.loop-position.position (omega arith) in
    let none : HasNoValue c.index-columns-position.result c.field_at.result.now = rw c.in-None.is at c.in_ok-value.ensures in (
      refl,
      width,
      c.loop-position.position,
      refl,
      lacks_here c.args.columns.now fields c.loop-position.values.items c.loop-position.position c.index-columns-position.result
          c.loop-position.invariant c.loop-position-test.true (omega (arith, width)) c.index-columns-position.is (rw (here, ← c.field_at.ensures) none),
    )

pub loop-position-preserved : goal.loop-position-preserved
loop-position-preserved c =
    let all = fields_of c.args.fields.now in
    let fields = slice_range all c.args.start c.args.end in
    let size = range_length all c.args.start c.args.end c.requires.within in
    let width : length fields ≡ length c.args.columns.now = omega (arith, size) in
    let here = range_at all c.args.start c.args.end c.loop-position.position (omega arith) in
    let has : HasValue c.index-columns-position.result c.field_at.result.now c.in-Some.value = rw c.in-Some.is at c.in_ok-value.ensures in
    rw c.in_ok-push-in-Some.ensures.items (writes_more c.args.columns.now fields c.loop-position.values.items c.loop-position.position c.index-columns-position.result c.in-Some.value
    c.loop-position.invariant c.loop-position-test.true (omega (arith, width)) c.index-columns-position.is (rw (here, ← c.field_at.ensures) has))

pub returns : goal.returns
returns c =
    let all = fields_of c.args.fields.now in
    let fields = slice_range all c.args.start c.args.end in
    let size = range_length all c.args.start c.args.end c.requires.within in
    rw c.from_vec.ensures (writes_all c.args.columns.now fields c.loop-position.values.items c.loop-position.position (omega arith) (omega (arith, size)) c.loop-position.invariant)
