use Rattle.std.proofs.Common.{◌≡◌, ◌≢◌, ◌∙◌, take, Some, arith, length, slice_get, sym}
use Rattle.csv.specs.Records.{fields_of}
use Rattle.pm_tables.specs.Reading.{names_of}
use Rattle.pm_tables.proofs.Headers.{all_same, names_length, other_length, same_more}
use Rattle.pm_tables.proofs.reading.first_difference.Goals as goal

pub loop-position-preserved : goal.loop-position-preserved
loop-position-preserved c =
    let here : slice_get (fields_of c.args.header.now) c.loop-position.position ≡ Some c.index-columns-position.result.name =
    rw (← c.as_str.ensures) (c.has_field.ensures.0 c.if-not-has_field.false) in
    same_more (fields_of c.args.header.now) c.args.columns.now c.loop-position.position c.index-columns-position.result c.loop-position.invariant
    c.loop-position-test.true c.index-columns-position.is here

pub returns-else-len-columns : goal.returns-else-len-columns
returns-else-len-columns c =
    let header = fields_of c.args.header.now in
    let names = names_of c.args.columns.now in
    let count = names_length c.args.columns.now in
    let all : c.loop-position.position ≡ length c.args.columns.now = omega arith in
    let same : take (length c.args.columns.now) header ≡ take (length c.args.columns.now) names = rw (← all) c.loop-position.invariant in
    let other : length header ≢ length c.args.columns.now = λ e. c.if-len-columns.false (c.len.ensures ∙ e) in
    (c.requires, (same, other_length header names (length c.args.columns.now) (sym count) same other))

pub returns-then-len-columns : goal.returns-then-len-columns
returns-then-len-columns c =
    let header = fields_of c.args.header.now in
    let names = names_of c.args.columns.now in
    let count = names_length c.args.columns.now in
    let all : c.loop-position.position ≡ length c.args.columns.now = omega arith in
    all_same header names c.loop-position.position (all ∙ sym count) (all ∙ sym c.if-len-columns.true ∙ c.len.ensures) c.loop-position.invariant
