use Rattle.pm_schema.proofs.Narrow.{reads_short}
use Rattle.pm_schema.proofs.Called.{never_too_deep, whole_calls, judged_few, judged_answers, expected_answers, too_many_answers, only}
use Rattle.pm_schema.proofs.schema.read_schema.Goals as goal

pub unreachable-requires : goal.unreachable-requires
unreachable-requires c = never_too_deep c.args.tokens.now _ (rw c.in-Err-TooDeep.field-0-is at c.in-Err-TooDeep.ensures)

pub judged-requires : goal.judged-requires
judged-requires c = rw c.as_slice.ensures (reads_short c.args.tokens.now c.in-Ok.tables (rw c.in-Ok.ensures at (whole_calls c.args.tokens.now))).each

pub returns-in-Ok-clause-answers : goal.returns-in-Ok-clause-answers
returns-in-Ok-clause-answers c = judged_answers c.args.tokens.now c.in-Ok.tables c.judged.result c.in-Ok.ensures (rw c.as_slice.ensures at c.judged.ensures)

pub returns-in-Ok-clause-only : goal.returns-in-Ok-clause-only
returns-in-Ok-clause-only c = only _ _ (returns-in-Ok-clause-answers c)

pub returns-in-Err-Expected-clause-answers : goal.returns-in-Err-Expected-clause-answers
returns-in-Err-Expected-clause-answers c = expected_answers c.args.tokens.now _ (rw (← c.in-Err-Expected.at-is) at (rw c.in-Err-Expected.field-0-is at c.in-Err-Expected.ensures))

pub returns-in-Err-Expected-clause-only : goal.returns-in-Err-Expected-clause-only
returns-in-Err-Expected-clause-only c = only _ _ (returns-in-Err-Expected-clause-answers c)

pub returns-in-Err-TooMany-clause-answers : goal.returns-in-Err-TooMany-clause-answers
returns-in-Err-TooMany-clause-answers c = too_many_answers c.args.tokens.now _ (rw (← c.in-Err-TooMany.at-is) at (rw c.in-Err-TooMany.field-0-is at c.in-Err-TooMany.ensures))

pub returns-in-Err-TooMany-clause-only : goal.returns-in-Err-TooMany-clause-only
returns-in-Err-TooMany-clause-only c = only _ _ (returns-in-Err-TooMany-clause-answers c)

pub returns-in-Ok-clause-few : goal.returns-in-Ok-clause-few
returns-in-Ok-clause-few c = judged_few c.in-Ok.tables c.judged.result (reads_short c.args.tokens.now c.in-Ok.tables (rw c.in-Ok.ensures at (whole_calls c.args.tokens.now))).count (rw c.as_slice.ensures at c.judged.ensures)
