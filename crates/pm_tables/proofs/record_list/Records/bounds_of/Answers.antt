use Rattle.std.proofs.Common.{length, sym}
use Rattle.csv.specs.Records.{fields_of}
use Rattle.csv.proofs.RecordFacts.{field-bounds}
use Rattle.pm_tables.proofs.Cuts.{cut-at, cut-length}
use Rattle.pm_tables.proofs.record_list.Records.bounds_of.Goals as goal

pub bounds-start-requires : goal.bounds-start-requires
bounds-start-requires c = rw (c.as_slice.ensures.value) (rw (← c.self.view_is, cut-length 0 c.self.inside.ends.items (fields_of c.self.inside.fields)) at c.requires)

pub returns-clause-order : goal.returns-clause-order
returns-clause-order c =
    let lt = rw (← c.self.view_is, cut-length 0 c.self.inside.ends.items (fields_of c.self.inside.fields)) at c.requires in
    let b = rw (c.as_slice.ensures.value) at c.bounds-start.ensures in
    rw (b.start, b.end) (field-bounds 0 c.self.inside.ends.items (length (fields_of c.self.inside.fields)) c.args.at c.self.invariant.0 lt).0

pub returns-clause-within : goal.returns-clause-within
returns-clause-within c =
    let lt = rw (← c.self.view_is, cut-length 0 c.self.inside.ends.items (fields_of c.self.inside.fields)) at c.requires in
    let b = rw (c.as_slice.ensures.value) at c.bounds-start.ensures in
    rw (b.end) (field-bounds 0 c.self.inside.ends.items (length (fields_of c.self.inside.fields)) c.args.at c.self.invariant.0 lt).1

pub returns-clause-here : goal.returns-clause-here
returns-clause-here c =
    let lt = rw (← c.self.view_is, cut-length 0 c.self.inside.ends.items (fields_of c.self.inside.fields)) at c.requires in
    let b = rw (c.as_slice.ensures.value) at c.bounds-start.ensures in
    rw (← c.self.view_is, b.start, b.end) (sym (cut-at 0 c.self.inside.ends.items (fields_of c.self.inside.fields) c.args.at lt))
