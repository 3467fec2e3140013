use Rattle.std.proofs.Common.{◌∙◌, ◌++◌, ◌∷◌, [], append-nil, append_assoc, refl, arith, inr}
use Rattle.std.proofs.lemmas.List.{length-append}
use Rattle.csv.specs.Records.{fields_of}
use Rattle.pm_tables.specs.HasRead.{HasRead}
use Rattle.pm_tables.proofs.AllRecords.{all_start}
use Rattle.pm_tables.proofs.reading.check_record_limit.Goals as goal

pub loop-init : goal.loop-init
loop-init c = record { text = c.requires; read = λ text rows h. ([], rw (append-nil rows) h, refl) }

pub returns-then-not-branch-clause-ended : goal.returns-then-not-branch-clause-ended
returns-then-not-branch-clause-ended c = λ text rows h.
    let r = c.loop.invariant.read text rows h in
    let all = rw c.if-not-branch.true at (c.in_ok-next.ensures.found text (rows ++ r.0) r.1) in
    (r.0, all, omega (arith, r.2, c.loop-test.true))

pub loop-preserved : goal.loop-preserved
loop-preserved c = record {
  text = c.in_ok-next.ensures.text c.if-not-branch.false;
  read = λ text rows h.
      let r = c.loop.invariant.read text rows h in
      let taken = fields_of c.next.new.current in
      let go : HasRead text ((rows ++ r.0) ++ taken ∷ []) c.next.new.reader
      = rw c.if-not-branch.false at (c.in_ok-next.ensures.found text (rows ++ r.0) r.1) in
      (r.0 ++ taken ∷ [], rw (← append_assoc rows r.0 (taken ∷ [])) go, omega (arith, r.2, length-append r.0 (taken ∷ [])));
}

pub returns-then-branch-clause-refused : goal.returns-then-branch-clause-refused
returns-then-branch-clause-refused c = λ text rows h.
    let r = c.loop.invariant.read text rows h in
    let taken = fields_of c.next-2.new.current in
    let go : HasRead text ((rows ++ r.0) ++ taken ∷ []) c.next-2.new.reader
    = rw c.if-branch.true at (c.in_ok-next-2.ensures.found text (rows ++ r.0) r.1) in
    let all = all_start text ((rows ++ r.0) ++ taken ∷ []) c.next-2.new.reader.state go.rest go.reached in
    let more = r.0 ++ (taken ∷ all.0) in
    inr (
      refl,
      (
        more,
        all.1 ∙ append_assoc (rows ++ r.0) (taken ∷ []) all.0 ∙ append_assoc rows r.0 (taken ∷ all.0),
        omega (arith, r.2, length-append r.0 (taken ∷ all.0), c.loop-test.false),
      ),
    )

pub returns-clause-ended : goal.returns-clause-ended
returns-clause-ended c = λ text rows h.
    let r = c.loop.invariant.read text rows h in
    let all = rw c.if-branch.false at (c.in_ok-next-2.ensures.found text (rows ++ r.0) r.1) in
    (r.0, all, omega (arith, r.2, c.loop.auto.counter-end))
