use Rattle.std.proofs.Common.{◌++◌, ◌∷◌, [], refl, arith, inl, inr, rules}
use Rattle.std.proofs.lemmas.List.{length-append}
use Rattle.csv.specs.Records.{fields_of}
use Rattle.pm_tables.specs.HasRead.{HasRead}
use Rattle.pm_tables.specs.Loading.{FaultsBehind}
use Rattle.pm_tables.proofs.AllRecords.{all_start}
use Rattle.pm_tables.proofs.Rows.{rows_suc}
use Rattle.pm_tables.proofs.Streamed.{fault_behind, late_behind}
use Rattle.pm_tables.proofs.streaming.type_all.Goals as goal

pub returns-then-not-branch-clause-typed : goal.returns-then-not-branch-clause-typed
returns-then-not-branch-clause-typed c = λ text header h.
    let r = c.loop-at.invariant.read text header h in
    let all = rw c.if-not-branch.true at (c.in_ok-next.ensures.found text (header ∷ r.0) r.1) in
    (r.0, all, omega (arith, r.2, c.loop-at-test.true), r.3)

pub returns-in_err-check_record_limit-in-Err-clause-refused : goal.returns-in_err-check_record_limit-in-Err-clause-refused
returns-in_err-check_record_limit-in-Err-clause-refused c = λ text header h.
    let r = c.loop-at.invariant.read text header h in
    let taken = fields_of c.next.new.current in
    let go : HasRead text (header ∷ (r.0 ++ taken ∷ [])) c.next.new.reader
    = rw c.if-not-branch.false at (c.in_ok-next.ensures.found text (header ∷ r.0) r.1) in
    let late = c.in_err-check_record_limit-in-Err.ensures.refused text (header ∷ (r.0 ++ taken ∷ [])) go in
    let fault : FaultsBehind c.args.columns.now text header c.args.most c.in_err-check_record_limit-in-Err.field-0.0
    = late_behind c.args.columns.now text header r.0 taken c.args.most _ _ (omega (arith, r.2, c.loop-at-test.true)) late in
    search (rules, fault)

pub returns-in-Err-clause-refused : goal.returns-in-Err-clause-refused
returns-in-Err-clause-refused c = λ text header h.
    let r = c.loop-at.invariant.read text header h in
    let taken = fields_of c.next.new.current in
    let go : HasRead text (header ∷ (r.0 ++ taken ∷ [])) c.next.new.reader
    = rw c.if-not-branch.false at (c.in_ok-next.ensures.found text (header ∷ r.0) r.1) in
    let rest = c.in_ok-check_record_limit-in-Err.ensures.ended text (header ∷ (r.0 ++ taken ∷ [])) go in
    fault_behind c.args.columns.now text header r.0 taken c.args.most _ c.loop-at.rows c.in-Err.fault (omega (arith, r.2, c.loop-at-test.true)) r.3
    (rw r.2 c.in-Err.ensures) rest

pub loop-at-preserved : goal.loop-at-preserved
loop-at-preserved c = record {
  text = c.in_ok-next.ensures.text c.if-not-branch.false;
  read = λ text header h.
      let r = c.loop-at.invariant.read text header h in
      let taken = fields_of c.next.new.current in
      let go : HasRead text (header ∷ (r.0 ++ taken ∷ [])) c.next.new.reader
      = rw c.if-not-branch.false at (c.in_ok-next.ensures.found text (header ∷ r.0) r.1) in (
        r.0 ++ taken ∷ [],
        go,
        omega (arith, r.2, length-append r.0 (taken ∷ [])),
        rw c.in_ok-push-in-Ok.ensures.ok (rows_suc c.args.columns.now r.0 c.loop-at.rows taken c.in-Ok.row r.3 c.in-Ok.ensures),
      );
}

pub returns-then-branch-clause-refused : goal.returns-then-branch-clause-refused
returns-then-branch-clause-refused c = λ text header h.
    let r = c.loop-at.invariant.read text header h in
    let taken = fields_of c.next-2.new.current in
    let go : HasRead text (header ∷ (r.0 ++ taken ∷ [])) c.next-2.new.reader
    = rw c.if-branch.true at (c.in_ok-next-2.ensures.found text (header ∷ r.0) r.1) in
    let all = all_start text (header ∷ (r.0 ++ taken ∷ [])) c.next-2.new.reader.state go.rest go.reached in
    inl (inr (
      refl,
      (r.0 ++ taken ∷ []) ++ all.0,
      all.1,
      omega (arith, r.2, length-append r.0 (taken ∷ []), length-append (r.0 ++ taken ∷ []) all.0, c.loop-at-test.false),
    ))

pub returns-clause-typed : goal.returns-clause-typed
returns-clause-typed c = λ text header h.
    let r = c.loop-at.invariant.read text header h in
    let all = rw c.if-branch.false at (c.in_ok-next-2.ensures.found text (header ∷ r.0) r.1) in
    (r.0, all, omega (arith, r.2, c.loop-at.auto.at-end), r.3)
