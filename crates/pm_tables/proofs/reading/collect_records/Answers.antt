use Rattle.std.proofs.Common.{◌≤◌, ◌++◌, ◌∷◌, [], length, refl, ap, arith, inr, ◌∙◌}
use Rattle.std.proofs.lemmas.List.{length-append}
use Rattle.csv.specs.Records.{Rising, fields_of, last_end}
use Rattle.csv.proofs.RecordFacts.{last-append}
use Rattle.pm_tables.specs.HasRead.{HasRead}
use Rattle.pm_tables.specs.Records.{cut}
use Rattle.pm_tables.proofs.AllRecords.{all_start}
use Rattle.pm_tables.proofs.Cuts.{cut-length, cut_push, rising_push}
use Rattle.pm_tables.proofs.reading.collect_records.Goals as goal

pub loop-init : goal.loop-init
unfolding cut Rising last_end
loop-init c = let e = c.new-ends.ensures.items in let f = c.new-fields.ensures.fields in record {
  rising = rw (e, f) (omega arith);
  whole = rw (e, f) refl;
  count = rw e refl;
  text = c.requires;
  read = λ text header h. rw e h;
}

pub returns-then-not-branch-clause-listed : goal.returns-then-not-branch-clause-listed
returns-then-not-branch-clause-listed c = λ text header h.
    let list = cut 0 c.loop.ends.items (fields_of c.loop.fields) in
    let go = rw c.if-not-branch.true at (c.in_ok-next.ensures.found text (header ∷ list) (c.loop.invariant.read text header h)) in
    let count = cut-length 0 c.loop.ends.items (fields_of c.loop.fields) in
    let few : length list ≤ c.args.most = omega (arith, count, c.loop.invariant.count, c.loop-test.true) in
    rw c.new.ensures (go, few)

pub loop-preserved : goal.loop-preserved
loop-preserved c =
    let ends = c.loop.ends.items in
    let fields = fields_of c.loop.fields in
    let taken = fields_of c.next.new.current in
    let size = c.len.ensures ∙ ap length c.in_ok-push_fields.ensures in
    let items = rw size at c.in_ok-push.ensures.items in
    record {
      rising = rw (items, c.in_ok-push_fields.ensures) (rising_push ends fields taken c.loop.invariant.rising);
      whole = rw (items, c.in_ok-push_fields.ensures) (last-append 0 ends (length (fields ++ taken)));
      count = rw items (omega (arith, length-append ends (length (fields ++ taken) ∷ []), c.loop.invariant.count));
      text = c.in_ok-next.ensures.text c.if-not-branch.false;
      read = λ text header h.
          let go : HasRead text (header ∷ (cut 0 ends fields ++ taken ∷ [])) c.next.new.reader
          = rw c.if-not-branch.false at (c.in_ok-next.ensures.found text (header ∷ cut 0 ends fields) (c.loop.invariant.read text header h)) in
          rw (items, c.in_ok-push_fields.ensures, cut_push ends fields taken c.loop.invariant.rising c.loop.invariant.whole) go;
    }

pub returns-then-branch-clause-refused : goal.returns-then-branch-clause-refused
returns-then-branch-clause-refused c = λ text header h.
    let list = cut 0 c.loop.ends.items (fields_of c.loop.fields) in
    let taken = fields_of c.next-2.new.current in
    let go : HasRead text (header ∷ (list ++ taken ∷ [])) c.next-2.new.reader
    = rw c.if-branch.true at (c.in_ok-next-2.ensures.found text (header ∷ list) (c.loop.invariant.read text header h)) in
    let all = all_start text (header ∷ (list ++ taken ∷ [])) c.next-2.new.reader.state go.rest go.reached in
    let count = cut-length 0 c.loop.ends.items (fields_of c.loop.fields) in
    let one = length-append list (taken ∷ []) in
    let two = length-append (list ++ taken ∷ []) all.0 in
    inr (refl, (list ++ taken ∷ []) ++ all.0, all.1, omega (arith, count, c.loop.invariant.count, one, two, c.loop-test.false))

pub returns-clause-listed : goal.returns-clause-listed
returns-clause-listed c = λ text header h.
    let list = cut 0 c.loop.ends.items (fields_of c.loop.fields) in
    let go = rw c.if-branch.false at (c.in_ok-next-2.ensures.found text (header ∷ list) (c.loop.invariant.read text header h)) in
    let count = cut-length 0 c.loop.ends.items (fields_of c.loop.fields) in
    let few : length list ≤ c.args.most = omega (arith, count, c.loop.invariant.count, c.loop.auto.counter-end) in
    rw c.new-2.ensures (go, few)
