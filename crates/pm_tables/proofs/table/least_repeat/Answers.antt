use Rattle.std.proofs.Common.{◌≡◌, ◌+◌, ◌-◌, ℕ, arith, refl, get_or}
use Rattle.pm_tables.proofs.KeyOrders.{AreOne, least_kept, least_of_neighbours, least_taken}
use Rattle.pm_tables.proofs.table.least_repeat.Goals as goal
use Rattle.pm_tables.proofs.table.least_repeat.Goals.{then-agree, else-agree}

pub loop-next-preserved : goal.loop-next-preserved
loop-next-preserved c =
    let rows = c.args.rows.now in
    let columns = c.args.columns.now in
    let order = c.args.order.now in
    let here : c.loop-next.next - 1 + 1 ≡ c.loop-next.next = omega arith in
    elim c.if-agree.branch [
      | then-agree w ↦
          let one : AreOne columns rows order (c.loop-next.next - 1) = rw here (c.agree.ensures.0 w.if-agree.true) in
          let found : ℕ × ℕ = (get_or order (c.loop-next.next - 1) 0, get_or order c.loop-next.next 0) in
          rw w.least-is (least_taken columns rows order c.loop-next.next (c.loop-next.next - 1) c.loop-next.least found w.earlier.result here c.loop-next-test.true
          refl (rw here refl) one w.earlier.ensures.one w.earlier.ensures.no_later w.earlier.ensures.least c.loop-next.invariant)
      | else-agree w ↦
          let other : AreOne columns rows order (c.loop-next.next - 1) → ⊥ = λ one. let yes = c.agree.ensures.1 (rw here at one) in cc (yes, w.if-agree.false) in
          rw w.least-is (least_kept columns rows order c.loop-next.next (c.loop-next.next - 1) c.loop-next.least here other c.loop-next.invariant)
    ]

pub returns : goal.returns
returns c = least_of_neighbours c.args.columns.now c.args.rows.now c.args.order.now c.requires c.loop-next.next c.loop-next.least c.loop-next-test.false c.loop-next.invariant
