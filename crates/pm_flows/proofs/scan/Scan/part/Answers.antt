use Rattle.std.proofs.Common.{◌≡◌, length, ap, sym, ◌∙◌}
use Rattle.std.proofs.lemmas.List.{length-map}
use Rattle.pm_flows.specs.ScanFlow.{nulls, last_of}
use Rattle.pm_flows.proofs.Kept.{nulls_keep, row_keeps}
use Rattle.pm_flows.proofs.Scans.{last-width, last_of-before, nulls-cell}
use Rattle.pm_flows.proofs.scan.Scan.part.Goals as goal

pub returns-then-self-eq0 : goal.returns-then-self-eq0
returns-then-self-eq0 c =
    let t = c.self.inside.table.now in
    rw (← c.self.view_is, c.if-self-eq0.true) (nulls_keep (length t.decl.columns) (nulls t) (length-map t.decl.columns (λ column. _)) (λ k l. nulls-cell t k))

pub returns : goal.returns
returns c =
    let a = c.self.inside in
    let row : last_of a.next a.table.now ≡ c.at.result.now =
    last_of-before a.next a.table.now c.rows.result.now c.at.result.now c.if-self-eq0.false c.rows.ensures.value c.at.ensures in
    rw (← c.self.view_is, row)
    (row_keeps (length a.table.now.decl.columns) c.at.result (ap length (sym row) ∙ last-width a.next a.table.now c.rows.ensures.declared c.self.invariant.within))
