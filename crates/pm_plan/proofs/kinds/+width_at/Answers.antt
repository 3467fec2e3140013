use Rattle.std.proofs.Common.{length, min, inl, inr, ap, sym, ◌∙◌, arith, length-append}
use Rattle.std.proofs.lemmas.List.{length-map}
use Rattle.pm_plan.specs.Preorder.{Subplan, Rooted}
use Rattle.pm_plan.specs.Kinds.{kinds_of, columns_of}
use Rattle.pm_plan.specs.Standing.{subplan_kinds, subplan_width}
use Rattle.pm_plan.proofs.Inversion.{OverOne, begins, none_stands}
use Rattle.pm_plan.proofs.Subplans.{ReadsTable, scan_reads, seek_reads, Sides, join_sides, index_sides}
use Rattle.pm_plan.proofs.kinds.+width_at.Goals as goal

pub returns-in_default-clause-value : goal.returns-in_default-clause-value
returns-in_default-clause-value t c = λ p h. absurd (none_stands _ p _ c.in_default.ensures.node h)

pub returns-in-Scan-clause-value : goal.returns-in-Scan-clause-value
returns-in-Scan-clause-value t c =
    λ p h. let table = c.in-Scan.table in
    let k : ReadsTable p table = elim c.in-Scan.is [
      | inl w ↦ scan_reads p table _ (begins _ p _ _ _ w.1 c.in-Some.ensures.node h)
      | inr w ↦ seek_reads p _ (begins _ p _ _ _ w.4 c.in-Some.ensures.node h)
    ] in
    let e = ap length (k.kinds c.args.decls.now) in
    let l = length-map (columns_of c.args.decls.now table) (λ column. column.kind) in omega arith

pub returns-in-Over-clause-value : goal.returns-in-Over-clause-value
returns-in-Over-clause-value t c =
    λ p h. let decls = c.args.decls.now in
    let i : OverOne _ _ _ _ _ = begins _ p _ _ _ c.in-Over.is c.in-Some.ensures.node h in
    c.width_over.ensures.value (kinds_of decls i.tree) (c.width_at.ensures.value (Rooted i.tree) i.stands)
    ∙ ap (λ (q : Subplan). min (subplan_width decls q) 4294967296) (sym i.is)

pub returns-in-Join-clause-value : goal.returns-in-Join-clause-value
returns-in-Join-clause-value t c =
    λ p h. let s : Sides c.args.nodes.now p c.args.n c.number_after.result = elim c.in-Join.is [
      | inl w ↦ join_sides _ p _ _ _ _ _ _ c.number_after.ensures (begins _ p _ _ _ w.4 c.in-Some.ensures.node h)
      | inr w ↦ index_sides _ p _ _ _ _ _ c.number_after.ensures (begins _ p _ _ _ w.2 c.in-Some.ensures.node h)
    ] in
    let e = ap length (s.kinds c.args.decls.now) in
    let j = length-append (kinds_of c.args.decls.now s.left_tree) (subplan_kinds c.args.decls.now s.right_part) in
    let a = c.width_at-left.ensures.value (Rooted s.left_tree) s.left_stands in
    let b = c.width_at-in-Join.ensures.value s.right_part s.right_stands in omega arith
