use Rattle.std.proofs.Common.{inl, inr, ◌+◌, length, sym, ap, ◌∙◌, subst, arith, length-append}
use Rattle.std.proofs.lemmas.List.{length-map}
use Rattle.pm_plan.specs.Preorder.{Rooted}
use Rattle.pm_plan.specs.Joins.{right_columns}
use Rattle.pm_plan.specs.Kinds.{kinds_of, table_kinds, columns_of, width}
use Rattle.pm_plan.specs.Unique.{left_part}
use Rattle.pm_plan.specs.Standing.{side_columns, subplan_width, subplan_unique, AgreeBelow}
use Rattle.pm_plan.proofs.Agreement.{agree_left, agree_over}
use Rattle.pm_plan.proofs.Inversion.{OverOne, OverTwo, OverSeek, begins, none_stands, right_at, seek_at}
use Rattle.pm_plan.proofs.Subplans.{ReadsTable, scan_reads, seek_reads}
use Rattle.pm_plan.proofs.Tests.{and_true, and_false}
use Rattle.pm_plan.proofs.uniqueness.+is_unique_at.Goals as goal

pub returns-in_default : goal.returns-in_default
returns-in_default t c = λ p columns h same. absurd (none_stands _ p _ c.in_default.ensures.node h)

pub returns-in-Scan : goal.returns-in-Scan
returns-in-Scan t c =
    λ p columns h same. let table = c.in-Scan.table in
    let k : ReadsTable p table = elim c.in-Scan.is [
      | inl w ↦ scan_reads p _ _ (begins _ p _ _ _ w.1 c.in-Some.ensures.node h)
      | inr w ↦ seek_reads p _ (begins _ p _ _ _ w.4 c.in-Some.ensures.node h)
    ] in
    let wide = ap length (k.kinds c.args.decls.now) ∙ length-map (columns_of c.args.decls.now table) (λ column. column.kind) in
    c.is_key_among.ensures columns (subst (λ w. AgreeBelow w columns (side_columns c.args.side c.args.pairs.now)) wide same) ∙ sym (k.unique c.args.decls.now columns)

pub returns-then-keeps_columns : goal.returns-then-keeps_columns
returns-then-keeps_columns t c =
    λ p columns h same. let decls = c.args.decls.now in
    let i : OverOne _ _ _ _ _ = begins _ p _ _ _ c.in-Over.is c.in-Some.ensures.node h in
    let near = subst (λ q. AgreeBelow (subplan_width decls q) columns (side_columns c.args.side c.args.pairs.now)) i.is same in
    let below = agree_over _ (kinds_of decls i.tree) columns _ (sym c.keeps_columns.ensures ∙ c.if-keeps_columns.true) near in
    and_true c.keeps_columns.ensures c.if-keeps_columns.true (c.is_unique_at.ensures (Rooted i.tree) columns i.stands below) (ap (λ q. subplan_unique decls q columns) i.is)

pub returns-else-keeps_columns : goal.returns-else-keeps_columns
returns-else-keeps_columns t c =
    λ p columns h same. let i : OverOne _ _ _ _ _ = begins _ p _ _ _ c.in-Over.is c.in-Some.ensures.node h in
    and_false _ c.keeps_columns.ensures c.if-keeps_columns.false (ap (λ q. subplan_unique c.args.decls.now q columns) i.is)

pub returns-then-is_unique_at : goal.returns-then-is_unique_at
returns-then-is_unique_at t c =
    λ p columns h same. let decls = c.args.decls.now in
    let i : OverTwo _ _ _ _ _ _ _ = begins _ p _ _ _ c.in-Join.is c.in-Some.ensures.node h in
    let own = c.in-Join.own.now in
    let right = c.is_unique_at-in-Join.ensures (Rooted i.right_tree) (right_columns own) (right_at _ _ _ _ _ _ _ _ i c.number_after.ensures)
    (ap (λ s. left_part (width decls i.right_tree) (right_columns s)) (sym c.as_slice.ensures)) in
    let wide = ap (subplan_width decls) i.is in
    let more = length-append (kinds_of decls i.left_tree) (kinds_of decls i.right_tree) in
    let left = c.is_unique_at-then-is_unique_at.ensures (Rooted i.left_tree) (left_part (width decls i.left_tree) columns) i.left_stands (agree_left _ _ columns _ (omega arith) same) in
    and_true right c.if-is_unique_at.true left (ap (λ q. subplan_unique decls q columns) i.is)

pub returns-else-is_unique_at : goal.returns-else-is_unique_at
returns-else-is_unique_at t c =
    λ p columns h same. let decls = c.args.decls.now in
    let i : OverTwo _ _ _ _ _ _ _ = begins _ p _ _ _ c.in-Join.is c.in-Some.ensures.node h in
    let own = c.in-Join.own.now in
    let right = c.is_unique_at-in-Join.ensures (Rooted i.right_tree) (right_columns own) (right_at _ _ _ _ _ _ _ _ i c.number_after.ensures)
    (ap (λ s. left_part (width decls i.right_tree) (right_columns s)) (sym c.as_slice.ensures)) in
    and_false _ right c.if-is_unique_at.false (ap (λ q. subplan_unique decls q columns) i.is)

pub returns-then-is_seek_unique : goal.returns-then-is_seek_unique
returns-then-is_seek_unique t c =
    λ p columns h same. let decls = c.args.decls.now in
    let i : OverSeek _ _ _ _ _ _ = begins _ p _ _ _ c.in-Index.is c.in-Some.ensures.node h in
    let right = c.is_seek_unique.ensures i.sought (c.args.n + 1) (seek_at _ _ _ _ _ _ _ i c.number_after-in-Index.ensures) in
    let wide = ap (subplan_width decls) i.is in
    let more = length-append (kinds_of decls i.left_tree) (table_kinds decls i.sought.table) in
    let left = c.is_unique_at-then-is_seek_unique.ensures (Rooted i.left_tree) (left_part (width decls i.left_tree) columns) i.left_stands (agree_left _ _ columns _ (omega arith) same) in
    and_true right c.if-is_seek_unique.true left (ap (λ q. subplan_unique decls q columns) i.is)

pub returns-else-is_seek_unique : goal.returns-else-is_seek_unique
returns-else-is_seek_unique t c =
    λ p columns h same. let decls = c.args.decls.now in
    let i : OverSeek _ _ _ _ _ _ = begins _ p _ _ _ c.in-Index.is c.in-Some.ensures.node h in
    let right = c.is_seek_unique.ensures i.sought (c.args.n + 1) (seek_at _ _ _ _ _ _ _ i c.number_after-in-Index.ensures) in
    and_false _ right c.if-is_seek_unique.false (ap (λ q. subplan_unique decls q columns) i.is)
