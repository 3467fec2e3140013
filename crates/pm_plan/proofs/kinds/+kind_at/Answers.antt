use Rattle.std.proofs.Common.{inl, inr, refl, ap, sym, ◌∙◌, arith, Some, slice_get}
use Rattle.pm_values.specs.declared.value.Kind.TheVariants as kind
use Rattle.pm_plan.specs.Preorder.{Subplan, Rooted}
use Rattle.pm_plan.specs.Kinds.{kinds_of}
use Rattle.pm_plan.specs.Standing.{subplan_kinds, origin_kind}
use Rattle.pm_plan.proofs.Inversion.{OverOne, begins, none_stands}
use Rattle.pm_plan.proofs.Lists.{got_or, slice_get-append_left, slice_get-append_right}
use Rattle.pm_plan.proofs.Subplans.{ReadsTable, scan_reads, seek_reads, Sides, join_sides, index_sides}
use Rattle.pm_plan.proofs.kinds.+kind_at.Goals as goal

pub returns-in_err-root : goal.returns-in_err-root
returns-in_err-root t c = λ p h. absurd (none_stands _ p _ c.in_err-root.ensures.node h)

pub returns-in-Scan : goal.returns-in-Scan
returns-in-Scan t c =
    λ p h. let k : ReadsTable p c.in-Scan.table = elim c.in-Scan.is [
      | inl w ↦ scan_reads p _ _ (begins _ p _ _ _ w.1 c.in_ok-root.ensures.node h)
      | inr w ↦ seek_reads p _ (begins _ p _ _ _ w.4 c.in_ok-root.ensures.node h)
    ] in
    c.table_kind.ensures ∙ ap (λ kinds. slice_get kinds c.args.column) (sym (k.kinds c.args.decls.now))

pub returns-in_err-own-in-Over : goal.returns-in_err-own-in-Over
returns-in_err-own-in-Over t c =
    λ p h. let decls = c.args.decls.now in
    let i : OverOne _ _ _ _ _ = begins _ p _ _ _ c.in-Over.is c.in_ok-root.ensures.node h in
    let kinds = kinds_of decls i.tree in
    let own = ap (λ (q : Subplan). slice_get (subplan_kinds decls q) c.args.column) i.is in
    c.from_residual-in_err-own-in-Over.ensures ∙ c.in_err-own-in-Over.ensures kinds ∙ sym own

pub returns-in-Child : goal.returns-in-Child
returns-in-Child t c =
    λ p h. let decls = c.args.decls.now in
    let i : OverOne _ _ _ _ _ = begins _ p _ _ _ c.in-Over.is c.in_ok-root.ensures.node h in
    let kinds = kinds_of decls i.tree in
    let own = ap (λ (q : Subplan). slice_get (subplan_kinds decls q) c.args.column) i.is in
    c.kind_at.ensures (Rooted i.tree) i.stands ∙ sym (ap (origin_kind kinds) c.in-Child.is) ∙ c.in_ok-own-in-Over.ensures kinds ∙ sym own

pub returns-in-Chosen : goal.returns-in-Chosen
returns-in-Chosen t c =
    λ p h. let decls = c.args.decls.now in
    let i : OverOne _ _ _ _ _ = begins _ p _ _ _ c.in-Over.is c.in_ok-root.ensures.node h in
    let kinds = kinds_of decls i.tree in
    let own = ap (λ (q : Subplan). slice_get (subplan_kinds decls q) c.args.column) i.is in
    let r = got_or kinds c.in-Chosen.own kind.Int _ _ c.unwrap_or.ensures (c.kind_at-in-Chosen.ensures (Rooted i.tree) i.stands) in
    ap (λ k. Some k) r ∙ sym (ap (origin_kind kinds) c.in-Chosen.is) ∙ c.in_ok-own-in-Over.ensures kinds ∙ sym own

pub returns-in-Count : goal.returns-in-Count
returns-in-Count t c =
    λ p h. let decls = c.args.decls.now in
    let i : OverOne _ _ _ _ _ = begins _ p _ _ _ c.in-Over.is c.in_ok-root.ensures.node h in
    let kinds = kinds_of decls i.tree in
    let own = ap (λ (q : Subplan). slice_get (subplan_kinds decls q) c.args.column) i.is in
    sym (ap (origin_kind kinds) c.in-Count.is) ∙ c.in_ok-own-in-Over.ensures kinds ∙ sym own

pub returns-then-column-left : goal.returns-then-column-left
returns-then-column-left t c =
    λ p h. let s : Sides c.args.nodes.now p c.args.n _ = elim c.in-Join.is [
      | inl w ↦ join_sides _ p _ _ _ _ _ _ refl (begins _ p _ _ _ w.4 c.in_ok-root.ensures.node h)
      | inr w ↦ index_sides _ p _ _ _ _ _ refl (begins _ p _ _ _ w.2 c.in_ok-root.ensures.node h)
    ] in
    let e = ap (λ kinds. slice_get kinds c.args.column) (s.kinds c.args.decls.now) in
    let a = c.width_at-left.ensures.value (Rooted s.left_tree) s.left_stands in
    let b = slice_get-append_left (kinds_of c.args.decls.now s.left_tree) (subplan_kinds c.args.decls.now s.right_part) c.args.column (omega (arith, c.if-column-left.true)) in
    c.kind_at-then-column-left.ensures (Rooted s.left_tree) s.left_stands ∙ sym b ∙ sym e

pub returns-else-column-left : goal.returns-else-column-left
returns-else-column-left t c =
    λ p h. let s : Sides c.args.nodes.now p c.args.n c.number_after.result = elim c.in-Join.is [
      | inl w ↦ join_sides _ p _ _ _ _ _ _ c.number_after.ensures (begins _ p _ _ _ w.4 c.in_ok-root.ensures.node h)
      | inr w ↦ index_sides _ p _ _ _ _ _ c.number_after.ensures (begins _ p _ _ _ w.2 c.in_ok-root.ensures.node h)
    ] in
    let e = ap (λ kinds. slice_get kinds c.args.column) (s.kinds c.args.decls.now) in
    let a = c.width_at-left.ensures.value (Rooted s.left_tree) s.left_stands in
    let b = slice_get-append_right (kinds_of c.args.decls.now s.left_tree) (subplan_kinds c.args.decls.now s.right_part) c.args.column _ (omega (arith, c.if-column-left.false, c.ranges.column.fits)) in
    c.kind_at-in-Join.ensures s.right_part s.right_stands ∙ sym b ∙ sym e
