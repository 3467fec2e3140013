use Rattle.std.proofs.Common.{◌↔◌, ◌<◌, ◌^◌, List, false, sym, ◌∙◌, subst, arith}
use Rattle.std.proofs.lemmas.Bool.{false≢true}
use Rattle.std.proofs.lemmas.List.{length-map}
use Rattle.std.specs.Prelude.{IsTrue}
use Rattle.pm_values.specs.Table.{Declaration}
use Rattle.pm_plan.specs.Tree.{Seek}
use Rattle.pm_plan.specs.Preorder.{Sought}
use Rattle.pm_plan.specs.Kinds.{columns_of, table_width}
use Rattle.pm_plan.specs.Valid.{IsValidSeek}
use Rattle.pm_plan.specs.Fitting.{IsPaired}
use Rattle.pm_plan.proofs.Inversion.{begins, found_is, sought_same}
use Rattle.pm_plan.proofs.Rules.{fails}
use Rattle.pm_plan.proofs.valid.is_valid_seek.Goals as goal

abbrev IsNarrow : List Declaration → Seek → Type 0
IsNarrow decls s = table_width decls s.table < 2 ^ 32

pub returns-then-not-is_table : goal.returns-then-not-is_table
returns-then-not-is_table c =
    λ l s own h e. let same = sought_same (begins c.args.nodes.now (Sought s) c.args.seek _ _ c.in-Seek.is c.in-Some.ensures.node (own, e)) in
    subst (λ v. IsTrue false ↔ IsValidSeek c.args.decls.now l v) (sym same) (fails (λ is. false≢true (sym c.if-not-is_table.true ∙ c.is_table.ensures.1 is.named)))

pub returns-then-width_at-ge-TOO_MANY : goal.returns-then-width_at-ge-TOO_MANY
returns-then-width_at-ge-TOO_MANY c =
    λ l s own h e. let decls = c.args.decls.now in
    let wide = c.width_at.ensures.value (Sought s) (own, e) in
    let own_wide = length-map (columns_of decls s.table) (λ column. column.kind) in
    fails (λ is. let narrow = is.narrow in let much = c.if-width_at-ge-TOO_MANY.true in omega arith)

pub returns-else-width_at-ge-TOO_MANY : goal.returns-else-width_at-ge-TOO_MANY
returns-else-width_at-ge-TOO_MANY c =
    λ l s own h e. let decls = c.args.decls.now in
    let same = sought_same (begins c.args.nodes.now (Sought s) c.args.seek _ _ c.in-Seek.is c.in-Some.ensures.node (own, e)) in
    let f : Seek = record { table = c.in-Seek.table; label = c.in-Seek.label.now; on = record { pairs = c.in-Seek.pairs.now; unique = c.in-Seek.unique } } in
    let wide = c.width_at.ensures.value (Sought s) (own, e) in
    let own_wide = length-map (columns_of decls s.table) (λ column. column.kind) in
    let few = c.if-width_at-ge-TOO_MANY.false in
    let paired = subst (λ pairs. IsTrue c.is_paired.result ↔ IsPaired decls false l (Sought f) pairs c.in-Seek.unique) c.as_slice.ensures
    (c.is_paired.ensures l (Sought f) h (c.in-Seek.left, found_is c.in-Some.ensures.node c.in-Seek.is)) in
    let narrow : IsNarrow decls s = omega arith in
    subst (λ v. IsTrue c.is_paired.result ↔ IsValidSeek decls l v) (sym same) (
      λ yes. let p = paired.0 yes in record {
        named = c.is_table.ensures.0 c.if-not-is_table.false;
        pairs = p.fit;
        flags = p.flags;
        narrow = subst (IsNarrow decls) same narrow;
      },
      λ is. paired.1 (record { fit = is.pairs; flags = is.flags }),
    )
