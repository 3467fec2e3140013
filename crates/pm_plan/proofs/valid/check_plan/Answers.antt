use Rattle.std.proofs.Common.{◌≡◌, ◌↔◌, List, count_by, length, take, ap, sym, ◌∙◌, subst, arith}
use Rattle.std.specs.Prelude.{IsTrue}
use Rattle.std.proofs.lemmas.List.{take_all}
use Rattle.std.proofs.lemmas.Bool.{false≢true}
use Rattle.pm_plan.specs.declared.plan.Node.{Node}
use Rattle.pm_plan.specs.Preorder.{Rooted, IsTreeAt, tree_of, IsNumbered}
use Rattle.pm_plan.specs.Kinds.{kinds_of, width}
use Rattle.pm_plan.specs.Fitting.{reads_table}
use Rattle.pm_plan.proofs.Preorders.{IsTreeAt-tree_of}
use Rattle.pm_plan.proofs.Rules.{fails, count_tables, valid_of, width_small}
use Rattle.pm_plan.proofs.valid.check_plan.Goals as goal

-- the root heads the nodes, as the code reads them
root : (nodes read : List Node) → read ≡ nodes → IsNumbered nodes → IsTreeAt read (tree_of nodes) 1
root nodes read e numbered = subst (λ s. IsTreeAt s (tree_of nodes) 1) (sym e) (IsTreeAt-tree_of nodes numbered)

pub returns-then-tables_in-gt-MOST_TABLES : goal.returns-then-tables_in-gt-MOST_TABLES
returns-then-tables_in-gt-MOST_TABLES c =
    fails (λ is. let tables = count_tables c.args.plan.now.nodes is.numbered in
    let found = c.tables_in.ensures ∙ ap (λ s. count_by reads_table s) c.as_slice-nodes.ensures in
    let few = is.few in omega arith)

pub returns-then-not-are_valid : goal.returns-then-not-are_valid
returns-then-not-are_valid c =
    fails (λ is. let nodes = c.args.plan.now.nodes in
    let h = root nodes _ c.as_slice-nodes.ensures is.numbered in
    false≢true (sym c.if-not-are_valid.true ∙ (c.are_valid.ensures (tree_of nodes) h).1 is.operators))

pub returns-then-len-wide : goal.returns-then-len-wide
returns-then-len-wide c =
    fails (λ is. let nodes = c.args.plan.now.nodes in
    let h = root nodes _ c.as_slice-nodes.ensures is.numbered in
    let wide = c.width_at-wide.ensures.value (Rooted (tree_of nodes)) h in
    let small = width_small c.args.decls.now (tree_of nodes) is.operators in
    let heads = is.heads in
    let same : c.len.result ≡ c.width_at-wide.result = omega arith in c.if-len-wide.true same)

pub kinds_agree-requires : goal.kinds_agree-requires
kinds_agree-requires c =
    let nodes = c.args.plan.now.nodes in
    let numbered : IsNumbered nodes = subst (λ s. IsNumbered s) c.as_slice-nodes.ensures (c.is_numbered.ensures.0 c.if-not-is_numbered.false) in
    let h = root nodes _ c.as_slice-nodes.ensures numbered in
    let operators = (c.are_valid.ensures (tree_of nodes) h).0 c.if-not-are_valid.false in
    let wide = c.width_at-wide.ensures.value (Rooted (tree_of nodes)) h in
    let small = width_small c.args.decls.now (tree_of nodes) operators in
    let read = ap length c.as_slice.ensures in omega arith

pub returns-then-len-wide-2 : goal.returns-then-len-wide-2
returns-then-len-wide-2 c =
    let plan = c.args.plan.now in
    let nodes = plan.nodes in
    let decls = c.args.decls.now in
    let numbered : IsNumbered nodes = subst (λ s. IsNumbered s) c.as_slice-nodes.ensures (c.is_numbered.ensures.0 c.if-not-is_numbered.false) in
    let h = root nodes _ c.as_slice-nodes.ensures numbered in
    let operators = (c.are_valid.ensures (tree_of nodes) h).0 c.if-not-are_valid.false in
    let wide = c.width_at-wide.ensures.value (Rooted (tree_of nodes)) h in
    let small = width_small decls (tree_of nodes) operators in
    let found = c.tables_in.ensures ∙ ap (λ s. count_by reads_table s) c.as_slice-nodes.ensures in
    let heads : length plan.heads ≡ width decls (tree_of nodes) = omega arith in
    let kinds : length plan.kinds ≡ width decls (tree_of nodes) = omega arith in
    let agree = subst (λ s. IsTrue c.kinds_agree.result ↔ (s ≡ take (length s) (kinds_of decls (tree_of nodes)))) c.as_slice.ensures (c.kinds_agree.ensures (tree_of nodes) h) in (
      λ yes. valid_of plan decls numbered (omega (arith, found)) operators heads kinds (agree.0 yes),
      λ is. agree.1 (is.kinds ∙ sym (take_all (length plan.kinds) (kinds_of decls (tree_of nodes)) (omega (arith, kinds)))),
    )
