use Rattle.std.proofs.Common.{◌∙◌, sym, ap}
use Rattle.pm_plan.specs.Unique.{unique_table, unique_on}
use Rattle.pm_plan.proofs.Tests.{and_true}
use Rattle.pm_joining.specs.declared.tree.Tree.{Tree}
use Rattle.pm_joining.specs.declared.uniqueness.Side.TheVariants as side
use Rattle.pm_joining.specs.Sides.{side_columns}
use Rattle.pm_joining.specs.Tables.{table_decls}
use Rattle.pm_joining.specs.Trees.{tree_of}
use Rattle.pm_joining.proofs.Shapes.{join_is, index_is}
use Rattle.pm_joining.proofs.Unique.{unique_on_left}
use Rattle.pm_joining.proofs.uniqueness.+is_unique.Goals as goal

pub returns-then-is_unique : goal.returns-then-is_unique
returns-then-is_unique t c =
    let decls = table_decls c.args.tables.now in
    let columns = side_columns c.args.side c.args.pairs.now in
    let j = c.in-Join in
    let right = c.is_unique-in-Join.ensures
    ∙ ap (λ (x : Tree). unique_on decls (tree_of x) (side_columns side.Right c.as_slice.result.now)) c.get-in-Join.ensures
    ∙ ap (λ ps. unique_on decls (tree_of j.right) (side_columns side.Right ps)) c.as_slice.ensures in
    let left = c.is_unique-then-is_unique.ensures
    ∙ ap (λ (x : Tree). unique_on decls (tree_of x) columns) c.get-then-is_unique.ensures
    ∙ sym (unique_on_left decls c.requires (tree_of j.left) columns) in
    and_true right c.if-is_unique.true left (ap (λ x. unique_on decls x columns) (join_is c.args.tree.now j.method j.on j.left j.right j.is))

pub returns-then-is_key_among : goal.returns-then-is_key_among
returns-then-is_key_among t c =
    let decls = table_decls c.args.tables.now in
    let columns = side_columns c.args.side c.args.pairs.now in
    let i = c.in-Index in
    let right = c.is_key_among-in-Index.ensures ∙ ap (λ ps. unique_table decls i.seek.table (side_columns side.Right ps)) c.as_slice-in-Index.ensures in
    let left = c.is_unique-then-is_key_among.ensures
    ∙ ap (λ (x : Tree). unique_on decls (tree_of x) columns) c.get-then-is_key_among.ensures
    ∙ sym (unique_on_left decls c.requires (tree_of i.left) columns) in
    and_true right c.if-is_key_among.true left (ap (λ x. unique_on decls x columns) (index_is c.args.tree.now i.left i.seek i.cond i.is))
