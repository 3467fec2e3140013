use Rattle.std.proofs.Common.{nat_eq, arith, ◌∙◌, sym}
use Rattle.std.proofs.lemmas.Bool.{eqb-true}
use Rattle.pm_names.specs.Names.{column_of}
use Rattle.pm_names.proofs.Once.{once_more}
use Rattle.pm_binder.proofs.selection.key_columns.Goals as goal

pub loop-name-preserved : goal.loop-name-preserved
loop-name-preserved c =
    let more = once_more nat_eq eqb-true (column_of c.args.known.now) c.args.groups.now c.loop-name.name-index c.name-item.result (omega arith) c.name-item.is in
    c.in_ok-push_new.ensures ∙ rw (c.loop-name.invariant, c.column_of.ensures) (sym more)
