use Rattle.std.proofs.Common.{◌∙◌, ap, Err, arith}
use Rattle.std.proofs.lemmas.Result.{err_from_is_err_and}
use Rattle.pm_syntax.specs.declared.tree.Atom.TheVariants as atom
use Rattle.pm_names.specs.Kinds.{kind_breaches}
use Rattle.pm_names.proofs.Along.{told_at, none_more}
use Rattle.pm_names.proofs.kinds.check_literals.Goals as goal

pub returns-in_err-check_literal : goal.returns-in_err-check_literal
returns-in_err-check_literal c =
    let p = err_from_is_err_and c.from_residual.result c.from_residual.ensures.1 in
    told_at (λ x. kind_breaches c.args.known.now c.args.of.now (atom.Literal x) c.args.at) c.args.literals.now c.loop-literal.literal-index _ _ _ (omega arith) c.literal-item.is c.loop-literal.invariant c.in_err-check_literal.ensures (p.1 ∙ ap Err p.2)

pub loop-literal-preserved : goal.loop-literal-preserved
loop-literal-preserved c =
    none_more (λ x. kind_breaches c.args.known.now c.args.of.now (atom.Literal x) c.args.at) c.args.literals.now c.loop-literal.literal-index _ (omega arith) c.literal-item.is c.loop-literal.invariant c.in_ok-check_literal.ensures
