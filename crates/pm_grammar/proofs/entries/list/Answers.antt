use Rattle.std.proofs.lemmas.Result.{err_from_is_err_and}
use Rattle.pm_grammar.specs.Lists.{no_first, entries}
use Rattle.pm_grammar.proofs.Decided.{refused_by, read_through}
use Rattle.pm_grammar.proofs.entries.list.Goals as goal

pub returns-in_err-first : goal.returns-in_err-first
returns-in_err-first g c =
    let p = err_from_is_err_and c.from_residual.result c.from_residual.ensures.1 in
    rw (p.1, p.2) (refused_by _ _ _ (λ stop h. no_first c.args.tokens.now stop h) c.in_err-first.ensures.read)

pub returns : goal.returns
returns g c = read_through (λ x. (x.0, x.1.now)) c.further.result _ _ (λ read more. entries c.args.tokens.now _ _ read c.in_ok-first.ensures.read more) (rw (c.in_ok-push.ensures.ok, c.new-list.ensures) at c.further.ensures)
