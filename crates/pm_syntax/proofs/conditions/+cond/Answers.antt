use Rattle.std.proofs.Common.{arith, ◌+◌, ◌-◌, length, sym, ◌∙◌}
use Rattle.std.proofs.lemmas.Result.{err_from_is_err_and}
use Rattle.pm_lexer.specs.declared.symbol.Symbol.TheVariants as symbol
use Rattle.pm_lexer.specs.Symbol.{is}
use Rattle.pm_syntax.specs.Reading.{ands_at, part_at, part_peek}
use Rattle.pm_grammar.proofs.Turns.{more_ends, more_stops, token_took, token_fails}
use Rattle.pm_grammar.proofs.Outcomes.{fails_through}
use Rattle.pm_syntax.proofs.Steps.{ands_fail, cond_fails}
use Rattle.pm_syntax.proofs.conditions.+cond.Goals as goal

pub more_parts-returns-in_default : goal.more_parts-returns-in_default
more_parts-returns-in_default t c = sym c.parts.invariant ∙ more_stops (is symbol.And) _ _ _ _ _ c.parts.members c.parts.rest.now c.in_default.ensures

pub more_parts-returns-in_err-member : goal.more_parts-returns-in_err-member
more_parts-returns-in_err-member t c =
    let p = err_from_is_err_and c.from_residual.result c.from_residual.ensures.1 in
    let n = length c.args.rest.now - c.parts.counter in
    let seen = c.in-Some.ensures in
    let failed = rw (seen.1, c.len.ensures) at c.in_err-member.ensures in
    rw (p.1, p.2, ← c.parts.invariant) (fails_through _ _ _ (λ stop h. token_fails (is symbol.And) (part_peek c.args.depth) (part_at c.args.grouped c.args.depth) 256 n (n - 1) c.parts.members c.parts.rest.now stop (omega arith) seen.0 h) failed)

pub more_parts-parts-preserved : goal.more_parts-parts-preserved
more_parts-parts-preserved t c =
    let seen = c.in-Some.ensures in
    let read = rw (seen.1, c.len.ensures) at c.in_ok-member.ensures in
    let n = length c.args.rest.now - c.parts.counter in
    let took = token_took (is symbol.And) (part_peek c.args.depth) (part_at c.args.grouped c.args.depth) 256 n (length c.args.rest.now - (c.parts.counter + 1)) c.parts.members c.parts.rest.now _ _ (omega arith) seen.0 read in
    rw c.in_ok-push.ensures.ok (sym took ∙ c.parts.invariant)

pub more_parts-returns : goal.more_parts-returns
more_parts-returns t c = sym c.parts.invariant ∙ more_ends (is symbol.And) _ _ _ _ _ c.parts.members c.parts.rest.now (omega arith)

pub more_ands-returns-in_default : goal.more_ands-returns-in_default
more_ands-returns-in_default t c = sym c.ands.invariant ∙ more_stops (is symbol.Or) _ _ _ _ _ c.ands.members c.ands.rest.now c.in_default.ensures

pub more_ands-returns-in_err-member : goal.more_ands-returns-in_err-member
more_ands-returns-in_err-member t c =
    let p = err_from_is_err_and c.from_residual.result c.from_residual.ensures.1 in
    let n = length c.args.rest.now - c.ands.counter in
    let seen = c.in-Some.ensures in
    let failed = rw (seen.1, c.len.ensures) at c.in_err-member.ensures in
    rw (p.1, p.2, ← c.ands.invariant) (fails_through _ _ _ (λ stop h. token_fails (is symbol.Or) (part_peek c.args.depth) (ands_at (part_peek c.args.depth) (part_at c.args.grouped c.args.depth)) 256 n (n - 1) c.ands.members c.ands.rest.now stop (omega arith) seen.0 h) failed)

pub more_ands-ands-preserved : goal.more_ands-ands-preserved
more_ands-ands-preserved t c =
    let seen = c.in-Some.ensures in
    let read = rw (seen.1, c.len.ensures) at c.in_ok-member.ensures in
    let n = length c.args.rest.now - c.ands.counter in
    let took = token_took (is symbol.Or) (part_peek c.args.depth) (ands_at (part_peek c.args.depth) (part_at c.args.grouped c.args.depth)) 256 n (length c.args.rest.now - (c.ands.counter + 1)) c.ands.members c.ands.rest.now _ _ (omega arith) seen.0 read in
    rw c.in_ok-push.ensures.ok (sym took ∙ c.ands.invariant)

pub more_ands-returns : goal.more_ands-returns
more_ands-returns t c = sym c.ands.invariant ∙ more_ends (is symbol.Or) _ _ _ _ _ c.ands.members c.ands.rest.now (omega arith)

pub cond-returns-in_err-members : goal.cond-returns-in_err-members
cond-returns-in_err-members t c =
    let p = err_from_is_err_and c.from_residual-in_err-members.result c.from_residual-in_err-members.ensures.1 in
    let failed = rw (c.in_ok-push.ensures.ok, c.new-members.ensures) at c.in_err-members.ensures in
    rw (p.1, p.2) (cond_fails (part_peek c.args.depth) (part_at c.args.grouped c.args.depth) c.args.tokens.now _ _ _ c.in_ok-first.ensures failed)

pub part_and-returns-in_err-members : goal.part_and-returns-in_err-members
part_and-returns-in_err-members t c =
    let p = err_from_is_err_and c.from_residual-in_err-members.result c.from_residual-in_err-members.ensures.1 in
    let failed = rw (c.in_ok-push.ensures.ok, c.new-members.ensures) at c.in_err-members.ensures in
    rw (p.1, p.2) (ands_fail (part_peek c.args.depth) (part_at c.args.grouped c.args.depth) c.args.tokens.now _ _ _ c.in_ok-first.ensures failed)
