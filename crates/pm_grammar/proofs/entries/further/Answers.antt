use Rattle.std.proofs.Common.{arith}
use Rattle.std.proofs.lemmas.Result.{err_from_is_err_and}
use Rattle.pm_grammar.specs.Lists.{ends, no_entry, another}
use Rattle.pm_grammar.proofs.Furthers.{none_seen}
use Rattle.pm_grammar.proofs.Turns.{seen}
use Rattle.pm_grammar.proofs.Decided.{refused_by, dropped}
use Rattle.pm_grammar.proofs.entries.further.Goals as goal

pub returns-in_default : goal.returns-in_default
returns-in_default g c = c.entries.invariant.0 _ (ends c.entries.list c.entries.rest.now c.in_default.ensures)

pub returns-in_err-entry : goal.returns-in_err-entry
returns-in_err-entry g c =
    let p = err_from_is_err_and c.from_residual.result c.from_residual.ensures.1 in
    let next = c.in-Some.ensures in
    let t = seen (g.T.Terminal.accepts c.args.separator) c.entries.rest.now next.0 in
    let failed = rw (next.1, c.len.ensures) at c.in_err-entry.ensures.read in
    rw (p.1, p.2) (refused_by _ _ _ (λ stop h. c.entries.invariant.0 _ (no_entry c.entries.list c.entries.rest.now t.0 _ stop next.0 t.1 h)) failed)

pub entries-preserved : goal.entries-preserved
entries-preserved g c =
    let next = c.in-Some.ensures in
    let t = seen (g.T.Terminal.accepts c.args.separator) c.entries.rest.now next.0 in
    let read = rw (next.1, c.len.ensures) at c.in_ok-entry.ensures.read in
    let less = dropped (g.T.Terminal.accepts c.args.separator) c.entries.rest.now next.0 in
    let follows = rw next.1 at c.in_ok-entry.ensures.follows in
    let within = c.entries.invariant.1 in
    rw c.in_ok-push.ensures.ok ((λ all more. c.entries.invariant.0 all (another c.entries.list c.entries.rest.now t.0 _ _ _ all next.0 t.1 read more)), omega (arith, less, follows, within))

pub returns : goal.returns
returns g c = c.entries.invariant.0 _ (ends c.entries.list c.entries.rest.now (none_seen (g.T.Terminal.accepts c.args.separator) c.entries.rest.now (omega (arith, c.entries.invariant.1))))
