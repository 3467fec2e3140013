use Rattle.std.proofs.Common.{◌≡◌, false, true, rules, arith}
use Rattle.std.proofs.lemmas.Result.{err_from_is_err_and}
use Rattle.pm_grammar.specs.Reading.{sees}
use Rattle.pm_grammar.specs.Lists.{ends, no_entry, another}
use Rattle.pm_grammar.proofs.Furthers.{none_seen}
use Rattle.pm_grammar.proofs.Turns.{seen}
use Rattle.pm_grammar.proofs.Decided.{refused_by, dropped, both_seen, and_first, and_second}
use Rattle.pm_grammar.proofs.entries.further_while.Goals as goal

pub returns-in_default : goal.returns-in_default
returns-in_default g c = c.entries.invariant.0 _ (ends c.entries.list c.entries.rest.now (and_first _ _ c.in_default.ensures))

pub returns-then-not-sees : goal.returns-then-not-sees
returns-then-not-sees g c =
    let none : sees (g.U.Terminal.accepts c.args.first) c.in-Some.next.now ≡ false = search (rules, c.if-not-sees.ensures) in
    c.entries.invariant.0 _ (ends c.entries.list c.entries.rest.now (and_second _ _ (rw c.in-Some.ensures.1 at none)))

pub returns-in_err-entry : goal.returns-in_err-entry
returns-in_err-entry g c =
    let p = err_from_is_err_and c.from_residual.result c.from_residual.ensures.1 in
    let next = c.in-Some.ensures in
    let t = seen (g.T.Terminal.accepts c.args.separator) c.entries.rest.now next.0 in
    let begins : sees (g.U.Terminal.accepts c.args.first) c.in-Some.next.now ≡ true = search (rules, c.if-not-sees.ensures) in
    let failed = rw (next.1, c.len.ensures) at c.in_err-entry.ensures.read in
    rw (p.1, p.2) (refused_by _ _ _ (λ stop h. c.entries.invariant.0 _ (no_entry c.entries.list c.entries.rest.now t.0 _ stop (both_seen (g.T.Terminal.accepts c.args.separator) (g.U.Terminal.accepts c.args.first) c.entries.rest.now next.0 (rw next.1 at begins)) t.1 h)) failed)

pub entries-preserved : goal.entries-preserved
entries-preserved g c =
    let next = c.in-Some.ensures in
    let t = seen (g.T.Terminal.accepts c.args.separator) c.entries.rest.now next.0 in
    let begins : sees (g.U.Terminal.accepts c.args.first) c.in-Some.next.now ≡ true = search (rules, c.if-not-sees.ensures) in
    let read = rw (next.1, c.len.ensures) at c.in_ok-entry.ensures.read in
    let less = dropped (g.T.Terminal.accepts c.args.separator) c.entries.rest.now next.0 in
    let follows = rw next.1 at c.in_ok-entry.ensures.follows in
    let within = c.entries.invariant.1 in
    rw c.in_ok-push.ensures.ok ((λ all more. c.entries.invariant.0 all (another c.entries.list c.entries.rest.now t.0 _ _ _ all (both_seen (g.T.Terminal.accepts c.args.separator) (g.U.Terminal.accepts c.args.first) c.entries.rest.now next.0 (rw next.1 at begins)) t.1 read more)), omega (arith, less, follows, within))

pub returns : goal.returns
returns g c =
    c.entries.invariant.0 _ (ends c.entries.list c.entries.rest.now (and_first _ _ (none_seen (g.T.Terminal.accepts c.args.separator) c.entries.rest.now (omega (arith, c.entries.invariant.1)))))
