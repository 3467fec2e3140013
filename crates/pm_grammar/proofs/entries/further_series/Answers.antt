use Rattle.std.proofs.Common.{rules, arith}
use Rattle.std.proofs.lemmas.Result.{err_from_is_err_and}
use Rattle.pm_grammar.specs.Lists.{ends, no_separator, no_entry, another}
use Rattle.pm_grammar.proofs.Furthers.{none_seen}
use Rattle.pm_grammar.proofs.Decided.{refused_by}
use Rattle.pm_grammar.proofs.entries.further_series.Goals as goal

pub returns-then-not-starts : goal.returns-then-not-starts
returns-then-not-starts g c = c.entries.invariant.0 _ (ends c.entries.list c.entries.rest.now (search (rules, c.if-not-starts.ensures)))

pub returns-in_err-separator : goal.returns-in_err-separator
returns-in_err-separator g c =
    let p = err_from_is_err_and c.from_residual.result c.from_residual.ensures.1 in
    rw (p.1, p.2) (refused_by _ _ _ (λ stop h. c.entries.invariant.0 _ (no_separator c.entries.list c.entries.rest.now stop (search (rules, c.if-not-starts.ensures)) h)) c.in_err-separator.ensures.read)

pub returns-in_err-entry : goal.returns-in_err-entry
returns-in_err-entry g c =
    let p = err_from_is_err_and c.from_residual-in_err-entry.result c.from_residual-in_err-entry.ensures.1 in
    let failed = rw c.len.ensures at c.in_err-entry.ensures.read in
    rw (p.1, p.2) (refused_by _ _ _ (λ stop h. c.entries.invariant.0 _ (no_entry c.entries.list c.entries.rest.now _ _ stop (search (rules, c.if-not-starts.ensures)) c.in_ok-separator.ensures.read h)) failed)

pub entries-preserved : goal.entries-preserved
entries-preserved g c =
    let read = rw c.len.ensures at c.in_ok-entry.ensures.read in
    let within = c.entries.invariant.1 in
    rw c.in_ok-push.ensures.ok ((λ all more. c.entries.invariant.0 all (another c.entries.list c.entries.rest.now _ _ _ _ all (search (rules, c.if-not-starts.ensures)) c.in_ok-separator.ensures.read read more)), omega (arith, c.in_ok-separator.ensures.follows, c.in_ok-entry.ensures.follows, within))

pub returns : goal.returns
returns g c = c.entries.invariant.0 _ (ends c.entries.list c.entries.rest.now (none_seen g.E.Series.starts c.entries.rest.now (omega (arith, c.entries.invariant.1))))
