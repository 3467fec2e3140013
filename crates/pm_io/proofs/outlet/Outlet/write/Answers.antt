use Rattle.std.proofs.Common.{◌≡◌, ◌≢◌, ◌∙◌, ◌+◌, ◌<◌, ◌≤◌, take, length, arith, length-take, take-take, subst, sym, ap}
use Rattle.std.proofs.lemmas.Bool.{iff_false, eq-eqb}
use Rattle.std.proofs.lemmas.List.Elements.{All-from_get_or}
use Rattle.pm_io.specs.LineStart.{start_of, line_after, EndsProgress}
use Rattle.pm_io.proofs.Lines.{empty_after_feed, unended_part}
use Rattle.pm_io.proofs.Feeds.{length_rest, feed_at, no_feed_up_to, line_after_rest, unended_to_feed}
use Rattle.pm_io.proofs.outlet.Outlet.write.Goals as goal

pub pass_line-requires-clause-feed : goal.pass_line-requires-clause-feed
pass_line-requires-clause-feed g c line begun =
    let front = take c.min.result c.args.piece.now in
    let within : c.loop-n.at + c.in-Some.n < length front =
    omega (arith, c.in-Some.ensures.0.high, length_rest front c.loop-n.at)
    in
    empty_after_feed line front _ within (feed_at front c.loop-n.at c.in-Some.n c.in-Some.ensures.1)

pub loop-n-preserved : goal.loop-n-preserved
loop-n-preserved g c =
    let front = take c.min.result c.args.piece.now in
    let at = c.loop-n.at in
    let n = c.in-Some.n in
    let within : at + n < length front = omega (arith, c.in-Some.ensures.0.high, length_rest front at) in
    record {
      within = omega (arith, within);
      bytes = c.loop-n.invariant.bytes;
      room = c.loop-n.invariant.room;
      some = c.loop-n.invariant.some;
      same_line = c.loop-n.invariant.same_line;
      line = λ line begun. sym (empty_after_feed line front _ within (feed_at front at n c.in-Some.ensures.1));
      unended = λ line m begun most ends. unended_to_feed line front at n m _ within
          (c.after_part.ensures _ (c.loop-n.invariant.line line begun) ∙ ap start_of (line_after_rest line front at (at + n) (omega arith)))
          (iff_false c.is_progress.ensures c.if-is_progress.false)
          (λ i early. c.loop-n.invariant.unended line i begun early) c.in-Some.ensures.0.before most ends;
    }

-- no line feed is left
pub after_part-self-inside-requires : goal.after_part-self-inside-requires
after_part-self-inside-requires g c =
    All-from_get_or (λ byte. byte ≢ 10) _ 0 (λ k within is. c.in_default.ensures k (omega arith) within (eq-eqb _ _ is))

pub returns-clause-line : goal.returns-clause-line
returns-clause-line g c line begun =
    let front = take c.min.result c.args.piece.now in
    let at = c.loop-n.at in
    let k = c.min.result in
    let taken : take (length front) front ≡ take (length front) c.args.piece.now =
    take-take (length front) k c.args.piece.now (omega (arith, length-take k c.args.piece.now))
    in
    c.gather.ensures.line ∙ c.after_part-self-inside.ensures _ (c.loop-n.invariant.line line begun) ∙
    ap start_of (line_after_rest line front at (length front) c.loop-n.invariant.within ∙ ap (line_after line) taken)

-- none of the bytes that were gathered ends a progress line
pub returns-clause-shown : goal.returns-clause-shown
returns-clause-shown g c line m begun most ends =
    let k = c.min.result in
    let front = take k c.args.piece.now in
    let at = c.loop-n.at in
    let shorter : m ≤ k = omega (arith, most, length-take k c.args.piece.now) in
    let same : take m front ≡ take m c.args.piece.now = take-take m k c.args.piece.now shorter in
    absurd (
    unended_part line front at m most
    (λ i early. c.loop-n.invariant.unended line i begun early)
    (λ i low high. no_feed_up_to front at _ c.in_default.ensures i low
    (omega (arith, high, most, length_rest front at, c.loop-n.invariant.within)))
    (subst (EndsProgress line) (sym same) ends)
    )
