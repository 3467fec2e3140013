use Rattle.std.proofs.Common.{length, ◌-◌, ◌≡◌, ◌≤◌, ◌+◌, drop}
use Rattle.pm_lexer.specs.Pieces.{single_quotes}
use Rattle.pm_lexer.proofs.head.single_quotes_len.Given as goal

abbrev pub invariant-loop-at : goal.invariant-loop-at
invariant-loop-at l = record {
  within : l.at ≤ length l.text;
  fewer : l.count ≤ l.at;
  counted : length (single_quotes l.quote l.text) ≡ l.count + length (single_quotes l.quote (drop l.at l.text));
}

abbrev pub decreases-loop-at : goal.decreases-loop-at
decreases-loop-at l = length l.text - l.at
