use Rattle.std.proofs.Common.{◌≡◌, ◌++◌, length, string_bytes}
use denote.Text.{Utf8}
use denote.Shadow.{shadow}
use Rattle.pm_lexer.specs.Pieces.{single_quotes}
use Rattle.pm_lexer.proofs.unquote.single_quotes.Given as goal

abbrev pub invariant-pieces : goal.invariant-pieces
invariant-pieces l = record {
  is_text : shadow (Utf8 l.rest);
  read : single_quotes l.quote l.text ≡ string_bytes l.single ++ single_quotes l.quote l.rest;
}

abbrev pub decreases-pieces : goal.decreases-pieces
decreases-pieces l = length l.rest
